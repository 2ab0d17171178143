use Rattle.smi_show.proofs.IndexValues.{one_prefix}
use Rattle.smi_show.proofs.index.part.one_part_reading.Goals as goal

pub returns : goal.returns
returns c = one_prefix

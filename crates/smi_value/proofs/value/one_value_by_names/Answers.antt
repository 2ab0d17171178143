use Rattle.smi_value.proofs.ValueUnique.{value_once}
use Rattle.smi_value.proofs.value.one_value_by_names.Goals as goal

pub returns : goal.returns
returns c = value_once

use Rattle.smi_value.proofs.HintUnique.{same_by_hint}
use Rattle.smi_value.proofs.hint.write.one_text.Goals as goal

pub returns : goal.returns
returns c = same_by_hint

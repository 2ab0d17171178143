use Rattle.smi_tree.proofs.TypesSingle.{one_syntax}
use Rattle.smi_tree.proofs.laws.one_syntax.Goals as goal

pub returns : goal.returns
returns c = one_syntax

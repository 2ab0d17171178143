use Rattle.smi_tree.proofs.Single.{one_tree}
use Rattle.smi_tree.proofs.laws.one_tree.Goals as goal

pub returns : goal.returns
returns c = λ ms t u ws vs a b. one_tree ms (c.one_loading.ensures ms) t u ws vs a b

use Rattle.smi_tree.proofs.Soundness.{root_or_defined}
use Rattle.smi_tree.proofs.laws.defined_nodes.Goals as goal

pub returns : goal.returns
returns c = root_or_defined

use Rattle.smi_tree.proofs.SoundNames.{id_is}
use Rattle.smi_tree.proofs.laws.nodes_have_identifiers.Goals as goal

pub returns : goal.returns
returns c = id_is

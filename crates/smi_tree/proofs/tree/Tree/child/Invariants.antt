use Rattle.smi_tree.proofs.Childhood.{IsLowestFrom}
use Rattle.smi_tree.proofs.tree.Tree.child.Given as goal

abbrev pub invariant-nodes : goal.invariant-nodes
invariant-nodes l = IsLowestFrom l.self.nodes l.oid l.label l.id l.child

abbrev pub decreases-nodes : goal.decreases-nodes
decreases-nodes l = l.id

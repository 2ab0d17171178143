-- The nodes with the label are searched from the last to the first.
use Rattle.smi_tree.proofs.Childhood.{search_begins, search_moves}
use Rattle.smi_tree.proofs.tree.Tree.child.Goals as goal

pub nodes-init : goal.nodes-init
nodes-init c = search_begins _ _ _ _ c.in_ok-first.ensures c.previous_of-id.ensures (rw c.oids.ensures at c.lower_child-child.ensures)

pub nodes-preserved : goal.nodes-preserved
nodes-preserved c =
    search_moves _ _ _ c.nodes.invariant c.previous_of-id-in-nodes.ensures (rw c.oids-in-nodes.ensures at c.lower_child-child-in-nodes.ensures)

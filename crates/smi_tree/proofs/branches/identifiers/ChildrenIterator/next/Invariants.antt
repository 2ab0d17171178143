use Rattle.std.proofs.Common.{◌≡◌, length}
use Rattle.smi_tree.specs.branches.Children.{ids_left}
use Rattle.smi_tree.proofs.branches.identifiers.ChildrenIterator.next.Given as goal

abbrev pub invariant-left : goal.invariant-left
invariant-left l = ids_left l.self ≡ ids_left l.initial.self

abbrev pub decreases-left : goal.decreases-left
decreases-left l = length l.self.left

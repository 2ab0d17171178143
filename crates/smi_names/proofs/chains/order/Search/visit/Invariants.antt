use Rattle.std.proofs.Common.{◌≢◌, ℕ, vec_len}
use Rattle.smi_names.specs.private.Search.{Keeps, ReachesSettled, mark_at}
use Rattle.smi_names.specs.declared.chains.order.Mark.TheVariants as M
use Rattle.smi_names.proofs.chains.order.Search.visit.Given as goal

abbrev pub invariant-down : goal.invariant-down
invariant-down l =
    Keeps l.next l.self.marks.items l.self.order.items l.self.path.items
    × ReachesSettled l.next l.self.order.items l.self.path.items
    × (mark_at l.self.marks.items l.start ≢ M.New)
    × ((p : ℕ) → mark_at l.fn.self.marks.items p ≢ M.New → mark_at l.self.marks.items p ≢ M.New)

abbrev pub decreases-down : goal.decreases-down
decreases-down l = vec_len l.self.path

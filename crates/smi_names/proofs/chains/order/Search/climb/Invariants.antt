use Rattle.std.proofs.Common.{◌≡◌, ◌≢◌, ◌⊎◌, ℕ, Some}
use Rattle.smi_names.specs.private.Search.{Keeps, Follows, mark_at}
use Rattle.smi_names.specs.declared.chains.order.Mark.TheVariants as M
use Rattle.smi_names.proofs.Search.{news}
use Rattle.smi_names.proofs.chains.order.Search.climb.Given as goal

abbrev pub invariant-up : goal.invariant-up
invariant-up l =
    Keeps l.next l.self.marks.items l.self.order.items l.self.path.items
    × Follows l.next l.self.path.items (Some l.start) l.to
    × ((l.to ≡ Some l.start) ⊎ (mark_at l.self.marks.items l.start ≢ M.New))
    × ((p : ℕ) → mark_at l.initial.self.marks.items p ≢ M.New → mark_at l.self.marks.items p ≢ M.New)

abbrev pub decreases-up : goal.decreases-up
decreases-up l = news l.self.marks.items

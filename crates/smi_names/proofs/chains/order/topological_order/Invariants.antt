use Rattle.std.proofs.Common.{◌≡◌, ◌≢◌, ℕ, ◌<◌, []}
use Rattle.smi_names.specs.private.Search.{Keeps, mark_at}
use Rattle.smi_names.specs.declared.chains.order.Mark.TheVariants as M
use Rattle.smi_names.proofs.chains.order.topological_order.Given as goal

abbrev pub invariant-starts : goal.invariant-starts
invariant-starts l =
    Keeps l.next l.search.marks.items l.search.order.items l.search.path.items
    × (l.search.path.items ≡ [])
    × ((p : ℕ) → p < l.start → mark_at l.search.marks.items p ≢ M.New)

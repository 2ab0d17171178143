use Rattle.std.proofs.Common.{◌≡◌, ℕ, ◌<◌, map, take, false}
use Rattle.std.specs.{List.list_any, Ordering.nat_cmp, Ordering.eq_by_cmp, Cmp.Lexicographic.slice_cmp}
use Rattle.snmp_agent.proofs.table.has_beginning.Given as goal

abbrev pub invariant-ends : goal.invariant-ends
invariant-ends l = (k : ℕ) → k < l.end → list_any (eq_by_cmp (slice_cmp nat_cmp) (take k l.name)) (map (λ object. object.items) l.objects.keys) ≡ false

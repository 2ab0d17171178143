use Rattle.std.proofs.Common.{arith, ◌≡◌, List, ℕ, true, false, Some, ◌∙◌, ap, sym, Ordering}
use Rattle.std.proofs.lemmas.Grind.{common_steps}
use Rattle.std.specs.{List.slice_get, Ordering.is_gt, Ordering.is_le, Ordering.nat_cmp, Cmp.Lexicographic.slice_cmp}
use Rattle.snmp_wire.specs.Message.{VarBind}
use Rattle.snmp_agent.specs.table.Pages.{begins_up_to}
use Rattle.snmp_agent.proofs.{Lists.last_of, SortedEntries.same_name}
use Rattle.snmp_agent.proofs.table.pages.splits_at.Goals as goal

-- if a comparison of the row's name with `o` returned `r`, then `r` is how they compare
order : (o : List ℕ) {row name : List ℕ} {r s : Ordering} → name ≡ row → s ≡ slice_cmp nat_cmp name o → s ≡ r → slice_cmp nat_cmp row o ≡ r
order o {row} {name} same compared is = ap (λ (p : List ℕ). slice_cmp nat_cmp p o) (sym same) ∙ sym compared ∙ is

greater : (r : Ordering) → is_gt r ≡ true → is_le r ≡ false
greater r e = grind (arith, common_steps)

begins : (o : List ℕ) (rows : List VarBind) (next : VarBind) → slice_get rows 0 ≡ Some next → is_le (slice_cmp nat_cmp next.name o) ≡ false
    → begins_up_to o rows ≡ false
begins o rows next at after = grind (arith, common_steps)

-- if the names are equal, then `prefix` ends with the row of the name
pub returns-in-Equal : goal.returns-in-Equal
returns-in-Equal c = grind (arith, common_steps, order, last_of, same_name)

-- if the last name of `prefix` is smaller, then the answer is whether `rows` begins with a greater name
pub returns-in-Some-first : goal.returns-in-Some-first
returns-in-Some-first c = grind (arith, common_steps, order, greater, last_of, begins)

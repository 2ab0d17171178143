-- Lines define at most one table.
use Rattle.std.proofs.Common.{arith, ◌≡◌, ◌↔◌, ℕ, Bool, true, List, ◌∙◌, ap, Option, Some}
use Rattle.std.proofs.lemmas.Grind.{common_steps}
use Rattle.std.specs.{Ordering.nat_cmp, Cmp.Lexicographic.slice_cmp, Cmp.Lexicographic.nat_list_cmp_total, FinMap.FinMap, FinMap.get, FinMap.same_map}
use Rattle.std.specs.{FinMap.nat_cmp-IsAntisymmetric, FinMap.slice_cmp-IsAntisymmetric, FinSet.FinSet, FinSet.contains, FinSet.same_set}
use Rattle.snmp_wire.specs.Message.{Datum}
use Rattle.snmp_agent.specs.{table.Table.MibView, table.Stated.IsTableIn, table.Stated.IsTableOf}
use Rattle.snmp_agent.specs.table.Format.{Format, IsFormat, IsMarked, Names, first_format}

-- two options with the same values are the same
same_option : {X : Type 0} (a b : Option X) → ((x : X) → a ≡ Some x → b ≡ Some x) → ((x : X) → b ≡ Some x → a ≡ Some x) → a ≡ b
same_option a b f g = grind (arith, common_steps)

same_bool : (a b : Bool) → (a ≡ true → b ≡ true) → (b ≡ true → a ≡ true) → a ≡ b
same_bool a b f g = grind (arith, common_steps)

one_view_in : (format : Format) (lines : List (List ℕ)) (v w : MibView) → IsTableIn format lines v → IsTableIn format lines w → v ≡ w
one_view_in format lines v w h k =
    let rows : v.rows ≡ w.rows = same_map nat_list_cmp_total (slice_cmp-IsAntisymmetric nat_cmp-IsAntisymmetric) v.rows w.rows
    (λ o. same_option (get v.rows o) (get w.rows o)
    (λ x e. (k.rows (record { name = o; value = x })).1 ((h.rows (record { name = o; value = x })).0 e))
    (λ x e. (h.rows (record { name = o; value = x })).1 ((k.rows (record { name = o; value = x })).0 e))) in
    let objects : v.objects ≡ w.objects = same_set nat_list_cmp_total (slice_cmp-IsAntisymmetric nat_cmp-IsAntisymmetric) v.objects w.objects
    (λ o. same_bool (contains v.objects o) (contains w.objects o)
    (λ e. (k.objects o).1 ((h.objects o).0 e))
    (λ e. (h.objects o).1 ((k.objects o).0 e))) in
    ap (λ (r : FinMap (slice_cmp nat_cmp) Datum). record { rows = r; objects = v.objects }) rows
    ∙ ap (λ (s : FinSet (slice_cmp nat_cmp)). record { rows = w.rows; objects = s }) objects

-- lines have at most one format
pub one_format : (names : Names) (lines : List (List ℕ)) (f g : Format) → IsFormat names lines f → IsFormat names lines g → g ≡ f
one_format names lines f g h k = grind (arith, common_steps)

pub one_view : (names : Names) (lines : List (List ℕ)) (v w : MibView) → IsTableOf names lines v → IsTableOf names lines w → v ≡ w
one_view names lines v w h k = one_view_in h.0 lines v w h.2 (rw (← one_format names lines h.0 k.0 h.1 k.1) k.2)

-- lines without the mark have the first format
pub without_mark : (names : Names) (lines : List (List ℕ)) (P : Format → Type 0)
    → (IsMarked lines → ⊥) → ((format : Format) × IsFormat names lines format × P format) ↔ P first_format
without_mark names lines P unmarked = grind (arith, common_steps, one_format)

-- If a row is put or removed, then Gets of other names stay the same (`got_elsewhere`, `still_got`). A put and a removal can be exchanged if their names
-- differ (`two_names`); a put and then a removal of the same name are the removal (`put_and_removed`).
use Rattle.std.proofs.Common.{◌≡◌, ◌↔◌, ◌∙◌, Bool, true, false, cond, List, ℕ, Some, None, Ordering, refl, sym, ap}
use Rattle.std.specs.{Ordering.nat_cmp, Ordering.is_eq, Ordering.eq_by_cmp, Cmp.tied_itself, Cmp.Lexicographic.slice_cmp}
use Rattle.std.specs.Cmp.Lexicographic.{nat_list_cmp_total}
use Rattle.std.specs.FinMap.{FinMap, get, insert, remove, get-insert, get-remove, same_map, nat_cmp-IsAntisymmetric, slice_cmp-IsAntisymmetric}
use Rattle.snmp_wire.specs.Message.{Datum, VarBind}
use Rattle.snmp_agent.specs.table.Table.{IsGet, IsRow, MibView, variable, unknown_instance, unknown_object, with_row, without_row}
use Rattle.snmp_agent.proofs.ChangedEntries.{tied}

abbrev cmp : List ℕ → List ℕ → Ordering
cmp = slice_cmp nat_cmp

abbrev Rows : Type 0
Rows = FinMap (slice_cmp nat_cmp) Datum

-- ---- the comparison of two names

own_name : (o : List ℕ) → eq_by_cmp cmp o o ≡ true
own_name o = ap is_eq (tied_itself nat_list_cmp_total o)

other_name : (o q : List ℕ) → (q ≡ o → ⊥) → eq_by_cmp cmp q o ≡ false
other_name o q other =
    elim (eq_by_cmp cmp q o) as (λ b. eq_by_cmp cmp q o ≡ b → b ≡ false) [
      | true ↦ λ is. absurd (other (tied q o true is refl))
      | false ↦ λ _. refl
    ] refl

-- ---- Gets

-- if a look-up of `q` finds the same in `view.rows` and in `rows`, and a Get of `q` returns `p` from `view`, then it returns `p` from the view with `rows` too
same_get : (view : MibView) (rows : Rows) (q : List ℕ) (p : VarBind) → get view.rows q ≡ get rows q → IsGet view q p
    → IsGet (record { rows = rows; objects = view.objects }) q p
same_get view rows q p same (variable named row) =
    variable named (ap (get rows) named ∙ (sym same ∙ (ap (get view.rows) (sym named) ∙ row)))
same_get view rows q p same (unknown_object none never is) = unknown_object (sym same ∙ none) never is
same_get view rows q p same (unknown_instance none object is) = unknown_instance (sym same ∙ none) object is

pub got_put : (view : MibView) (o : List ℕ) (v : Datum) → IsGet (with_row view o v) o (record { name = o; value = v })
got_put view o v =
    variable refl (get-insert nat_list_cmp_total view.rows o v o ∙ ap (λ b. cond b (Some v) (get view.rows o)) (own_name o))

pub got_elsewhere : (view : MibView) (o q : List ℕ) (v : Datum) (p : VarBind) → (q ≡ o → ⊥)
    → IsGet (with_row view o v) q p ↔ IsGet view q p
got_elsewhere view o q v p other =
    let same : get (insert view.rows o v) q ≡ get view.rows q =
    get-insert nat_list_cmp_total view.rows o v q ∙ ap (λ b. cond b (Some v) (get view.rows q)) (other_name o q other) in
    (same_get (with_row view o v) view.rows q p same, same_get view (insert view.rows o v) q p (sym same))

pub none_left : (view : MibView) (o : List ℕ) (p : VarBind) → IsRow (without_row view o) p → p.name ≡ o → ⊥
none_left view o p row named =
    let gone : get (remove view.rows o) p.name ≡ None =
    get-remove nat_list_cmp_total view.rows o p.name
    ∙ ap (λ b. cond b None (get view.rows p.name)) (ap (λ n. eq_by_cmp cmp n o) named ∙ own_name o) in
    cc

pub still_got : (view : MibView) (o q : List ℕ) (p : VarBind) → (q ≡ o → ⊥) → IsGet (without_row view o) q p ↔ IsGet view q p
still_got view o q p other =
    let same : get (remove view.rows o) q ≡ get view.rows q =
    get-remove nat_list_cmp_total view.rows o q ∙ ap (λ b. cond b None (get view.rows q)) (other_name o q other) in
    (same_get (without_row view o) view.rows q p same, same_get view (remove view.rows o) q p (sym same))

-- ---- two changes of a table, one after the other

same_view : (view : MibView) (m n : Rows) → ((q : List ℕ) → get m q ≡ get n q)
    → ◌≡◌ {A = MibView} (record { rows = m; objects = view.objects }) (record { rows = n; objects = view.objects })
same_view view m n each =
    ap (λ (rows : Rows). record { rows = rows; objects = view.objects })
    (same_map nat_list_cmp_total (slice_cmp-IsAntisymmetric nat_cmp-IsAntisymmetric) m n each)

within : {X : Type 0} (b : Bool) (x y z : X) → cond b x (cond b y z) ≡ cond b x z
within true x y z = refl
within false x y z = refl

apart : {X : Type 0} (a b : Bool) (x y z : X) → (a ≡ true → b ≡ true → ⊥) → cond a x (cond b y z) ≡ cond b y (cond a x z)
apart true true x y z never = absurd (never refl refl)
apart true false x y z never = refl
apart false b x y z never = refl

pub put_and_removed : (view : MibView) (o : List ℕ) (v : Datum) → without_row (with_row view o v) o ≡ without_row view o
put_and_removed view o v =
    same_view view (remove (insert view.rows o v) o) (remove view.rows o) (λ q.
    let ties : Bool = eq_by_cmp cmp q o in
    get-remove nat_list_cmp_total (insert view.rows o v) o q
    ∙ (ap (cond ties None) (get-insert nat_list_cmp_total view.rows o v q)
    ∙ (within ties None (Some v) (get view.rows q) ∙ sym (get-remove nat_list_cmp_total view.rows o q))))

pub two_names : (view : MibView) (o q : List ℕ) (v : Datum) → (q ≡ o → ⊥)
    → without_row (with_row view o v) q ≡ with_row (without_row view q) o v
two_names view o q v other =
    same_view view (remove (insert view.rows o v) q) (insert (remove view.rows q) o v) (λ n.
    let gone : Bool = eq_by_cmp cmp n q in
    let put : Bool = eq_by_cmp cmp n o in
    get-remove nat_list_cmp_total (insert view.rows o v) q n
    ∙ (ap (cond gone None) (get-insert nat_list_cmp_total view.rows o v n)
    ∙ (apart gone put None (Some v) (get view.rows n) (λ e f. other (sym (tied n q true e refl) ∙ tied n o true f refl))
    ∙ sym (get-insert nat_list_cmp_total (remove view.rows q) o v n
    ∙ ap (cond put (Some v)) (get-remove nat_list_cmp_total view.rows q n)))))

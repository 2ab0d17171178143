-- Each name has exactly one answer to a Get (`one_get`), to a GetNext (`one_next`), and to a
-- repeated GetNext (`one_next_after`).
use Rattle.std.proofs.{lemmas.Grind.common_steps, lemmas.List.take-append-drop, Math.Seq.take-append_seam}
use Rattle.std.proofs.Common.{◌≡◌, ℕ, zero, suc, ◌+◌, inl, inr, Bool, true, false, List, [], map, length, take, drop, Option, Some, None, Less, Equal}
use Rattle.std.proofs.Common.{Greater, Ordering, refl, sym, ap, subst, ◌∙◌, ⊎_elim, ◌≤◌, arith, cond, length-append, unwrap_or}
use Rattle.std.specs.{Ordering.nat_cmp, Cmp.Lexicographic.slice_cmp, FinMap.get, FinMap.entries, FinSet.contains}
use Rattle.std.proofs.lemmas.Bool.{cases_lt, false≢true, or_cases, or_parts}
use Rattle.snmp_wire.specs.Message.{Datum, no_such_object, no_such_instance, VarBind}
use Rattle.snmp_agent.specs.{table.Exact.HasOne, table.Pages.entries_after, table.Entries.var_of}
use Rattle.snmp_agent.specs.table.Table.{MibView, IsRow, HasObject, IsGet, variable, unknown_object, unknown_instance, IsSuccessor, IsNext, successor}
use Rattle.snmp_agent.specs.table.Table.{end_of_view, IsNextAfter}
use Rattle.snmp_agent.specs.table.Listing.{first_or_end, got_at, has_prefix}
use Rattle.snmp_agent.proofs.{SortedEntries.same_name, SortedEntries.turned, NextEntries.IsOrder, NextEntries.after_name, NextEntries.is_next}

same_binding : (p q : VarBind) → p.name ≡ q.name → p.value ≡ q.value → p ≡ q
same_binding p q name value = λ i. record { name = name i; value = value i }

some_once : (v w : Datum) → Some v ≡ Some w → v ≡ w
some_once v w e = cc

some_none : (v : Datum) → Some v ≡ None → ⊥
some_none v e = let no : ⊥ = cc in no

-- ---- Get

-- if `has_prefix` returns `true`, then an object prefix of the view equals or begins the name `o`
prefix_found : (view : MibView) (o : List ℕ) (n : ℕ) → has_prefix view o n ≡ true → HasObject view o
prefix_found view o zero e = ([], o, e, refl)
prefix_found view o (suc n) e = elim (or_cases _ _ e) [
  | inl here ↦ (take (suc n) o, drop (suc n) o, here, sym (take-append-drop (suc n) o))
  | inr there ↦ prefix_found view o n there
]

-- if `has_prefix` returns `false` for `n`, then no prefix of the name `o` with at most `n` numbers is an object prefix
no_prefix : (view : MibView) (o : List ℕ) (n k : ℕ) → has_prefix view o n ≡ false → k ≤ n → contains view.objects (take k o) ≡ true → ⊥
no_prefix view o zero zero e low is = false≢true (sym e ∙ is)
no_prefix view o zero (suc k) e low is = absurd (omega (arith, low))
no_prefix view o (suc n) k e low is =
    let none = or_parts _ _ e in
    ⊎_elim (λ below. no_prefix view o n k none.1 (omega (arith, below)) is)
    (λ above.
    let same : k ≡ suc n = omega (arith, above, low) in
    false≢true (sym none.0 ∙ ap (λ j. contains view.objects (take j o)) (sym same) ∙ is))
    (cases_lt k (suc n))

pub is_got : (view : MibView) (o : List ℕ) → IsGet view o (got_at view o)
is_got view o = by_value (get view.rows o) refl
  where
    by_prefix : get view.rows o ≡ None → (b : Bool) → has_prefix view o (length o) ≡ b
        → IsGet view o (record { name = o; value = cond b no_such_instance no_such_object })
    by_prefix e true has = unknown_instance e (prefix_found view o (length o) has) refl
    by_prefix e false none = unknown_object e (λ has.
        let prefix : take (length has.0) o ≡ has.0 = ap (take (length has.0)) has.3 ∙ take-append_seam has.0 has.1 in
        let long : length o ≡ length has.0 + length has.1 = ap length has.3 ∙ length-append has.0 has.1 in
        no_prefix view o (length o) (length has.0) none (omega (arith, long)) (ap (contains view.objects) prefix ∙ has.2)) refl

    by_value : (found : Option Datum) → get view.rows o ≡ found
        → IsGet view o (record { name = o; value = unwrap_or found (cond (has_prefix view o (length o)) no_such_instance no_such_object) })
    by_value (Some value) e = variable refl e
    by_value None e = by_prefix e (has_prefix view o (length o)) refl

module _ (view : MibView) (o : List ℕ) where
  row_at : (p : VarBind) → p.name ≡ o → IsRow view p → get view.rows o ≡ Some p.value
  row_at p name row = ap (get view.rows) (sym name) ∙ row

  no_row : (p : VarBind) → p.name ≡ o → IsRow view p → get view.rows o ≡ None → ⊥
  no_row p name row none = some_none p.value (sym (row_at p name row) ∙ none)

  pub same_get : (p q : VarBind) → IsGet view o p → IsGet view o q → p ≡ q
  same_get p q h e = grind (arith, common_steps, same_binding, some_once, row_at, no_row)

pub one_get : (view : MibView) (o : List ℕ) → HasOne (IsGet view o)
one_get view o = (got_at view o, is_got view o, λ q is. same_get view o q (got_at view o) is (is_got view o))

-- ---- GetNext

module _ (order : IsOrder) where
  next : (view : MibView) (o : List ℕ) → (p : VarBind) × IsNext view o p
  next view o =
      let back = after_name view o in
      (first_or_end o (map var_of (entries_after o (entries view.rows))), is_next order view o back.0 (entries_after o (entries view.rows)) back.1)

  -- two successors of a name are the same binding, since neither is between the name and the other
  same_successor : (view : MibView) (o : List ℕ) (p q : VarBind) → IsSuccessor view o p → IsSuccessor view o q → p ≡ q
  same_successor view o p q h k = by_order (slice_cmp nat_cmp p.name q.name) refl
    where
      by_order : (r : Ordering) → slice_cmp nat_cmp p.name q.name ≡ r → p ≡ q
      by_order Less e = absurd (k.nearest p h.row h.after ((order p.name q.name).0 e))
      by_order Greater e = absurd (h.nearest q k.row k.after ((order q.name p.name).0 (turned p.name q.name Greater e)))
      by_order Equal e =
          let name : p.name ≡ q.name = same_name p.name q.name e in
          same_binding p q name (some_once p.value q.value (sym h.row ∙ ap (get view.rows) name ∙ k.row))

  same_next : (view : MibView) (o : List ℕ) (p q : VarBind) → IsNext view o p → IsNext view o q → p ≡ q
  same_next view o p q (successor h) (successor k) = same_successor view o p q h k
  same_next view o p q (successor h) (end_of_view none same) = absurd (none p h.row h.after)
  same_next view o p q (end_of_view none same) (successor k) = absurd (none q k.row k.after)
  same_next view o p q (end_of_view none same) (end_of_view nothing other) = same ∙ sym other

  pub one_next : (view : MibView) (o : List ℕ) → HasOne (IsNext view o)
  one_next view o = let first = next view o in (first.0, first.1, λ q is. same_next view o q first.0 is first.1)

  next_after : (view : MibView) (rounds : ℕ) (o : List ℕ) → (p : VarBind) × IsNextAfter view rounds o p
  next_after view zero o = next view o
  next_after view (suc rounds) o =
      let before = next_after view rounds o in
      let here = next view before.0.name in
      (here.0, (before.0, before.1, here.1))

  same_next_after : (view : MibView) (rounds : ℕ) (o : List ℕ) (p q : VarBind) → IsNextAfter view rounds o p → IsNextAfter view rounds o q → p ≡ q
  same_next_after view zero o p q h k = same_next view o p q h k
  same_next_after view (suc rounds) o p q h k =
      let before : h.0 ≡ k.0 = same_next_after view rounds o h.0 k.0 h.1 k.1 in
      same_next view k.0.name p q (subst (λ (b : VarBind). IsNext view b.name p) before h.2) k.2

  pub one_next_after : (view : MibView) (rounds : ℕ) (o : List ℕ) → HasOne (IsNextAfter view rounds o)
  one_next_after view rounds o =
      let first = next_after view rounds o in (first.0, first.1, λ q is. same_next_after view rounds o q first.0 is first.1)

-- The variables of a view are a list sorted by name. A GetNext returns the first of them after the name, or endOfMibView (`next_first`), and a Get has at
-- most one answer (`get_one`).
use Rattle.std.proofs.Common.{arith, ◌≡◌, inl, inr, ℕ, T, Bool, true, false, List, [], ◌∷◌, map, refl, sym, ◌∙◌, ap, subst, Some, None}
use Rattle.std.proofs.lemmas.Grind.{common_steps}
use Rattle.std.proofs.lemmas.Bool.{false≢true, and_parts, false_from_ne_true, cond-true, cond-false, cond_both}
use Rattle.std.specs.{Prelude.filter, Bool.nat_eq, Ordering.nat_cmp, Ordering.is_lt, Ordering.is_eq, Ordering.eq_by_cmp, Cmp.tied_itself, FinMap.get}
use Rattle.std.specs.{FinMap.entries, FinMap.find, FinMap.is_sorted, FinMap.get-entries, FinMap.entries_sorted, FinMap.Entries.below_all}
use Rattle.std.specs.Cmp.Lexicographic.{slice_cmp, nat_list_cmp_total, pointwise, same_text, texts_ties, nat_list_eq_equiv}
use Rattle.snmp_oid.specs.Identifier.{Precedes}
use Rattle.snmp_wire.specs.Message.{Datum, VarBind}
use Rattle.snmp_agent.specs.table.Table.{MibView, IsRow, IsInstanceName, IsInstanceValue, IsMibView, IsGet, variable, unknown_object}
use Rattle.snmp_agent.specs.table.Table.{unknown_instance, IsSuccessor, IsNext, successor, end_of_view}
use Rattle.snmp_agent.specs.table.Listing.{variables}
use Rattle.snmp_walk.specs.{Names.comes_after, Walk.rows_after, Walk.rows_named, Link.OneOf, private.ComputedStep.if_present, private.Codec.Codec}
use Rattle.snmp_walk.proofs.{Names.less_from_after, Names.after-irrefl, Names.less_precedes, OneTable.first_of_rows}
use Rattle.snmp_walk.proofs.SortedRows.{value_no_end, value_no_miss, AreAfter, AreIncreasing, AreInstances, or_end}

abbrev binding_of : List ℕ × Datum → VarBind
binding_of e = record { name = e.0; value = e.1 }

true_from_T : (b : Bool) → T b → b ≡ true
true_from_T true h = refl
true_from_T false h = absurd h

after_entries : (x : List ℕ) (es : List (List ℕ × Datum)) → below_all (slice_cmp nat_cmp) x es ≡ true → AreAfter x (map binding_of es)
after_entries x [] h = tt
after_entries x (e ∷ es) h = let p = and_parts (is_lt (slice_cmp nat_cmp x e.0)) (below_all (slice_cmp nat_cmp) x es) h in (p.0, after_entries x es p.1)

rising_entries : (es : List (List ℕ × Datum)) → is_sorted (slice_cmp nat_cmp) es ≡ true → AreIncreasing (map binding_of es)
rising_entries [] h = tt
rising_entries (e ∷ es) h = let p = and_parts (below_all (slice_cmp nat_cmp) e.0 es) (is_sorted (slice_cmp nat_cmp) es) h in
    (after_entries e.0 es p.0, rising_entries es p.1)

-- if the names of all rows come after o (`AreAfter`), the name of each row p does
pub one_after : (o : List ℕ) (rows : List VarBind) (p : VarBind) → AreAfter o rows → OneOf rows p → comes_after o p.name ≡ true
one_after o [] p h one = absurd one
one_after o (q ∷ rows) p h (inl e) = ap (λ (b : VarBind). comes_after o b.name) e ∙ h.0
one_after o (q ∷ rows) p h (inr one) = one_after o rows p h.1 one

pub not_itself : (o n : List ℕ) → comes_after o n ≡ true → n ≡ o → ⊥
not_itself o n h e = false≢true (sym (after-irrefl o) ∙ ap (comes_after o) (sym e) ∙ h)

-- an element of a filtered list is an element of the list, and passes the test
pub kept : (test : VarBind → Bool) (p : VarBind) (rows : List VarBind) → OneOf (filter test rows) p → OneOf rows p × (test p ≡ true)
kept test p [] i = absurd i
kept test p (q ∷ rows) i =
    cond_both (test q) (q ∷ filter test rows) (filter test rows) (λ s. OneOf s p → OneOf (q ∷ rows) p × (test p ≡ true))
    (λ t. elim [ inl same ↦ (inl same, ap test same ∙ t) | inr j ↦ let h = kept test p rows j in (inr h.0, h.1) ])
    (λ _ j. let h = kept test p rows j in (inr h.0, h.1)) i

pub keeps : (test : VarBind → Bool) (p : VarBind) (rows : List VarBind) → test p ≡ true → OneOf rows p → OneOf (filter test rows) p
keeps test p [] h i = absurd i
keeps test p (q ∷ rows) h (inl same) = grind (arith, common_steps, cond_both)
keeps test p (q ∷ rows) h (inr i) = let later = keeps test p rows h i in cond_both (test q) _ _ (λ s. OneOf s p) (λ _. inr later) (λ _. later)

-- if the test says that p comes after o, then o precedes p
pub after_precedes : Codec → (o p : List ℕ) → comes_after o p ≡ true → Precedes o p
after_precedes codec o p e = codec.less o p (less_from_after o p e)

-- names that compare as equal are equal
pub tie_is : (q x : List ℕ) → eq_by_cmp (slice_cmp nat_cmp) q x ≡ true → q ≡ x
tie_is q x e = same_text q x (sym e ∙ sym (texts_ties q x))

tie_self : (q : List ℕ) → eq_by_cmp (slice_cmp nat_cmp) q q ≡ true
tie_self q = ap is_eq (tied_itself nat_list_cmp_total q)

-- if a search for the name q finds the value v, then the binding of q and v is in the list
found_in : (q : List ℕ) (v : Datum) (es : List (List ℕ × Datum)) → find (slice_cmp nat_cmp) q es ≡ Some v → OneOf (map binding_of es) (binding_of (q, v))
found_in q v [] h = absurd cc
found_in q v (e ∷ es) h =
    cond_both (eq_by_cmp (slice_cmp nat_cmp) q e.0) (Some e.1) (find (slice_cmp nat_cmp) q es)
    (λ o. o ≡ Some v → OneOf (map binding_of (e ∷ es)) (binding_of (q, v))) (λ tie is.
    let value : v ≡ e.1 = cc in
    inl (ap (λ (n : List ℕ). binding_of (n, v)) (tie_is q e.0 tie) ∙ ap (λ (d : Datum). binding_of (e.0, d)) value)) (λ _ later. inr (found_in q v es later)) h

no_tie : (q x : List ℕ) → comes_after x q ≡ true → eq_by_cmp (slice_cmp nat_cmp) q x ≡ false
no_tie q x after = false_from_ne_true (eq_by_cmp (slice_cmp nat_cmp) q x) (λ tie. not_itself x q after (tie_is q x tie))

-- if the binding p is in a sorted list, a search for its name finds its value
in_found : (p : VarBind) (es : List (List ℕ × Datum)) → is_sorted (slice_cmp nat_cmp) es ≡ true → OneOf (map binding_of es) p
    → find (slice_cmp nat_cmp) p.name es ≡ Some p.value
in_found p [] h i = absurd i
in_found p (e ∷ es) h (inl same) = grind (arith, common_steps, tie_self, cond-true)
in_found p (e ∷ es) h (inr i) =
    let parts = and_parts (below_all (slice_cmp nat_cmp) e.0 es) (is_sorted (slice_cmp nat_cmp) es) h in
    let after = one_after e.0 (map binding_of es) p (after_entries e.0 es parts.0) i in
    cond-false _ (Some e.1) (find (slice_cmp nat_cmp) p.name es) (no_tie p.name e.0 after) ∙ in_found p es parts.1 i

other_name : (o : List ℕ) (q : VarBind) → (q.name ≡ o → ⊥) → pointwise nat_eq q.name o ≡ false
other_name o q h = false_from_ne_true (pointwise nat_eq q.name o) (λ t. h (same_text q.name o (sym t)))

none_named : (o : List ℕ) (rows : List VarBind) → ((p : VarBind) → OneOf rows p → p.name ≡ o → ⊥) → rows_named o rows ≡ []
none_named o [] h = refl
none_named o (q ∷ rows) h =
    cond-false _ (q ∷ rows_named o rows) (rows_named o rows) (other_name o q (h q (inl refl))) ∙ none_named o rows (λ p i. h p (inr i))

-- if p is one of the sorted rows, then p is the only row with its name
one_named : (p : VarBind) (rows : List VarBind) → AreIncreasing rows → OneOf rows p → rows_named p.name rows ≡ p ∷ []
one_named p [] h i = absurd i
one_named p (q ∷ rows) h (inl same) =
    let name : q.name ≡ p.name = ap (λ (b : VarBind). b.name) (sym same) in
    let test : pointwise nat_eq q.name p.name ≡ true = ap (λ (n : List ℕ). pointwise nat_eq n p.name) name ∙ nat_list_eq_equiv.refl p.name in
    cond-true _ (q ∷ rows_named p.name rows) (rows_named p.name rows) test
    ∙ ap (λ (s : List VarBind). q ∷ s) (none_named p.name rows (λ r i e. not_itself q.name r.name (one_after q.name rows r h.0 i) (e ∙ sym name)))
    ∙ ap (λ (b : VarBind). b ∷ []) (sym same)
one_named p (q ∷ rows) h (inr i) =
    cond-false _ (q ∷ rows_named p.name rows) (rows_named p.name rows)
    (other_name p.name q (λ e. not_itself q.name p.name (one_after q.name rows p h.0 i) (sym e))) ∙ one_named p rows h.1 i

instances_of : (rows : List VarBind) → ((p : VarBind) → OneOf rows p → IsInstanceName p.name × IsInstanceValue p.value)
    → AreInstances rows
instances_of [] h = tt
instances_of (q ∷ rows) h =
    let here = h q (inl refl) in
    (here.0.long, value_no_end q.value here.1, value_no_miss q.value here.1, instances_of rows (λ p i. h p (inr i)))

module _ (view : MibView) (good : IsMibView view) where
  sorted : is_sorted (slice_cmp nat_cmp) (entries view.rows) ≡ true
  sorted = true_from_T _ (entries_sorted view.rows)

  pub row_in : (p : VarBind) → IsRow view p → OneOf (variables view) p
  row_in p h = found_in p.name p.value (entries view.rows) (sym (get-entries view.rows p.name) ∙ h)

  pub in_row : (p : VarBind) → OneOf (variables view) p → IsRow view p
  in_row p i = get-entries view.rows p.name ∙ in_found p (entries view.rows) sorted i

  pub variables_rise : AreIncreasing (variables view)
  variables_rise = rising_entries (entries view.rows) sorted

  pub variables_are : AreInstances (variables view)
  variables_are = instances_of (variables view) (λ p i. (good.names p (in_row p i), good.values p (in_row p i)))

  -- a row among those after o is a row of the view, and o precedes its name
  after_row : Codec → (o : List ℕ) (q : VarBind) → OneOf (rows_after o (variables view)) q → IsRow view q × Precedes o q.name
  after_row codec o q i = grind (arith, common_steps, kept, in_row, less_from_after)

  row_after : (o : List ℕ) (p : VarBind) → IsSuccessor view o p → OneOf (rows_after o (variables view)) p
  row_after o p s = keeps (λ row. comes_after o row.name) p (variables view) (ap is_lt (less_precedes o p.name s.after)) (row_in p s.row)

  -- the answer to a GetNext is the first row after the name or, if there is none, endOfMibView
  next_by : Codec → (o : List ℕ) (p : VarBind) (suffix : List VarBind) → suffix ≡ rows_after o (variables view) → IsNext view o p → p ≡ or_end o suffix
  next_by codec o p [] e (successor s) = absurd (subst (λ (rows : List VarBind). OneOf rows p) (sym e) (row_after o p s))
  next_by codec o p [] e (end_of_view none is) = is
  next_by codec o p (q ∷ more) e (successor s) =
      let first = first_of_rows (variables view) o q more variables_rise variables_are (sym e) in
      let one : OneOf (q ∷ more) p = subst (λ (rows : List VarBind). OneOf rows p) (sym e) (row_after o p s) in
      elim one [
        | inl same ↦ same
        | inr later ↦
            let row = after_row codec o q (subst (λ (rows : List VarBind). OneOf rows q) e (inl refl)) in
            absurd (s.nearest q row.0 row.1 (codec.less q.name p.name (less_from_after q.name p.name (one_after q.name more p first.after later))))
      ]
  next_by codec o p (q ∷ more) e (end_of_view none is) =
      let row = after_row codec o q (subst (λ (rows : List VarBind). OneOf rows q) e (inl refl)) in absurd (none q row.0 row.1)

  pub next_first : Codec → (o : List ℕ) (p : VarBind) → IsNext view o p → p ≡ or_end o (rows_after o (variables view))
  next_first codec o p h = next_by codec o p (rows_after o (variables view)) refl h

  pub row_none : (o : List ℕ) (p : VarBind) → p.name ≡ o → IsRow view p → get view.rows o ≡ None → ⊥
  row_none o p e row none = let found : get view.rows o ≡ Some p.value = ap (get view.rows) (sym e) ∙ row in cc

  -- a Get has at most one answer
  pub get_one : (o : List ℕ) (p q : VarBind) → IsGet view o p → IsGet view o q → p ≡ q
  get_one o p q (variable e row) (variable f row_q) = grind (arith, common_steps)
  get_one o p q (variable e row) (unknown_object none unknown is) = absurd (row_none o p e row none)
  get_one o p q (variable e row) (unknown_instance none has is) = absurd (row_none o p e row none)
  get_one o p q (unknown_object none unknown is) (variable f row) = absurd (row_none o q f row none)
  get_one o p q (unknown_object none unknown is) (unknown_object none_q unknown_q is_q) = is ∙ sym is_q
  get_one o p q (unknown_object none unknown is) (unknown_instance none_q has is_q) = absurd (unknown has)
  get_one o p q (unknown_instance none has is) (variable f row) = absurd (row_none o q f row none)
  get_one o p q (unknown_instance none has is) (unknown_object none_q unknown is_q) = absurd (unknown has)
  get_one o p q (unknown_instance none has is) (unknown_instance none_q has_q is_q) = is ∙ sym is_q

  absent_row : (o : List ℕ) → get view.rows o ≡ None → rows_named o (variables view) ≡ []
  absent_row o none = none_named o (variables view) (λ p i e. row_none o p e (in_row p i) none)

  pub get_row : (o : List ℕ) (p : VarBind) → IsGet view o p → if_present p ≡ rows_named o (variables view)
  get_row o p (variable e row) = grind (arith, common_steps, cond-false, value_no_miss, one_named, variables_rise, row_in)
  get_row o p (unknown_object none unknown is) = ap if_present is ∙ sym (absent_row o none)
  get_row o p (unknown_instance none has is) = ap if_present is ∙ sym (absent_row o none)

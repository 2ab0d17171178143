-- After a poll whose sink counts rows by column, the counts are as `AreCounted` says (`counts_of_walk`, `counted`).
use Rattle.std.proofs.Common.{arith, ◌≡◌, ◌∙◌, ◌+◌, ◌≤◌, ◌++◌, inl, inr, ℕ, List, [], ◌∷◌, Bool, true, false, cond, Option, Some}
use Rattle.std.proofs.Common.{length, drop, refl, sym, ap, subst, append_assoc, append-nil, length-append}
use Rattle.std.proofs.lemmas.{List.append_cancel_left, List.Prefix.front_rest, List.Elements.filter-append, Grind.common_steps}
use Rattle.std.proofs.lemmas.{Bool.cases_eq, Bool.false_from_ne_true, Bool.Decides.Decides-eqb}
use Rattle.std.specs.Prelude.{◌↔◌, IsTrue}
use Rattle.std.specs.{BTreeMap.get, BTreeMap.is_at, List.filter, Option.unwrap_or, Prelude.slice_index_or, Ordering.is_eq, Ordering.nat_cmp}
use Rattle.std.specs.declared.cmp.Ordering.TheVariants.{Less, Equal, Greater}
use Rattle.snmp_oid.specs.Identifier.{IsBelow}
use Rattle.snmp_wire.specs.Message.{VarBind}
use Rattle.snmp_agent.specs.{table.Table.MibView, table.Listing.variables}
use Rattle.snmp_walk.specs.{Names.is_below, Sink.TakesAll, Sink.Took, Walk.rows_below, declared.end.WalkEnd.WalkEnd}
use Rattle.snmp_walk.specs.declared.end.WalkEnd.TheVariants as ending
use Rattle.uses.specs.Columns.{AreCounted, AreCountsOf, CountsRow, HasCounted, count_of, entry_of, rows_of_column}
use Rattle.uses.specs.{Polled.IsBeginning, declared.columns.ColumnCounts.ColumnCounts}

-- the law `names_below` of `snmp_walk`
abbrev TestsNames : Type 0
TestsNames = (name root : List ℕ) → IsTrue (is_below name root) ↔ IsBelow name root

-- ---- the rows below a column

-- a name is below at most one column
one_column : (entry name : List ℕ) (a b : ℕ) → IsBelow name (entry ++ a ∷ []) → IsBelow name (entry ++ b ∷ []) → a ≡ b
one_column entry name a b h k =
    let same : entry ++ (a ∷ h.0) ≡ entry ++ (b ∷ k.0) =
    sym (append_assoc entry (a ∷ []) h.0) ∙ (sym h.2 ∙ (k.2 ∙ append_assoc entry (b ∷ []) k.0)) in
    let rest : a ∷ h.0 ≡ b ∷ k.0 = append_cancel_left entry _ _ same in let first : a ≡ b = cc in first

-- a name below a column is below the entry
below_entry : (entry name : List ℕ) (number : ℕ) → IsBelow name (entry ++ number ∷ []) → IsBelow name entry
below_entry entry name number h = (number ∷ h.0, (λ none. let no : ⊥ = cc in no), h.2 ∙ append_assoc entry (number ∷ []) h.0)

-- if each binding that passes `p` passes `q`, then a filter by `q` before one by `p` changes nothing
filtered_twice : (p q : VarBind → Bool) → ((x : VarBind) → p x ≡ true → q x ≡ true) → (xs : List VarBind) → filter p (filter q xs) ≡ filter p xs
filtered_twice p q within [] = refl
filtered_twice p q within (x ∷ xs) = grind (arith, common_steps, filtered_twice p q within xs, within x)

-- a column has the same rows among the rows below the entry as among all rows
of_column : TestsNames → (entry : List ℕ) (number : ℕ) (rows : List VarBind)
    → rows_of_column entry number (rows_below entry rows) ≡ rows_of_column entry number rows
of_column tests entry number rows = filtered_twice (λ (row : VarBind). is_below row.name (entry ++ number ∷ [])) (λ (row : VarBind). is_below row.name entry)
    (λ row passed. (tests row.name entry).1 (below_entry entry row.name number ((tests row.name (entry ++ number ∷ [])).0 passed))) rows

-- a name with two numbers or more after the entry is below the column of the first of these
pub column : (entry name after : List ℕ) → IsBelow name entry → after ≡ drop (length entry) name → 2 ≤ length after
    → IsBelow name (entry ++ slice_index_or after 0 0 ∷ [])
column entry name [] h cut long = absurd (omega (arith, long))
column entry name (number ∷ []) h cut long = absurd (omega (arith, long))
column entry name (number ∷ next ∷ more) h cut long =
    let rest : h.0 ≡ number ∷ (next ∷ more) = sym (front_rest name entry h.0 h.2) ∙ sym cut in
    (next ∷ more, (λ none. let no : ⊥ = cc in no), h.2 ∙ (ap (λ (r : List ℕ). entry ++ r) rest ∙ sym (append_assoc entry (number ∷ []) (next ∷ more))))

-- ---- what one row changes

other_key : (less same : Bool) → same ≡ false → is_eq (cond less Less (cond same Equal Greater)) ≡ false
other_key true same h = refl
other_key false same h = ap (λ (b : Bool). is_eq (cond b Equal Greater)) h

-- if the entry stays the same, the count of a row's column increases by 1, and no other count changes, then the row is counted
pub counted_row : TestsNames → (old new : ColumnCounts) (row : VarBind) (number count : ℕ) → entry_of new ≡ entry_of old
    → IsBelow row.name (entry_of old ++ number ∷ []) → count ≡ count_of old number + 1 → get nat_cmp new.counts number ≡ Some count
    → ((q : ℕ) → is_at (nat_cmp number) q ≡ false → get nat_cmp new.counts q ≡ get nat_cmp old.counts q) → HasCounted old (row ∷ []) new
counted_row tests old new row number count entry is_below more here others = record {
  entry = entry;
  counts = λ q. elim (cases_eq number q) [
    | inl e ↦
        let one : length (rows_of_column (entry_of old) number (row ∷ [])) ≡ 1 =
        ap (λ (t : Bool). length (cond t (row ∷ []) [])) ((tests row.name (entry_of old ++ number ∷ [])).1 is_below) in
        let now : count_of new number ≡ count = ap (λ (o : Option ℕ). unwrap_or o 0) here in
        subst (λ (n : ℕ). count_of new n ≡ count_of old n + length (rows_of_column (entry_of old) n (row ∷ []))) e (omega (arith, one, now, more))
    | inr apart ↦
        let none : length (rows_of_column (entry_of old) q (row ∷ [])) ≡ 0 = ap (λ (t : Bool). length (cond t (row ∷ []) [])) (false_from_ne_true _
        (λ t. apart (one_column (entry_of old) row.name number q is_below ((tests row.name (entry_of old ++ q ∷ [])).0 t)))) in
        let key : is_at (nat_cmp number) q ≡ false = other_key _ _ (false_from_ne_true _ (λ t. apart ((Decides-eqb number q).0 t))) in
        let same : count_of new q ≡ count_of old q = ap (λ (o : Option ℕ). unwrap_or o 0) (others q key) in
        omega (arith, none, same)
  ];
}

-- if a row is below no column of the entry, then counting it changes no count
pub other_row : TestsNames → (counts : ColumnCounts) (row : VarBind) → ((number : ℕ) → IsBelow row.name (entry_of counts ++ number ∷ []) → ⊥)
    → HasCounted counts (row ∷ []) counts
other_row tests counts row outside = record {
  entry = refl;
  counts = λ q.
      let none : length (rows_of_column (entry_of counts) q (row ∷ [])) ≡ 0 = ap (λ (t : Bool). length (cond t (row ∷ []) []))
      (false_from_ne_true _ (λ t. outside q ((tests row.name (entry_of counts ++ q ∷ [])).0 t))) in
      omega (arith, none);
}

-- ---- what the rows of a poll change

-- if the rows `xs` were counted and then the rows `ys`, then `xs ++ ys` were counted
counted_both : (old between new : ColumnCounts) (xs ys : List VarBind) → HasCounted old xs between → HasCounted between ys new → HasCounted old (xs ++ ys) new
counted_both old between new xs ys a b = record {
  entry = b.entry ∙ a.entry;
  counts = λ q.
      let root : List ℕ = entry_of old ++ q ∷ [] in
      let first = a.counts q in
      let second : count_of new q ≡ count_of between q + length (rows_below root ys) =
      subst (λ (o : List ℕ). count_of new q ≡ count_of between q + length (rows_of_column o q ys)) a.entry (b.counts q) in
      let parts : length (rows_below root (xs ++ ys)) ≡ length (rows_below root xs) + length (rows_below root ys) =
      ap length (filter-append (λ (row : VarBind). is_below row.name root) xs ys) ∙ length-append (rows_below root xs) (rows_below root ys) in
      omega (arith, first, second, parts);
}

-- the sink counted the rows that it took (`counted_all`), also in a walk that it ended by refusing one (`counted_took`)
counted_all : (old new : ColumnCounts) (rows : List VarBind) → TakesAll CountsRow old rows new → HasCounted old rows new
counted_all old new [] h = subst (λ (c : ColumnCounts). HasCounted old [] c) (sym h) (record { entry = refl; counts = λ q. omega arith })
counted_all old new (row ∷ rows) h = counted_both old h.0 new (row ∷ []) rows h.1 (counted_all h.0 new rows h.2)

counted_took : (old new : ColumnCounts) (rows refused : List VarBind) (end : WalkEnd) → Took CountsRow old rows refused end new → HasCounted old rows new
counted_took old new rows refused (ending.Sink fault) h = subst (λ (all : List VarBind). HasCounted old all new) (append-nil rows)
    (counted_both old h.0 new rows [] (counted_all old h.0 rows h.1) h.2.2)
counted_took old new rows refused end h = counted_all old new rows h.0

-- if all counts were 0 before a walk, then after it they count the rows that the sink took
pub counts_of_walk : (entry : List ℕ) (old new : ColumnCounts) (rows refused : List VarBind) (end : WalkEnd) → entry_of old ≡ entry
    → ((number : ℕ) → count_of old number ≡ 0) → Took CountsRow old rows refused end new → AreCountsOf entry rows new
counts_of_walk entry old new rows refused end is none took =
    let h = counted_took old new rows refused end took in
    subst (λ (o : List ℕ). AreCountsOf o rows new) is (λ q. let before = none q in let after = h.counts q in omega (arith, before, after))

-- if the counts count `rows`, and `rows` are a prefix of the table's rows below the entry (`IsBeginning`), then the counts are as `AreCounted` says
pub counted : TestsNames → (view : MibView) (entry : List ℕ) (end : WalkEnd) (rows : List VarBind) (counts : ColumnCounts) → AreCountsOf entry rows counts
    → IsBeginning view entry end rows → AreCounted view entry end counts
counted tests view entry end rows counts are begins = record {
  rows = rows;
  begins = begins;
  counted = are;
  all = λ done q. are q ∙ (ap (λ (all : List VarBind). length (rows_of_column entry q all)) (begins.2 done)
      ∙ ap length (of_column tests entry q (variables view)));
}

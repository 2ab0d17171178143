-- In a list of entries with increasing names, the first entry after a name is the result of a GetNext (`is_next`), and the next ones are the results of
-- repeated GetNexts (`asked_past`).
use Rattle.std.proofs.{lemmas.Grind.common_steps, lemmas.List.Elements.Contains-append_cases, lemmas.List.Elements.Contains-append_right}
use Rattle.std.proofs.Common.{◌≡◌, ◌↔◌, ℕ, zero, suc, inl, inr, T, List, [], ◌∷◌, ◌++◌, map, Some, true, false, cond, refl, sym, ◌∙◌, ap, subst}
use Rattle.std.proofs.Common.{append_assoc, Less, ◌+◌, ◌≤◌, length, take, drop, arith, ◌-◌}
use Rattle.std.specs.{Ordering.is_le, Ordering.nat_cmp, List.Contains, List.slice_get}
use Rattle.std.specs.Cmp.Lexicographic.{slice_cmp, nat_list_cmp_total}
use Rattle.std.specs.FinMap.{find, is_sorted, entries, entries_sorted, entries-from_sorted, from_sorted, get-entries, get-from_sorted, same_map}
use Rattle.std.specs.FinMap.{nat_cmp-IsAntisymmetric, slice_cmp-IsAntisymmetric}
use Rattle.snmp_oid.specs.Identifier.{Precedes}
use Rattle.snmp_wire.specs.{Message.Datum, Message.VarBind, Message.Datum.end_of_mib_view}
use Rattle.snmp_agent.specs.table.Table.{MibView, IsRow, IsNext, successor, end_of_view, IsNextAfter}
use Rattle.snmp_agent.specs.table.Listing.{first_or_end}
use Rattle.snmp_agent.specs.table.Entries.{IsBeforeAll, IsBeforeNone, var_of, last_name}
use Rattle.snmp_agent.specs.table.Pages.{IsSplitAt, AreAllAfter, entries_after, entries_of}
use Rattle.snmp_agent.proofs.Lists.{of_each}
use Rattle.snmp_agent.proofs.SortedEntries.{not_before_itself, not_both, before_from, before_later, is_after, none_before, second_of_both, before_no_earlier}
use Rattle.snmp_agent.proofs.SortedEntries.{find-listed, listed_from_find}

-- the comparison of names as lists of numbers is the lexicographic order of the standard (`Precedes`)
abbrev pub IsOrder : Type 0
IsOrder = (o p : List ℕ) → (slice_cmp nat_cmp o p ≡ Less) ↔ Precedes o p

abbrev Entries : Type 0
Entries = List (List ℕ × Datum)

listed : (view : MibView) (o : List ℕ) (prefix back : Entries) → IsSplitAt view.rows o prefix back → (q : VarBind) → IsRow view q
    → Contains (prefix ++ back) (q.name, q.value)
listed view o prefix back apart q row = listed_from_find q.name q.value (prefix ++ back) (sym (apart.found q.name) ∙ row)

-- if `o` splits the rows into `prefix` and `p ∷ back`, then the name of `p` splits them after `p`
past : (view : MibView) (o : List ℕ) (prefix back : Entries) (p : List ℕ × Datum) → IsSplitAt view.rows o prefix (p ∷ back)
    → IsSplitAt view.rows p.0 (prefix ++ p ∷ []) back
past view o prefix back p apart =
    let whole : (prefix ++ p ∷ []) ++ back ≡ prefix ++ p ∷ back = append_assoc prefix (p ∷ []) back in
    record {
      found = λ q. apart.found q ∙ ap (find (slice_cmp nat_cmp) q) (sym whole);
      rising = subst (λ (es : Entries). T (is_sorted (slice_cmp nat_cmp) es)) (sym whole) apart.rising;
      passed = before_no_earlier prefix back p apart.rising;
      ahead = before_later prefix back p apart.rising;
    }

-- a GetNext of `o`, and then `rounds + 1` GetNexts from its result, are `rounds + 2` GetNexts from
-- `o`
next_from : (view : MibView) (rounds : ℕ) (o : List ℕ) (p q : VarBind) → IsNext view o p → IsNextAfter view rounds p.name q → IsNextAfter view (suc rounds) o q
next_from view zero o p q first more = (p, first, more)
next_from view (suc rounds) o p q first more = (more.0, next_from view rounds o p more.0 first more.1, more.2)

module _ (order : IsOrder) where
  -- a row whose name is after `o` is in `back`, the entries after `o`
  later_listed : (view : MibView) (o : List ℕ) (prefix back : Entries) → IsSplitAt view.rows o prefix back → (q : VarBind) → IsRow view q → Precedes o q.name
      → Contains back (q.name, q.value)
  later_listed view o prefix back apart q row after =
      elim (Contains-append_cases prefix back (q.name, q.value) (listed view o prefix back apart q row)) [
        | inl here ↦ absurd (of_each (λ (e : List ℕ × Datum). slice_cmp nat_cmp o e.0 ≡ Less → ⊥) prefix (q.name, q.value) apart.passed here
            ((order o q.name).1 after))
        | inr there ↦ there
      ]

  nearest_in : (p : List ℕ × Datum) (back : Entries) (q : VarBind) → IsBeforeAll p.0 back → Contains (p ∷ back) (q.name, q.value)
      → Precedes q.name p.0 → ⊥
  nearest_in p back q ahead (zero, low, same) before =
      let less : slice_cmp nat_cmp q.name p.0 ≡ Less = (order q.name p.0).1 before in
      let name : q.name ≡ p.0 = ap (λ (e : List ℕ × Datum). e.0) (sym same) in
      not_before_itself p.0 (rw name at less)
  nearest_in p back q ahead (suc k, low, later) before =
      not_both q.name p.0 ((order q.name p.0).1 before)
      (of_each (λ (e : List ℕ × Datum). slice_cmp nat_cmp p.0 e.0 ≡ Less) back (q.name, q.value) ahead (k, omega (arith, low), later))

  pub is_next : (view : MibView) (o : List ℕ) (prefix back : List (List ℕ × Datum)) → IsSplitAt view.rows o prefix back
      → IsNext view o (first_or_end o (map var_of back))
  is_next view o prefix [] apart = end_of_view (λ q row after. omega (arith, (later_listed view o prefix [] apart q row after).1)) refl
  is_next view o prefix (p ∷ back) apart = successor record {
    row = apart.found p.0 ∙ find-listed p (prefix ++ p ∷ back) apart.rising (Contains-append_right prefix (p ∷ back) p (0, omega arith, refl));
    after = (order o p.0).0 apart.ahead.0;
    nearest = λ q row after.
        nearest_in p back q (before_later prefix back p apart.rising) (later_listed view o prefix (p ∷ back) apart q row after);
  }

  -- if the first `rounds` entries after `o` are skipped, and a GetNext of the last name skipped (or of `o` if none was) returns `q`, then the last of
  -- `rounds + 1` GetNexts from `o` returns `q`
  pub asked_past : (view : MibView) (rounds : ℕ) (o : List ℕ) (prefix back : List (List ℕ × Datum)) → IsSplitAt view.rows o prefix back → (q : VarBind)
      → IsNext view (last_name o (take rounds back)) q → IsNextAfter view rounds o q
  asked_past view zero o prefix back apart q next = next
  asked_past view (suc rounds) o prefix [] apart q next =
      let last : VarBind = record { name = o; value = end_of_mib_view } in
      next_from view rounds o last q (is_next view o prefix [] apart) (asked_past view rounds o prefix [] apart q (end_again rounds next))
    where
      end_again : (n : ℕ) → IsNext view o q → IsNext view (last_name o (take n [])) q
      end_again zero h = h
      end_again (suc n) h = h
  asked_past view (suc rounds) o prefix (p ∷ back) apart q next =
      next_from view rounds o (var_of p) q (is_next view o prefix (p ∷ back) apart)
      (asked_past view rounds p.0 (prefix ++ p ∷ []) back (past view o prefix back p apart) q next)

-- ---- rows after a name

-- if entries have increasing names, then they are the entries up to the name `o`, followed by the entries after it
parting : (o : List ℕ) (es : Entries) → T (is_sorted (slice_cmp nat_cmp) es)
    → (prefix : Entries) × (es ≡ prefix ++ entries_after o es) × IsBeforeNone o prefix × IsBeforeAll o (entries_after o es)
parting o [] rising = ([], refl, tt, tt)
parting o (e ∷ es) rising =
    let rest = parting o es (second_of_both _ _ rising) in
    elim (is_le (slice_cmp nat_cmp e.0 o)) as (λ b. is_le (slice_cmp nat_cmp e.0 o) ≡ b
    → (prefix : Entries) × (e ∷ es ≡ prefix ++ cond b (entries_after o es) (e ∷ es)) × IsBeforeNone o prefix
    × IsBeforeAll o (cond b (entries_after o es) (e ∷ es))) [
      | true ↦ λ up_to. (e ∷ rest.0, ap (λ fs. e ∷ fs) rest.1, (none_before o e.0 up_to, rest.2), rest.3)
      | false ↦ λ begins. ([], refl, tt, before_from o e es rising begins)
    ] refl

-- `entries_after` are the variables after the name
pub after_name : (view : MibView) (o : List ℕ) → AreAllAfter view o (entries_after o (entries view.rows))
after_name view o =
    let parts = parting o (entries view.rows) (entries_sorted view.rows) in (
      parts.0,
      record {
        found = λ q. get-entries view.rows q ∙ ap (find (slice_cmp nat_cmp) q) parts.1;
        rising = subst (λ (es : Entries). T (is_sorted (slice_cmp nat_cmp) es)) parts.1 (entries_sorted view.rows);
        passed = parts.2;
        ahead = parts.3;
      },
    )

after_both : (o : List ℕ) (prefix back : Entries) → IsBeforeNone o prefix → IsBeforeAll o back → entries_after o (prefix ++ back) ≡ back
after_both o [] [] passed ahead = refl
after_both o [] (e ∷ back) passed ahead = grind (arith, common_steps, none_before)
after_both o (e ∷ prefix) back passed ahead = grind (arith, common_steps, after_both o prefix back passed.1 ahead, is_after)

-- if a list has all the variables after the name, then it is the list that `entries_after` returns
pub all_after : (view : MibView) (o : List ℕ) (back : List (List ℕ × Datum)) → AreAllAfter view o back → back ≡ entries_after o (entries view.rows)
all_after view o back h =
    let es = h.0 ++ back in
    let same : view.rows ≡ from_sorted es = same_map nat_list_cmp_total (slice_cmp-IsAntisymmetric nat_cmp-IsAntisymmetric) view.rows (from_sorted es)
    (λ q. h.1.found q ∙ sym (get-from_sorted (slice_cmp nat_cmp) es q h.1.rising)) in
    sym (ap (entries_after o) (ap entries same ∙ entries-from_sorted (slice_cmp nat_cmp) es h.1.rising) ∙ after_both o h.0 back h.1.passed h.1.ahead)

-- the first entry after a name is a variable of the view
pub first_row : (view : MibView) (o : List ℕ) (e : List ℕ × Datum) (es : List (List ℕ × Datum)) → AreAllAfter view o (e ∷ es) → IsRow view (var_of e)
first_row view o e es h = h.1.found e.0 ∙ find-listed e (h.0 ++ e ∷ es) h.1.rising (Contains-append_right h.0 (e ∷ es) e (0, omega arith, refl))

pub cursor_past_first : (view : MibView) (o : List ℕ) (e : List ℕ × Datum) (es : List (List ℕ × Datum)) → AreAllAfter view o (e ∷ es) → AreAllAfter view e.0 es
cursor_past_first view o e es h = (h.0 ++ e ∷ [], past view o h.0 es e h.1)

pub after_past : (view : MibView) (rounds : ℕ) (o : List ℕ) (back : List (List ℕ × Datum)) → AreAllAfter view o back
    → AreAllAfter view (last_name o (take rounds back)) (drop rounds back)
after_past view zero o back h = h
after_past view (suc rounds) o [] h = h
after_past view (suc rounds) o (p ∷ back) h = after_past view rounds p.0 back (cursor_past_first view o p back h)

pub last_name-last : (o : List ℕ) (rows : List VarBind) (row : VarBind) (last : ℕ) → length rows ≡ last + 1 → slice_get rows last ≡ Some row
    → last_name o (entries_of rows) ≡ row.name
last_name-last o [] row last whole at = let no : ⊥ = omega (arith, whole) in absurd no
last_name-last o (first ∷ []) row zero whole at = let same : first ≡ row = cc in ap (λ (r : VarBind). r.name) same
last_name-last o (first ∷ []) row (suc last) whole at = let no : ⊥ = omega (arith, whole) in absurd no
last_name-last o (first ∷ second ∷ rows) row zero whole at = let no : ⊥ = omega (arith, whole) in absurd no
last_name-last o (first ∷ second ∷ rows) row (suc last) whole at =
    last_name-last first.name (second ∷ rows) row last (omega (arith, whole)) at

-- ---- rows that are skipped

pub drop_rows : (rows : List VarBind) (more : List (List ℕ × Datum)) (n : ℕ) → length rows ≤ n → drop (n - length rows) more ≡ drop n (entries_of rows ++ more)
drop_rows [] more n few = ap (λ (k : ℕ). drop k more) (omega arith)
drop_rows (row ∷ rows) more zero few = absurd (omega (arith, few))
drop_rows (row ∷ rows) more (suc n) few = ap (λ (k : ℕ). drop k more) (omega arith) ∙ drop_rows rows more n (omega (arith, few))

pub take_rows : (o : List ℕ) (rows : List VarBind) (more : List (List ℕ × Datum)) (n : ℕ) → length rows ≤ n
    → last_name (last_name o (entries_of rows)) (take (n - length rows) more) ≡ last_name o (take n (entries_of rows ++ more))
take_rows o [] more n few = ap (λ (k : ℕ). last_name o (take k more)) (omega arith)
take_rows o (row ∷ rows) more zero few = absurd (omega (arith, few))
take_rows o (row ∷ rows) more (suc n) few =
    ap (λ (k : ℕ). last_name (last_name row.name (entries_of rows)) (take k more)) (omega arith)
    ∙ take_rows row.name rows more n (omega (arith, few))

pub ruleset last_rows = (common_steps, last_name-last)

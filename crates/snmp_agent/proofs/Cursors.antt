-- The position that the code has after some rounds is `cursor_of` (`cursor_past`, `cursor_passed`); a GetNext from it returns the result of the next round
-- (`returned_there`).
use Rattle.std.proofs.{lemmas.Grind.common_steps}
use Rattle.std.proofs.Common.{arith, ◌≡◌, ◌↔◌, ℕ, zero, suc, ◌+◌, true, List, [], ◌∷◌, map, take, drop, refl, ap, subst, ◌∙◌, add-one}
use Rattle.std.specs.{FinMap.entries, List.list_all}
use Rattle.snmp_wire.specs.{Message.Datum, Message.VarBind, Message.Datum.end_of_mib_view}
use Rattle.snmp_agent.specs.table.Table.{MibView, IsMibView, IsInstanceValue, IsNextAfter}
use Rattle.snmp_agent.specs.{table.Listing.first_or_end, table.Entries.var_of, table.Entries.last_name, Reply.AreEnds, private.Answering.AreInRound}
use Rattle.snmp_agent.specs.table.Pages.{AreAllAfter, entries_after}
use Rattle.snmp_agent.specs.private.Cursor.{bindings_in_round, has_none, is_over, next_at, passed, cursor_of, cursors_of}
use Rattle.snmp_agent.proofs.NextEntries.{IsOrder, all_after, asked_past, after_name, after_past, first_row, is_next}

abbrev Entries : Type 0
Entries = List (List ℕ × Datum)

-- ---- the position of a name

-- if `back` are the variables after the name `o`, then the position past the first `round` of them is the position after `round` rounds
pub cursor_past : (view : MibView) (round : ℕ) (o : List ℕ) (back : List (List ℕ × Datum)) (name : List ℕ) (rest : List (List ℕ × Datum))
    → AreAllAfter view o back → name ≡ last_name o (take round back) → rest ≡ drop round back → record { name = name; rows = rest } ≡ cursor_of view round o
unfolding cursor_of
cursor_past view round o back name rest h at left =
    let all : back ≡ entries_after o (entries view.rows) = all_after view o back h in
    let name_at : name ≡ last_name o (take round (entries_after o (entries view.rows))) = at ∙ ap (λ (es : Entries). last_name o (take round es)) all in
    let rest_at : rest ≡ drop round (entries_after o (entries view.rows)) = left ∙ ap (drop round) all in
    λ i. record { name = name_at i; rows = rest_at i }

-- the first variable after the name `o`, or `o` with endOfMibView if there is none, is what a GetNext returns
pub first_there : (view : MibView) (o : List ℕ) (back : List (List ℕ × Datum)) → AreAllAfter view o back
    → first_or_end o (map var_of back) ≡ next_at (cursor_of view 0 o)
first_there view o back h = ap next_at (cursor_past view 0 o back o back h refl refl)

one_past : (round : ℕ) (o : List ℕ) (es : Entries) → passed (record { name = last_name o (take round es); rows = drop round es })
    ≡ record { name = last_name o (take (suc round) es); rows = drop (suc round) es }
one_past zero o [] = refl
one_past zero o (e ∷ es) = refl
one_past (suc round) o [] = refl
one_past (suc round) o (e ∷ es) = one_past round e.0 es

-- one more GetNext from the position after `round` rounds results in the position after `round + 1` rounds
pub cursor_passed : (view : MibView) (round : ℕ) (o : List ℕ) → passed (cursor_of view round o) ≡ cursor_of view (round + 1) o
unfolding cursor_of
cursor_passed view round o = rw add-one (one_past round o (entries_after o (entries view.rows)))

pub cursors_passed : (view : MibView) (round : ℕ) (names : List VarBind) → map passed (cursors_of view round names) ≡ cursors_of view (round + 1) names
cursors_passed view round [] = refl
cursors_passed view round (p ∷ names) = grind (arith, common_steps, cursors_passed view round names, cursor_passed)

-- ---- what GetNexts return

has_end : (o : List ℕ) (es : Entries) → has_none es ≡ true → (first_or_end o (map var_of es)).value ≡ end_of_mib_view
has_end o es over = grind (arith, common_steps)

not_end : (v : Datum) → IsInstanceValue v → v ≡ end_of_mib_view → ⊥
not_end v h e = let never : IsInstanceValue end_of_mib_view = subst IsInstanceValue e h in never

module _ (view : MibView) (mib : IsMibView view) where
  at_end : (o : List ℕ) (es : Entries) → AreAllAfter view o es → (first_or_end o (map var_of es)).value ≡ end_of_mib_view → has_none es ≡ true
  at_end o [] h end = refl
  at_end o (e ∷ es) h end = absurd (not_end e.1 (mib.values (var_of e) (first_row view o e es h)) end)

  -- a GetNext from the position after `round` rounds returns endOfMibView if and only if no variable is left there
  ends_here : (round : ℕ) (o : List ℕ) → (is_over (cursor_of view round o) ≡ true) ↔ ((next_at (cursor_of view round o)).value ≡ end_of_mib_view)
  unfolding cursor_of
  ends_here round o = grind (arith, common_steps, has_end, at_end, after_past, after_name)

  pub all_end : (round : ℕ) (names : List VarBind) → (list_all is_over (cursors_of view round names) ≡ true) ↔ AreEnds (bindings_in_round view round names)
  all_end round [] = (λ over. tt, λ ends. refl)
  all_end round (p ∷ names) = grind (arith, common_steps, all_end round names, ends_here)

module _ (order : IsOrder) (view : MibView) (round : ℕ) where
  -- what a GetNext returns from the position after `round` rounds is the result of the round after these
  pub returned_there : (o : List ℕ) → IsNextAfter view round o (next_at (cursor_of view round o))
  unfolding cursor_of
  returned_there o =
      let back = entries_after o (entries view.rows) in
      let h : AreAllAfter view o back = after_name view o in
      let name = last_name o (take round back) in
      let there : AreAllAfter view name (drop round back) = after_past view round o back h in
      asked_past order view round o h.0 back h.1 (first_or_end name (map var_of (drop round back)))
      (is_next order view name there.0 (drop round back) there.1)

  pub are_returned : (names : List VarBind) → AreInRound view round names (bindings_in_round view round names)
  are_returned [] = tt
  are_returned (p ∷ names) = (returned_there p.name, are_returned names)

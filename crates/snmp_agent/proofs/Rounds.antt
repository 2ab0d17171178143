-- Appending the rounds one after the other appends all rounds of the GetBulk (`rounds_next`, `rounds_over`), and these are the rounds of the standard
-- (`is_bulk`).
use Rattle.std.proofs.{lemmas.Grind.common_steps, lemmas.List.append-nil}
use Rattle.std.proofs.Common.{◌≡◌, ◌⊎◌, inl, inr, ℕ, zero, suc, ◌+◌, ◌-◌, ◌≤◌, ◌<◌, true, false, cond, List, [], ◌∷◌, ◌++◌, length, take, drop, refl}
use Rattle.std.proofs.Common.{sym, ap, subst, ◌∙◌, arith}
use Rattle.std.specs.List.{list_all}
use Rattle.snmp_wire.specs.Message.{VarBind, Message}
use Rattle.snmp_agent.specs.{table.Table.MibView, table.Table.IsMibView, Reply.AreEnds, Reply.AreRounds, Reply.IsBulk, Reply.joined, Reply.or_zero}
use Rattle.snmp_agent.specs.{private.Cursor.bindings_in_round, private.Cursor.is_over, private.Cursor.cursors_of}
use Rattle.snmp_agent.specs.private.Answering.{AreInRound, Held, bulk_of, fill, rounds_from}
use Rattle.snmp_agent.proofs.{NextEntries.IsOrder, ReplyBindings.fill_both, ReplyBindings.fill_full, Cursors.all_end, Cursors.are_returned}

not_empty : (before later : List (List VarBind)) (round : List VarBind) → [] ≡ before ++ round ∷ later → ⊥
not_empty [] later round e = cc
not_empty (r ∷ before) later round e = cc

-- ---- rounds that are appended, one after the other

-- `now` is the reply after `round` rounds: appending the remaining rounds to it results in the same as
-- appending all rounds to `old`
abbrev pub AreLeft : MibView → List VarBind → ℕ → Held → ℕ → Held → Type 0
AreLeft view names repetitions old round now = (left : ℕ) → round + left ≡ repetitions
    → fill old (joined (rounds_from view names 0 repetitions)) ≡ fill now (joined (rounds_from view names round left))

module _ (view : MibView) (names : List VarBind) (repetitions : ℕ) (old : Held) where
  pub rounds_first : AreLeft view names repetitions old 0 old
  rounds_first left e = grind (arith, common_steps)

  module _ (round : ℕ) (now new : Held) (are_left : AreLeft view names repetitions old round now) where
    pub rounds_done : round + 0 ≡ repetitions → now ≡ fill old (joined (rounds_from view names 0 repetitions))
    rounds_done e = sym (are_left 0 e)

    module _ (added : new ≡ fill now (bindings_in_round view round names)) where
      pub rounds_next : list_all is_over (cursors_of view round names) ≡ false → AreLeft view names repetitions old (round + 1) new
      rounds_next goes left e =
          let rest = rounds_from view names (round + 1) left in
          are_left (suc left) (omega (arith, e))
          ∙ ap (λ over. fill now (bindings_in_round view round names ++ joined (cond over [] rest))) goes
          ∙ fill_both now (bindings_in_round view round names) (joined rest)
          ∙ ap (λ (h : Held). fill h (joined rest)) (sym added)

      -- if no room is left after this round, or no round follows it, then appending all rounds to `old` results in the reply after this round
      pub rounds_over : round < repetitions → (new.left ≡ 0) ⊎ (list_all is_over (cursors_of view round names) ≡ true)
          → new ≡ fill old (joined (rounds_from view names 0 repetitions))
      rounds_over below (inl full) =
          let left = repetitions - (round + 1) in
          let rest = joined (cond (list_all is_over (cursors_of view round names)) [] (rounds_from view names (round + 1) left)) in
          sym (are_left (suc left) (omega (arith, below)) ∙ fill_both now (bindings_in_round view round names) rest ∙ ap (λ (h : Held). fill h rest) (sym added)
          ∙ fill_full new rest full)
      rounds_over below (inr over) =
          let left = repetitions - (round + 1) in
          sym (are_left (suc left) (omega (arith, below))
          ∙ ap (λ over. fill now (bindings_in_round view round names ++ joined (cond over [] (rounds_from view names (round + 1) left)))) over
          ∙ ap (fill now) (append-nil (bindings_in_round view round names)) ∙ sym added)

-- ---- the computed rounds are the rounds of the standard

module _ (order : IsOrder) (view : MibView) (mib : IsMibView view) (names : List VarBind) where
  -- each of the computed rounds has the results of that round for the names; if all these results are endOfMibView, then no round follows
  at_index : (i left : ℕ) (before later : List (List VarBind)) (round : List VarBind) → rounds_from view names i left ≡ before ++ round ∷ later
      → AreInRound view (i + length before) names round × (AreEnds round → later ≡ [])
  at_index i zero before later round e = absurd (not_empty before later round e)
  at_index i (suc left) [] later round e =
      let same : bindings_in_round view i names ≡ round = cc in
      let rest : cond (list_all is_over (cursors_of view i names)) [] (rounds_from view names (i + 1) left) ≡ later = cc in
      let cursor : i ≡ i + length {A = List VarBind} [] = omega arith in (
        subst (λ (k : ℕ). AreInRound view k names round) cursor (subst (λ (ps : List VarBind). AreInRound view i names ps) same
            (are_returned order view i names)),
        λ ends.
            sym rest ∙ ap (λ over. cond over [] (rounds_from view names (i + 1) left))
            ((all_end view mib i names).1 (subst (λ (ps : List VarBind). AreEnds ps) (sym same) ends)),
      )
  at_index i (suc left) (b ∷ before) later round e =
      let rest : cond (list_all is_over (cursors_of view i names)) [] (rounds_from view names (i + 1) left) ≡ before ++ round ∷ later = cc in
      elim (list_all is_over (cursors_of view i names)) as (λ over. cond over [] (rounds_from view names (i + 1) left) ≡ before ++ round ∷ later
      → AreInRound view (i + length (b ∷ before)) names round × (AreEnds round → later ≡ [])) [
        | true ↦ λ none. absurd (not_empty before later round none)
        | false ↦ λ goes.
            let there = at_index (i + 1) left before later round goes in
            let cursor : (i + 1) + length before ≡ i + length (b ∷ before) = omega arith in
            (subst (λ (k : ℕ). AreInRound view k names round) cursor there.0, there.1)
      ] rest

  -- there are at most `left` rounds, and if there are fewer, there is a last one, which is endOfMibView throughout
  early : (i left : ℕ) → (length (rounds_from view names i left) ≤ left)
      × (length (rounds_from view names i left) < left
      → (before : List (List VarBind)) × (round : List VarBind) × (rounds_from view names i left ≡ before ++ round ∷ []) × AreEnds round)
  early i zero = (omega arith, λ short. absurd (omega (arith, short)))
  early i (suc left) =
      let returned = bindings_in_round view i names in
      elim (list_all is_over (cursors_of view i names)) as (λ over. list_all is_over (cursors_of view i names) ≡ over
      → (length (returned ∷ cond over [] (rounds_from view names (i + 1) left)) ≤ suc left)
      × (length (returned ∷ cond over [] (rounds_from view names (i + 1) left)) < suc left
      → (before : List (List VarBind)) × (round : List VarBind) × (returned ∷ cond over [] (rounds_from view names (i + 1) left) ≡ before ++ round ∷ [])
      × AreEnds round)) [
        | true ↦ λ over. (omega arith, λ short. ([], returned, refl, (all_end view mib i names).0 over))
        | false ↦ λ goes.
            let rest = early (i + 1) left in (
              omega (arith, rest.0),
              λ short. let last = rest.1 (omega (arith, short)) in (returned ∷ last.0, last.1, ap (λ rs. returned ∷ rs) last.2, last.3),
            )
      ] refl

  are_rounds : (repetitions : ℕ) → AreRounds view repetitions names (rounds_from view names 0 repetitions)
  are_rounds repetitions = record {
    few = (early 0 repetitions).0;
    successors = λ before later round e.
        let cursor : 0 + length before ≡ length before = omega arith in
        subst (λ (k : ℕ). AreInRound view k names round) cursor (at_index 0 repetitions before later round e).0;
    last = λ before later round e. (at_index 0 repetitions before later round e).1;
    closed = (early 0 repetitions).1;
  }

-- the bindings that are computed for a GetBulk are all that it asks for
pub is_bulk : IsOrder → (view : MibView) → IsMibView view → (q : Message) → IsBulk view q (bulk_of view q)
is_bulk order view mib q = record {
  singles = bindings_in_round view 0 (take (or_zero q.a) q.bindings);
  rounds = rounds_from view (drop (or_zero q.a) q.bindings) 0 (or_zero q.b);
  parts = refl;
  are_singles = are_returned order view 0 (take (or_zero q.a) q.bindings);
  are_rounds = are_rounds order view mib (drop (or_zero q.a) q.bindings) (or_zero q.b);
}

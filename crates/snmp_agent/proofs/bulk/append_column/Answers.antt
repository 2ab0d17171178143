use Rattle.std.proofs.lemmas.Grind.{common_steps}
use mathlib.Core.Bool.{and-true}
use Rattle.std.proofs.Common.{◌∙◌, ◌≡◌, ◌⊎◌, inl, inr, true, [], ◌∷◌, ap, sym, arith}
use Rattle.std.specs.List.{list_all}
use Rattle.snmp_agent.specs.{Reply.joined, private.Answering.add, private.Answering.fill, private.Answering.held, private.Answering.rounds_from}
use Rattle.snmp_agent.specs.private.Cursor.{CursorView, bindings_in_round, is_over, next_at, passed, cursors_of}
use Rattle.snmp_agent.proofs.Rounds.{rounds_done, rounds_first, rounds_next, rounds_over}
use Rattle.snmp_agent.proofs.{Cursors.cursor_passed, bulk.append_column.Goals.After-append_next-reply}
use Rattle.snmp_agent.proofs.bulk.append_column.Goals as goal

pub rounds-init : goal.rounds-init
rounds-init c = grind (arith, common_steps, rounds_first)

-- the reply after the round is the one before it with the bindings of the round added
added : (c : After-append_next-reply) → held c.append_next-reply.result c.append_next-reply.new.out
    ≡ fill (held c.rounds.reply c.rounds.out) (bindings_in_round c.args.table.now c.rounds.counter (c.args.asked ∷ []))
added c = c.append_next-reply.ensures.added ∙ ap (λ (cursor : CursorView). add (held c.rounds.reply c.rounds.out) (next_at cursor)) c.rounds.invariant.cursor

-- no row is left for the name in this round if and only if `is_last` is true
last : (c : After-append_next-reply) → list_all is_over (cursors_of c.args.table.now c.rounds.counter (c.args.asked ∷ [])) ≡ c.is_at_end-is_last.result
last c = and-true _ ∙ ap is_over (sym c.rounds.invariant.cursor) ∙ sym c.is_at_end-is_last.ensures

over : (c : After-append_next-reply)
    → (c.append_next-reply.result.left ≡ 0) ⊎ (list_all is_over (cursors_of c.args.table.now c.rounds.counter (c.args.asked ∷ [])) ≡ true)
    → held c.append_next-reply.result c.append_next-reply.new.out
    ≡ fill (held c.args.reply c.args.out.now) (joined (rounds_from c.args.table.now (c.args.asked ∷ []) 0 c.args.repetitions))
over c =
    rounds_over c.args.table.now (c.args.asked ∷ []) c.args.repetitions (held c.args.reply c.args.out.now) c.rounds.counter (held c.rounds.reply c.rounds.out)
    (held c.append_next-reply.result c.append_next-reply.new.out) c.rounds.invariant.rounds (added c) c.rounds-test.true

pub returns-then-is_full : goal.returns-then-is_full
returns-then-is_full c = over (goal.at.returns-then-is_full c).After-append_next-reply (inl (c.is_full.ensures.0 c.if-is_full.true))

pub returns-then-is_last : goal.returns-then-is_last
returns-then-is_last c =
    let k = (goal.at.returns-then-is_last c).After-append_next-reply in
    over k (inr (last k ∙ c.if-is_last.true))

pub rounds-preserved : goal.rounds-preserved
rounds-preserved c =
    let k = (goal.at.rounds-preserved c).After-append_next-reply in
    record {
      rounds = rounds_next c.args.table.now (c.args.asked ∷ []) c.args.repetitions (held c.args.reply c.args.out.now) c.rounds.counter
          (held c.rounds.reply c.rounds.out) (held c.append_next-reply.result c.append_next-reply.new.out) c.rounds.invariant.rounds (added k)
          (last k ∙ c.if-is_last.false);
      cursor = c.append_next-reply.ensures.moved ∙ ap passed c.rounds.invariant.cursor ∙ cursor_passed c.args.table.now c.rounds.counter c.args.asked.name;
    }

pub returns : goal.returns
returns c =
    rounds_done c.args.table.now (c.args.asked ∷ []) c.args.repetitions (held c.args.reply c.args.out.now) c.rounds.counter (held c.rounds.reply c.rounds.out)
    (held c.rounds.reply c.rounds.out) c.rounds.invariant.rounds (omega (arith, c.rounds-test.false))

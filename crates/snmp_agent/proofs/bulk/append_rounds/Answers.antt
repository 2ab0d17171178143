use Rattle.std.proofs.{lemmas.Grind.common_steps, lemmas.List.map-append}
use Rattle.std.proofs.Common.{◌≡◌, ◌⊎◌, inl, inr, ◌+◌, true, List, ◌++◌, map, sym, ap, ◌∙◌, arith}
use Rattle.std.specs.List.{list_all}
use Rattle.snmp_wire.specs.Message.{VarBind}
use Rattle.snmp_agent.specs.private.Answering.{fill, held}
use Rattle.snmp_agent.specs.private.Cursor.{CursorView, bindings_in_round, is_over, next_at, passed, cursors_of}
use Rattle.snmp_agent.proofs.Rounds.{rounds_done, rounds_first, rounds_next, rounds_over}
use Rattle.snmp_agent.proofs.{Cursors.cursors_passed, bulk.append_rounds.Goals.After-append_round-is_over}
use Rattle.snmp_agent.proofs.bulk.append_rounds.Goals as goal

pub rounds-init : goal.rounds-init
rounds-init c = grind (arith, common_steps, rounds_first)

-- the stored positions, followed by the positions of the other names, are the positions of all names
all : (c : After-append_round-is_over) → c.rounds.cursors ++ cursors_of c.args.table.now c.rounds.round c.remaining.result
    ≡ cursors_of c.args.table.now c.rounds.round c.args.bindings.now
all c = ap (λ (bs : List VarBind). c.rounds.cursors ++ cursors_of c.args.table.now c.rounds.round bs) c.remaining.ensures ∙ c.rounds.invariant.cursors

added : (c : After-append_round-is_over) → held c.append_round-is_over.result.0 c.append_round-is_over.new.out
    ≡ fill (held c.rounds.reply c.rounds.out) (bindings_in_round c.args.table.now c.rounds.round c.args.bindings.now)
added c = c.append_round-is_over.ensures.filled ∙ ap (λ (ps : List CursorView). fill (held c.rounds.reply c.rounds.out) (map next_at ps)) (all c)

pub returns-then-is_over : goal.returns-then-is_over
returns-then-is_over c =
    let k = (goal.at.returns-then-is_over c).After-append_round-is_over in
    let end : (c.append_round-is_over.result.0.left ≡ 0) ⊎ (list_all is_over (cursors_of c.args.table.now c.rounds.round c.args.bindings.now) ≡ true) =
    elim (c.append_round-is_over.ensures.last c.if-is_over.true) [
      | inl full ↦ inl full
      | inr over ↦ inr (sym (ap (list_all is_over) (all k)) ∙ over)
    ] in
    rounds_over c.args.table.now c.args.bindings.now c.args.repetitions (held c.args.reply c.args.out.now) c.rounds.round
    (held c.rounds.reply c.rounds.out) (held c.append_round-is_over.result.0 c.append_round-is_over.new.out) c.rounds.invariant.rounds (added k)
    c.rounds-test.true end

pub rounds-preserved : goal.rounds-preserved
rounds-preserved c =
    let view = c.args.table.now in
    let k = (goal.at.rounds-preserved c).After-append_round-is_over in
    let others = cursors_of view c.rounds.round c.args.others in
    record {
      rounds = rounds_next view c.args.bindings.now c.args.repetitions (held c.args.reply c.args.out.now) c.rounds.round
          (held c.rounds.reply c.rounds.out) (held c.append_round-is_over.result.0 c.append_round-is_over.new.out) c.rounds.invariant.rounds (added k)
          (sym (ap (list_all is_over) (all k)) ∙ c.append_round-is_over.ensures.goes c.if-is_over.false);
      cursors = ap (λ (ps : List CursorView). ps ++ cursors_of view (c.rounds.round + 1) c.args.others)
          (c.append_round-is_over.ensures.moved c.if-is_over.false)
          ∙ ap (λ (ps : List CursorView). map passed c.rounds.cursors ++ ps) (sym (cursors_passed view c.rounds.round c.args.others))
          ∙ sym (map-append passed c.rounds.cursors others) ∙ ap (map passed) c.rounds.invariant.cursors
          ∙ cursors_passed view c.rounds.round c.args.bindings.now;
    }

pub returns : goal.returns
returns c =
    rounds_done c.args.table.now c.args.bindings.now c.args.repetitions (held c.args.reply c.args.out.now) c.rounds.round (held c.rounds.reply c.rounds.out)
    (held c.rounds.reply c.rounds.out) c.rounds.invariant.rounds (omega (arith, c.rounds-test.false))

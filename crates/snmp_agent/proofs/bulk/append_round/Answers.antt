use Rattle.std.proofs.{lemmas.Grind.common_steps, lemmas.List.Edits.map_over_more, lemmas.List.Folds.list_all-append}
use mathlib.Core.Bool.{and-true, and_assoc}
use Rattle.std.proofs.Common.{◌≡◌, ◌<◌, ◌≤◌, ◌+◌, inl, inr, ◌&&◌, List, ◌++◌, map, length, drop, slice_set, refl, sym, ap, ◌∙◌, arith}
use Rattle.std.specs.List.{list_all}
use Rattle.std.proofs.lemmas.List.{append-nil, drop_all, map-append, take_all}
use Rattle.snmp_wire.specs.Message.{VarBind}
use Rattle.snmp_agent.specs.private.Answering.{Held, fill, held}
use Rattle.snmp_agent.specs.private.Cursor.{CursorView, bindings_in_round, is_over, next_at, passed, cursor_of, cursors_of}
use Rattle.snmp_agent.proofs.{ReplyBindings.fill_both, ReplyBindings.fill_full, Lists.still_there}
use Rattle.snmp_agent.proofs.bulk.append_round.Goals as goal
use Rattle.snmp_agent.proofs.bulk.append_round.Goals.{After-append_next-reply, After-append_next-reply-in-Some, In_default, then-are_over}
use Rattle.snmp_agent.proofs.bulk.append_round.Goals.{else-are_over}

-- ---- the positions

pub cursors-init : goal.cursors-init
cursors-init c = record { moved = refl; rest = refl }

-- appending the results at all positions to the first reply results in the same as appending the results at the positions after this one to the reply so far
next : (c : After-append_next-reply) → fill (held c.args.reply c.args.out.now) (map next_at c.args.cursors.now)
    ≡ fill (held c.append_next-reply.result c.append_next-reply.new.out) (map next_at (drop (c.cursors.cursor-index + 1) c.args.cursors.now))
next c = grind (arith, common_steps, still_there)

pub cursors-preserved : goal.cursors-preserved
cursors-preserved c =
    let i = c.cursors.cursor-index in
    let low : i < length c.args.cursors.now = omega (arith, c.cursors-test.true, c.cursors.auto.cursors) in
    record {
      moved = ap (slice_set c.cursors.cursors i) (c.append_next-reply.ensures.moved ∙ ap passed (sym c.cursor-item.is))
          ∙ map_over_more passed c.args.cursors.now c.cursors.cursors i c.cursor-item.result low c.cursors.invariant.moved c.cursor-item.is;
      rest = next (goal.at.cursors-preserved c).After-append_next-reply;
    }

parts : (old : Held) (prefix back : List CursorView) → fill old (map next_at (prefix ++ back)) ≡ fill (fill old (map next_at prefix)) (map next_at back)
parts old prefix back = ap (fill old) (map-append next_at prefix back) ∙ fill_both old (map next_at prefix) (map next_at back)

pub returns-then-is_full-clause-filled : goal.returns-then-is_full-clause-filled
returns-then-is_full-clause-filled c =
    let now : Held = held c.append_next-reply.result c.append_next-reply.new.out in
    let others = map next_at (cursors_of c.args.table.now c.args.round c.args.others) in
    let full = c.is_full.ensures.0 c.if-is_full.true in
    sym (parts (held c.args.reply c.args.out.now) c.args.cursors.now (cursors_of c.args.table.now c.args.round c.args.others)
    ∙ ap (λ (h : Held). fill h others) (next (goal.at.returns-then-is_full-clause-filled c).After-append_next-reply
    ∙ fill_full now (map next_at (drop (c.cursors.cursor-index + 1) c.args.cursors.now)) full)
    ∙ fill_full now others full)

pub returns-then-is_full-clause-last : goal.returns-then-is_full-clause-last
returns-then-is_full-clause-last c = λ _. inl (c.is_full.ensures.0 c.if-is_full.true)

-- ---- the other names

pub others-init : goal.others-init
others-init c =
    let cursors = c.args.cursors.now in
    let others = cursors_of c.args.table.now c.args.round c.args.others in
    let all : length cursors ≤ c.cursors.cursor-index = omega (arith, c.cursors-test.false, c.cursors.auto.cursors) in
    record {
      rest = parts (held c.args.reply c.args.out.now) cursors others
          ∙ ap (λ (h : Held). fill h (map next_at others))
          (c.cursors.invariant.rest
          ∙ ap (λ (ps : List CursorView). fill (held c.cursors.reply c.cursors.out) (map next_at ps)) (drop_all c.cursors.cursor-index cursors all));
      over = list_all-append is_over cursors others ∙ ap (λ b. b && list_all is_over others) (sym c.are_at_end-are_over.ensures);
    }

-- appending the bindings of the whole round to the first reply results in the same as appending the bindings of the names that are left to the reply so far
more : (c : After-append_next-reply-in-Some) → fill (held c.args.reply c.args.out.now)
    (map next_at (c.args.cursors.now ++ cursors_of c.args.table.now c.args.round c.args.others))
    ≡ fill (held c.append_next-reply-in-Some.result c.append_next-reply-in-Some.new.out) (bindings_in_round c.args.table.now c.args.round c.next_ref.new.self)
more c = grind (arith, common_steps)

pub others-preserved : goal.others-preserved
others-preserved c =
    let at = c.after_rounds-cursor.ensures ∙ ap (cursor_of c.args.table.now c.args.round) c.name.ensures in
    let rest = list_all is_over (cursors_of c.args.table.now c.args.round c.next_ref.new.self) in
    let last = c.is_at_end-is_last.ensures ∙ ap is_over at in
    let now : c.if-are_over.are_over ≡ (c.others.are_over && c.is_at_end-is_last.result) = elim c.if-are_over.branch [
      | then-are_over w ↦ w.are_over-is ∙ sym (ap (λ b. b && c.is_at_end-is_last.result) w.if-are_over.true)
      | else-are_over w ↦ w.are_over-is ∙ w.if-are_over.false ∙ sym (ap (λ b. b && c.is_at_end-is_last.result) w.if-are_over.false)
    ] in
    record {
      rest = more (goal.at.others-preserved c).After-append_next-reply-in-Some;
      over = c.others.invariant.over
          ∙ ap (λ (bs : List VarBind). c.others.are_over && list_all is_over (cursors_of c.args.table.now c.args.round bs)) c.in-Some.ensures.some
          ∙ sym (ap (λ b. b && rest) (now ∙ ap (λ b. c.others.are_over && b) last) ∙ and_assoc c.others.are_over _ rest);
    }

pub returns-then-is_full-2-clause-filled : goal.returns-then-is_full-2-clause-filled
returns-then-is_full-2-clause-filled c =
    sym (more (goal.at.returns-then-is_full-2-clause-filled c).After-append_next-reply-in-Some
    ∙ fill_full (held c.append_next-reply-in-Some.result c.append_next-reply-in-Some.new.out)
    (bindings_in_round c.args.table.now c.args.round c.next_ref.new.self)
    (c.is_full-in-Some.ensures.0 c.if-is_full-2.true))

pub returns-then-is_full-2-clause-last : goal.returns-then-is_full-2-clause-last
returns-then-is_full-2-clause-last c = λ _. inl (c.is_full-in-Some.ensures.0 c.if-is_full-2.true)

-- ---- the end

pub returns-clause-filled : goal.returns-clause-filled
returns-clause-filled c = grind (arith, common_steps)

over : (c : In_default) → list_all is_over (c.args.cursors.now ++ cursors_of c.args.table.now c.args.round c.args.others) ≡ c.others.are_over
over c =
    c.others.invariant.over
    ∙ ap (λ (bs : List VarBind). c.others.are_over && list_all is_over (cursors_of c.args.table.now c.args.round bs)) c.in_default.ensures.none.0
    ∙ and-true c.others.are_over

pub returns-clause-last : goal.returns-clause-last
returns-clause-last c = λ is. inr (over (goal.at.returns-clause-last c).In_default ∙ is)

pub returns-clause-goes : goal.returns-clause-goes
returns-clause-goes c = λ is. over (goal.at.returns-clause-goes c).In_default ∙ is

pub returns-clause-moved : goal.returns-clause-moved
returns-clause-moved c = grind (arith, common_steps, drop_all, append-nil, take_all)

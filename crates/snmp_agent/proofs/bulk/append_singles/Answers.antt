use Rattle.std.proofs.{lemmas.Grind.common_steps, Math.Seq.drop-nil, Math.Seq.take-nil}
use Rattle.std.proofs.Common.{◌≡◌, ℕ, suc, ◌+◌, ◌-◌, List, [], ◌∷◌, take, drop, sym, ap, ◌∙◌, arith}
use Rattle.snmp_wire.specs.Message.{VarBind}
use Rattle.snmp_agent.specs.{private.Answering.Held, private.Answering.fill, private.Answering.held, private.Cursor.bindings_in_round}
use Rattle.snmp_agent.proofs.{ReplyBindings.fill_full, bulk.append_singles.Goals.After-append_next-reply}
use Rattle.snmp_agent.proofs.bulk.append_singles.Goals as goal

pub singles-init : goal.singles-init
singles-init c = grind (arith, common_steps)

pub returns-in_default-clause-filled : goal.returns-in_default-clause-filled
returns-in_default-clause-filled c =
    let left = c.args.count - c.singles.counter in
    let none : take left c.singles.bindings ≡ [] = ap (take left) c.in_default.ensures.none.0 ∙ take-nil left in
    sym (c.singles.invariant.others left (omega (arith, c.singles-test.true))
    ∙ ap (λ (bs : List VarBind). fill (held c.singles.reply c.singles.out) (bindings_in_round c.args.table.now 0 bs)) none)

pub returns-in_default-clause-left : goal.returns-in_default-clause-left
returns-in_default-clause-left c = λ some.
    let left = c.args.count - c.singles.counter in
    let e : c.singles.counter + left ≡ c.args.count = omega (arith, c.singles-test.true) in
    let none : c.singles.bindings ≡ [] = c.in_default.ensures.none.0 in
    let now : c.next_ref.new.self ≡ [] = c.in_default.ensures.none.1 in
    now ∙ sym (ap (drop left) none ∙ drop-nil left) ∙ c.singles.invariant.left left e

next : (c : After-append_next-reply) (left : ℕ) → (c.singles.counter + 1) + left ≡ c.args.count
    → fill (held c.args.reply c.args.out.now) (bindings_in_round c.args.table.now 0 (take c.args.count c.args.bindings.now))
    ≡ fill (held c.append_next-reply.result c.append_next-reply.new.out) (bindings_in_round c.args.table.now 0 (take left c.next_ref.new.self))
next c left e =
    c.singles.invariant.others (suc left) (omega (arith, e))
    ∙ ap (λ (bs : List VarBind). fill (held c.singles.reply c.singles.out) (bindings_in_round c.args.table.now 0 (take (suc left) bs))) c.in-Some.ensures.some
    ∙ ap (λ (h : Held). fill h (bindings_in_round c.args.table.now 0 (take left c.next_ref.new.self))) (sym c.append_next-reply.ensures)

pub returns-then-is_full-clause-filled : goal.returns-then-is_full-clause-filled
returns-then-is_full-clause-filled c =
    let left = c.args.count - (c.singles.counter + 1) in
    sym (next (goal.at.returns-then-is_full-clause-filled c).After-append_next-reply left (omega (arith, c.singles-test.true))
    ∙ fill_full (held c.append_next-reply.result c.append_next-reply.new.out) (bindings_in_round c.args.table.now 0 (take left c.next_ref.new.self))
    (c.is_full.ensures.0 c.if-is_full.true))

pub returns-then-is_full-clause-left : goal.returns-then-is_full-clause-left
returns-then-is_full-clause-left c = λ some. absurd (some (c.is_full.ensures.0 c.if-is_full.true))

pub singles-preserved : goal.singles-preserved
singles-preserved c =
    let e : c.singles.bindings ≡ c.in-Some.asked ∷ c.next_ref.new.self = c.in-Some.ensures.some in
    record {
      others = next (goal.at.singles-preserved c).After-append_next-reply;
      left = λ left same.
          sym (ap (drop (suc left)) e) ∙ c.singles.invariant.left (suc left) (omega (arith, same));
    }

pub returns-clause-filled : goal.returns-clause-filled
returns-clause-filled c = sym (c.singles.invariant.others 0 (omega (arith, c.singles-test.false)))

pub returns-clause-left : goal.returns-clause-left
returns-clause-left c = λ some. c.singles.invariant.left 0 (omega (arith, c.singles-test.false))

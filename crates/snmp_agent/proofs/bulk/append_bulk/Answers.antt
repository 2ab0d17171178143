use mir.Syntax.{w32}
use mir.Val.{of_z, to_z, SFits}
use Rattle.std.proofs.{lemmas.Int.to_z-of_z, Common.rules, Common.◌≡◌, Common.ℤ, Common.drop, Common.take, Common.sym, Common.ap, Common.◌∙◌}
use Rattle.snmp_agent.specs.{Reply.joined, Reply.or_zero, private.Cursor.bindings_in_round}
use Rattle.snmp_agent.specs.private.Answering.{Held, fill, held, rounds_from}
use Rattle.snmp_agent.proofs.{ReplyBindings.fill_both, ReplyBindings.fill_full, bulk.append_bulk.Goals.After-append_singles-reply}
use Rattle.snmp_agent.proofs.bulk.append_bulk.Goals as goal

-- if `handed` equals `z` and fits in a signed word of 32 bits, then that word represents `z`
number : {z : ℤ} (handed : ℤ) → SFits w32 handed → handed ≡ z → to_z w32 (of_z w32 handed) ≡ z
number handed fits e = to_z-of_z w32 handed fits ∙ e

count : (c : After-append_singles-reply) → c.or_zero-count.result ≡ or_zero c.args.request.now.a
count c = c.or_zero-count.ensures ∙ ap or_zero (number c.a.result (search rules) c.a.ensures)

singles : (c : After-append_singles-reply) → held c.append_singles-reply.result c.append_singles-reply.new.out
    ≡ fill (held c.args.reply c.args.out.now) (bindings_in_round c.args.table.now 0 (take (or_zero c.args.request.now.a) c.args.request.now.bindings))
singles c = rw (count c, c.bindings-bindings.ensures) at c.append_singles-reply.ensures.filled

pub returns-then-is_full : goal.returns-then-is_full
returns-then-is_full c =
    let view = c.args.table.now in
    let q = c.args.request.now in
    let now : Held = held c.append_singles-reply.result c.append_singles-reply.new.out in
    let first = bindings_in_round view 0 (take (or_zero q.a) q.bindings) in
    let rest = joined (rounds_from view (drop (or_zero q.a) q.bindings) 0 (or_zero q.b)) in
    sym (fill_both (held c.args.reply c.args.out.now) first rest
    ∙ ap (λ (h : Held). fill h rest) (sym (singles (goal.at.returns-then-is_full c).After-append_singles-reply))
    ∙ fill_full now rest (c.is_full.ensures.0 c.if-is_full.true))

pub returns : goal.returns
returns c =
    let view = c.args.table.now in
    let q = c.args.request.now in
    let k = (goal.at.returns c).After-append_singles-reply in
    let first = bindings_in_round view 0 (take (or_zero q.a) q.bindings) in
    let rest = joined (rounds_from view (drop (or_zero q.a) q.bindings) 0 (or_zero q.b)) in
    let repetitions : c.or_zero-repetitions.result ≡ or_zero q.b = c.or_zero-repetitions.ensures ∙ ap or_zero (number c.b.result (search rules) c.b.ensures) in
    let left : c.append_singles-reply.new.bindings ≡ drop c.or_zero-count.result c.bindings-bindings.result = c.append_singles-reply.ensures.left (λ full.
    let is = c.is_full.ensures.1 full in let isnt = c.if-is_full.false in absurd (cc)) in
    let rounds = rw (left, count k, c.bindings-bindings.ensures, repetitions) at c.append_repeaters.ensures in
    rounds ∙ ap (λ (h : Held). fill h rest) (singles k) ∙ sym (fill_both (held c.args.reply c.args.out.now) first rest)

use Rattle.std.proofs.{lemmas.Grind.common_steps, lemmas.List.length-take-le}
use Rattle.std.proofs.Common.{◌≡◌, ◌⊎◌, inl, inr, ◌<◌, ◌-◌, pos, [], is_some, length, take, refl, sym, ap, arith}
use Rattle.snmp_wire.specs.{Canon.canon_bindings, Message.Message}
use Rattle.snmp_agent.specs.{Reply.Fits, Reply.response, Reply.shortened, Reply.too_big, Reply.whole, table.Table.MibView}
use Rattle.snmp_agent.specs.private.Answering.{answers_to, held, whole_index, whole_status}
use Rattle.snmp_agent.proofs.{ReplyBindings.HoldsPrefix, ReplyBindings.all_prefix, ReplyBindings.no_bindings, ReplyBindings.all_or_full}
use Rattle.snmp_agent.proofs.{Requests.whole_response}
use Rattle.snmp_agent.proofs.agent.paired_reply.Goals as goal
use Rattle.snmp_agent.proofs.agent.paired_reply.Goals.{After-append_answers-bindings}

prefix : (c : After-append_answers-bindings)
    → HoldsPrefix c.args.config.now.max_size [] (answers_to c.args.table.now c.args.request.now.kind c.args.request.now.bindings)
    (held c.append_answers-bindings.result c.append_answers-bindings.new.out)
prefix c = grind (arith, common_steps, all_prefix)

held_all : (c : After-append_answers-bindings)
    → (take (c.args.config.now.max_size - c.append_answers-bindings.result.left) c.append_answers-bindings.new.out
    ≡ canon_bindings (answers_to c.args.table.now c.args.request.now.kind c.args.request.now.bindings))
    ⊎ ((c.append_answers-bindings.result.left ≡ 0)
    × (c.args.config.now.max_size < length (canon_bindings (answers_to c.args.table.now c.args.request.now.kind c.args.request.now.bindings))))
held_all c = grind (arith, common_steps, all_or_full, length-take-le, prefix)

-- the whole Response to the request `q`, whatever its length
abbrev large : MibView → Message → Message
large view q = response q (whole_status q.kind) (whole_index q.kind q.bindings) (answers_to view q.kind q.bindings)

pub overflow_sub-total : goal.overflow_sub-total
overflow_sub-total c = omega (arith, (prefix (goal.at.overflow_sub-total c).After-append_answers-bindings).fits)

pub returns-in-Some : goal.returns-in-Some
returns-in-Some c =
    let q = c.args.request.now in
    let r = large c.args.table.now q in
    elim (held_all (goal.at.returns-in-Some c).After-append_answers-bindings) [
      | inl octets ↦
          let w = rw c.in-Some.is at (c.seal_reply.ensures.written r c.whole_parts-parts.ensures octets) in
          (r, whole (whole_response c.order.ensures.less c.args.table.now q c.requires.served c.requires.other) w.0, w)
      | inr full ↦ absurd (omega (arith, full.0, c.seal_reply.ensures.room (ap is_some c.in-Some.is)))
    ]

pub returns-in-None : goal.returns-in-None
returns-in-None c =
    let q = c.args.request.now in
    let r = large c.args.table.now q in
    let e = response q too_big (pos 0) [] in
    let no_fit : Fits c.args.config.now.max_size r → ⊥ = elim (held_all (goal.at.returns-in-None c).After-append_answers-bindings) [
      | inl octets ↦ λ fits.
          let long = rw c.in-None.is at (c.seal_reply.ensures.written r c.whole_parts-parts.ensures octets) in absurd (omega (arith, fits, long))
      | inr full ↦ λ fits. absurd (omega (arith, fits, full.1, c.message_sizes.ensures.whole r))
    ] in (
      e,
      shortened r (whole_response c.order.ensures.less c.args.table.now q c.requires.served c.requires.other) no_fit refl,
      c.seal_reply-in-None.ensures.written e c.response.ensures (sym no_bindings),
    )

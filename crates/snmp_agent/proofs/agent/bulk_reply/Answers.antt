use Rattle.std.proofs.{lemmas.Grind.common_steps, Common.[], Common.pos, Common.arith, lemmas.List.length-take-le}
use Rattle.snmp_wire.specs.Parts.{parts_message}
use Rattle.snmp_agent.specs.declared.room.ReplyBindings.{ReplyBindings}
use Rattle.snmp_agent.specs.{Reply.IsResponse, Reply.no_error, Reply.response, private.Answering.bulk_of, private.Answering.held}
use Rattle.snmp_agent.proofs.{BulkReplies.bulk_response, ReplyBindings.HoldsPrefix, ReplyBindings.all_prefix, Lengths.room_within, Rounds.is_bulk}
use Rattle.snmp_agent.proofs.agent.bulk_reply.Goals as goal
use Rattle.snmp_agent.proofs.agent.bulk_reply.Goals.{After-append_bulk-bindings}

-- a prefix of the bindings that the request asks for was written
prefix : (c : After-append_bulk-bindings) → HoldsPrefix c.room_for_bindings-room.result [] (bulk_of c.args.table.now c.args.request.now)
    (held c.append_bulk-bindings.result c.append_bulk-bindings.new.out)
prefix c = grind (arith, common_steps, all_prefix)

is_response : (c : After-append_bulk-bindings) → IsResponse c.args.table.now c.args.config.now.max_size c.args.request.now
    (response c.args.request.now no_error (pos 0) (prefix c).added)
is_response c =
    bulk_response c.message_sizes.ensures c.args.table.now c.args.config.now.max_size c.room_for_bindings-room.result c.args.request.now
    (parts_message c.response-parts.result) (bulk_of c.args.table.now c.args.request.now) (held c.append_bulk-bindings.result c.append_bulk-bindings.new.out)
    c.requires.bulk (is_bulk c.order.ensures.less c.args.table.now c.is_mib_view.ensures c.args.request.now) c.response-parts.ensures
    c.room_for_bindings-room.ensures (prefix c)

pub seal_reply-requires-clause-within : goal.seal_reply-requires-clause-within
seal_reply-requires-clause-within c =
    let here = prefix (goal.at.seal_reply-requires-clause-within c).After-append_bulk-bindings in
    let bindings : ReplyBindings = c.append_bulk-bindings.result in
    omega (
      arith,
      room_within (parts_message c.response-parts.result) c.args.config.now.max_size c.room_for_bindings-room.result c.room_for_bindings-room.ensures,
      length-take-le bindings.total c.append_bulk-bindings.new.out (omega arith),
      here.fits,
    )

pub returns : goal.returns
returns c =
    let k = (goal.at.returns c).After-append_bulk-bindings in
    let r = response c.args.request.now no_error (pos 0) (prefix k).added in
    (r, is_response k, c.seal_reply.ensures.written r c.response-parts.ensures (prefix k).octets)

use Rattle.std.proofs.Common.{◌≡◌, ◌∙◌, List, ℕ, length, take, arith, ap, inl, inr, refl}
use Rattle.snmp_agent.specs.Reply.{IsReply, agent_of}
use Rattle.snmp_wire.specs.Message.{Message}
use Rattle.snmp_agent.specs.declared.config.DropReason.TheVariants as why
use Rattle.snmp_walk.proofs.OwnReply.{one_spelt}
use Rattle.snmp_walk.proofs.loose.Way.answer.Goals.{In-Reply}
use Rattle.snmp_walk.proofs.loose.Way.answer.Goals as goal

replied : (c : In-Reply) → IsReply (agent_of c.args.table.now c.args.config.now) c.args.datagram.now (take c.in-Reply.size c.answer.new.out)
replied c = c.in-Reply.ensures.reply c.in-Reply.size refl

pub replace-requires-clause-community : goal.replace-requires-clause-community
replace-requires-clause-community c =
    let reply = replied (goal.at.replace-requires-clause-community c).In-Reply in
    let same : c.in-Ok.request ≡ reply.request =
    one_spelt c.codec.ensures c.in-Ok.request reply.request c.args.datagram.now c.in-Ok.ensures.found reply.is_request.spelt in
    let named : c.in-Ok.request.community ≡ c.args.config.now.community.now =
    ap (λ (m : Message). m.community) same ∙ reply.is_request.named in
    omega (arith, ap length named, c.args.config.now.short)

pub replace-requires-clause-reply : goal.replace-requires-clause-reply
replace-requires-clause-reply c =
    let reply = replied (goal.at.replace-requires-clause-reply c).In-Reply in
    let encoded = c.codec.ensures.reply (agent_of c.args.table.now c.args.config.now) c.args.datagram.now (take c.in-Reply.size c.answer.new.out)
    c.is_mib_view.ensures (omega (arith, c.args.config.now.datagram)) reply in (_, encoded.element)

pub returns-in_default-clause-dropped : goal.returns-in_default-clause-dropped
returns-in_default-clause-dropped c = (why.Undecodable, λ q spelt. c.in_default.not-Ok q (c.decode.ensures.only q spelt))

pub returns-in-Some-clause-sent : goal.returns-in-Some-clause-sent
returns-in-Some-clause-sent c = record {
  request = c.in-Ok.request;
  encoded = c.in-Ok.ensures.found;
  reply = take c.in-Reply.size c.answer.new.out;
  is_reply = replied (goal.at.returns-in-Some-clause-sent c).In-Reply;
  sent = inl c.in-Some.ensures.some;
}

pub returns-in-None-clause-sent : goal.returns-in-None-clause-sent
returns-in-None-clause-sent c = record {
  request = c.in-Ok.request;
  encoded = c.in-Ok.ensures.found;
  reply = take c.in-Reply.size c.answer.new.out;
  is_reply = replied (goal.at.returns-in-None-clause-sent c).In-Reply;
  sent = inr (ap (λ (octets : List ℕ). take c.in-Reply.size octets) c.in-None.ensures.none.1, c.in-None.ensures.none.0);
}

use Rattle.std.proofs.Common.{◌≡◌, length, take, ap, refl, sym, subst, ◌∙◌, arith}
use Rattle.snmp_agent.specs.{declared.config.DropReason.DropReason, Reply.agent_of, Reply.IsDropped}
use Rattle.snmp_agent.specs.declared.config.DropReason.TheVariants as why
use Rattle.snmp_agent.proofs.{Encodings.read_message, OneReply.is_replied, OneReply.refused_is_dropped}
use Rattle.snmp_agent.proofs.agent.answer_by.Goals as goal

pub reply-requires-clause-writable : goal.reply-requires-clause-writable
reply-requires-clause-writable c = read_message c.in-Ok.message c.args.request.now c.in-Ok.ensures.found.spelt

pub returns-in-Some-clause-reply : goal.returns-in-Some-clause-reply
returns-in-Some-clause-reply c = λ n e.
    let same : c.in-Some.size ≡ n = cc in
    let sent = rw c.in-Some.is at c.reply.ensures in
    record {
      request = c.in-Ok.message;
      response = sent.0;
      is_request = c.in-Ok.ensures.found;
      is_response = sent.1;
      fits = sent.2.0;
      encoding = ap (λ k. take k c.reply.new.out) (sym same) ∙ sent.2.1;
    }

pub returns-in-None-clause-dropped : goal.returns-in-None-clause-dropped
returns-in-None-clause-dropped c = λ reason e.
    let same : why.TooLong ≡ reason = cc in
    let none = rw c.in-None.is at c.reply.ensures in
    subst (λ (w : DropReason). IsDropped (agent_of c.args.table.now c.args.config.now) c.args.request.now w) same
    (c.in-Ok.message, none.0, c.in-Ok.ensures.found, none.1, λ fits. absurd (omega (arith, fits, none.2)))

pub returns-in-Some-clause-replied : goal.returns-in-Some-clause-replied
returns-in-Some-clause-replied c octets is =
    let sent = rw c.in-Some.is at c.reply.ensures in
    is_replied c.in-Some.size c.reply.new.out octets (sent.2.2 ∙ sym (ap length sent.2.1))
    (c.one_reply.ensures.one (agent_of c.args.table.now c.args.config.now) c.args.request.now (take c.in-Some.size c.reply.new.out) octets
    (returns-in-Some-clause-reply c c.in-Some.size refl) is)

pub returns-in-None-clause-replied : goal.returns-in-None-clause-replied
returns-in-None-clause-replied c octets is =
    absurd (c.one_reply.ensures.none (agent_of c.args.table.now c.args.config.now) c.args.request.now octets why.TooLong is
    (returns-in-None-clause-dropped c why.TooLong refl))

pub returns-in-Err-clause-replied : goal.returns-in-Err-clause-replied
returns-in-Err-clause-replied c octets is =
    let agent = agent_of c.args.table.now c.args.config.now in
    absurd (c.one_reply.ensures.none agent c.args.request.now octets c.in-Err.why is
    (refused_is_dropped agent c.args.request.now c.in-Err.why c.in-Err.ensures.refused))

use Rattle.std.proofs.Common.{List, ℕ, refl, subst}
use Rattle.snmp_agent.specs.Reply.{IsDropped, agent_of}
use Rattle.snmp_walk.proofs.loose.repeat_less.Goals as goal

-- an agent that drops a datagram has no reply to it
pub returns-in-Dropped-clause-none : goal.returns-in-Dropped-clause-none
returns-in-Dropped-clause-none c =
    let agent = agent_of c.args.table.now c.args.config.now in
    let why = c.in-Dropped.field-0 in (
      λ k more other h.
          c.one_reply.ensures.none agent _ other why h
          (subst (λ (datagram : List ℕ). IsDropped agent datagram why) c.put_request-size.ensures.octets (c.in-Dropped.ensures.dropped why refl)),
      refl,
    )

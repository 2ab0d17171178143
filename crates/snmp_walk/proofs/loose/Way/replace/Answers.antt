use Rattle.std.proofs.Common.{◌<ℤ◌, pos, ℕ, sym, subst, take}
use Rattle.snmp_agent.specs.Reply.{IsReply, agent_of}
use Rattle.snmp_wire.specs.Canon.{canon}
use Rattle.snmp_walk.specs.{declared.loose.Way.Way, Loose.Replaces, Loose.with_repetitions}
use Rattle.snmp_walk.proofs.LooseLinks.{if_none}
use Rattle.snmp_walk.proofs.loose.Way.replace.Goals as goal

pub returns-in-Fewer-clause-none : goal.returns-in-Fewer-clause-none
returns-in-Fewer-clause-none c =
    let agent = agent_of c.args.table.now c.args.config.now in
    let q = c.args.request.now in
    let reply = take c.args.size c.args.out.now in
    if_none c.repeat_less.result _ _
    (λ none. (
      λ other h.
          let fewer = subst (λ (how : Way). Replaces agent how q reply other) c.in-Fewer.is h in
          none.0 fewer.1 (subst (λ (n : ℕ). pos n <ℤ q.b) (sym c.max.ensures) fewer.2) other
          (subst (λ (n : ℕ). IsReply agent (canon (with_repetitions n q)) other) (sym c.max.ensures) fewer.3),
      none.1,
    )) c.repeat_less.ensures.none

use Rattle.std.proofs.Common.{◌≡◌, ◌∙◌, List, [], ◌∷◌, ◌++◌, ap, sym, subst, rules}
use Rattle.std.specs.Prelude.{map}
use Rattle.snmp_agent.specs.Event.{sent}
use Rattle.snmp_walk.specs.Network.{Happening, at_agents, of_walk}
use Rattle.snmp_tools_tests.specs.{Recorded.IsRecordOf, Recorded.Recording, Recorded.happening_of}
use Rattle.snmp_tools_tests.proofs.Records.{of_reply, sent_by_agent}
use Rattle.snmp_tools_tests.proofs.both_ends.recorded.RecordedNetworkEndpoint.reply.Goals as goal

pub invariant_of-self-2 : goal.invariant_of-self-2
invariant_of-self-2 c =
    let run = map happening_of c.self.inside.entries.items in
    let pushed : map happening_of c.push_entry.new.entries.items ≡ run ++ at_agents (sent tt c.args.datagram.now) ∷ [] = search rules in
    subst (λ (r : List (Happening (Unit {0}))). IsRecordOf c.reply.new.self r) (sym pushed)
    (of_reply c.self.inside.network c.reply.new.self run c.self.invariant c.reply.result c.args.peer c.args.datagram.now c.reply.ensures.happens)

pub returns-clause-happens : goal.returns-clause-happens
returns-clause-happens c =
    let run = map happening_of c.self.inside.entries.items in
    let pushed : map happening_of c.push_entry.new.entries.items ≡ run ++ at_agents (sent tt c.args.datagram.now) ∷ [] = search rules in
    ap of_walk pushed ∙ sent_by_agent run c.args.datagram.now ∙ ap (λ (r : Recording). of_walk r.run) c.self.view_is

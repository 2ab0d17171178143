use Rattle.std.proofs.Common.{◌≤◌, ◌∙◌, List, ap, length, sym, subst, take, arith, rules}
use Rattle.std.specs.Prelude.{map}
use Rattle.snmp_agent.specs.Event.{came}
use Rattle.snmp_walk.specs.{MemoryNetwork.Carries, Network.Happening, Network.at_agents, Network.of_walk}
use Rattle.snmp_tools_tests.specs.{Recorded.IsRecordOf, Recorded.Recording, Recorded.happening_of}
use Rattle.snmp_tools_tests.proofs.Records.{arrived_at_agent, request_arrived}
use Rattle.snmp_tools_tests.proofs.both_ends.recorded.RecordedNetworkEndpoint.receive.Goals as goal

pub invariant_of-self-in-Ok-push_entry : goal.invariant_of-self-in-Ok-push_entry
invariant_of-self-in-Ok-push_entry c =
    let old = c.self.inside.network in
    let new = c.receive.new.self in
    let run = map happening_of c.self.inside.entries.items in
    let d = take c.in-Some.size c.receive.new.buffer in
    let long : 65507 ≤ length c.args.buffer.now = search (rules, arith) in
    let arrived : Carries old (at_agents (came c.in-Some.peer d)) new = rw c.in-Some.is at (c.in-Ok.ensures.happens long) in
    subst (λ (r : List (Happening (Unit {0}))). IsRecordOf new r) (sym c.in-Ok-push_entry.ensures.pushed)
    (request_arrived old new run c.self.invariant c.in-Some.peer d arrived)

pub returns-in-Ok-push_entry-clause-happens : goal.returns-in-Ok-push_entry-clause-happens
returns-in-Ok-push_entry-clause-happens c = λ long.
    ap of_walk c.in-Ok-push_entry.ensures.pushed
    ∙ arrived_at_agent (map happening_of c.self.inside.entries.items) (take c.in-Some.size c.receive.new.buffer)
    ∙ ap (λ (r : Recording). of_walk r.run) c.self.view_is

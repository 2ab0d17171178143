use Rattle.std.proofs.Common.{◌≡◌, List, [], ◌∷◌, ◌++◌, sym, subst, rules}
use Rattle.std.specs.Prelude.{map}
use Rattle.snmp_agent.specs.Event.{sent}
use Rattle.snmp_walk.specs.Network.{Happening, at_walk}
use Rattle.snmp_tools_tests.specs.{Recorded.IsRecordOf, Recorded.happening_of}
use Rattle.snmp_tools_tests.proofs.Records.{of_send}
use Rattle.snmp_tools_tests.proofs.both_ends.recorded.RecordedNetwork.send.Goals as goal

pub invariant_of-self-2 : goal.invariant_of-self-2
invariant_of-self-2 c =
    let run = map happening_of c.self.inside.entries.items in
    let pushed : map happening_of c.push_entry.new.entries.items ≡ run ++ at_walk (sent tt c.args.datagram.now) ∷ [] = search rules in
    subst (λ (r : List (Happening (Unit {0}))). IsRecordOf c.send.new.self r) (sym pushed)
    (of_send c.self.inside.network c.send.new.self run c.self.invariant c.send.result c.args.datagram.now c.send.ensures.carries)

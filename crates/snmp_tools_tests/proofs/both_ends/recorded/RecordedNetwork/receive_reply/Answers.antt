use Rattle.std.proofs.Common.{refl, take}
use Rattle.std.specs.Prelude.{map}
use Rattle.snmp_agent.specs.Event.{came}
use Rattle.snmp_walk.specs.{MemoryNetwork.Carries, Network.at_walk}
use Rattle.snmp_tools_tests.specs.{Recorded.happening_of}
use Rattle.snmp_tools_tests.proofs.Records.{of_push, reply_arrived, unrecorded_got}
use Rattle.snmp_tools_tests.proofs.both_ends.recorded.RecordedNetwork.receive_reply.Goals as goal

pub invariant_of-self-2 : goal.invariant_of-self-2
invariant_of-self-2 c =
    let old = c.self.inside.network in
    let new = c.receive_reply.new.self in
    let run = map happening_of c.self.inside.entries.items in
    let d = take c.in-Some.size c.receive_reply.new.buffer in
    let arrived : Carries old (at_walk (came tt d)) new = rw c.in-Some.is at c.in_ok-size.ensures.carries in
    of_push old new run c.self.invariant c.push_entry.result (at_walk (came tt d)) c.self.inside.entries.items c.push_entry.new.entries.items refl
    c.push_entry.ensures.pushed c.push_entry.ensures.unchanged_on_error
    (unrecorded_got old new run c.self.invariant c.receive_reply.result c.receive_reply.new.buffer c.receive_reply.ensures.carries)
    (reply_arrived old new run c.self.invariant tt d arrived)

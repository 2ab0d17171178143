use Rattle.std.proofs.Common.{◌∙◌, ap}
use Rattle.std.specs.Prelude.{Err, Ok}
use Rattle.snmp_walk.specs.{Network.event_of_got, Network.of_walk}
use Rattle.snmp_tools_tests.specs.{Recorded.Recording, Walk.HappensAtWalk}
use Rattle.snmp_tools_tests.proofs.Records.{agent_turns, got_log, if_none, if_some}
use Rattle.snmp_tools_tests.proofs.both_ends.walk.RecordedLinkLink.receive.Goals as goal

pub returns-in-Ok-clause-delivers : goal.returns-in-Ok-clause-delivers
returns-in-Ok-clause-delivers c =
    let link = c.args.self.now in
    let t = c.serve_at.ensures.turns in
    if_some c.in-Ok.got c.receive_reply.new.buffer (λ e. HappensAtWalk link e (record link { network = c.receive_reply.new.self }))
    (got_log link.network.run c.serve_at.new.endpoint.run c.receive_reply.new.self.run (event_of_got (Ok c.in-Ok.got) c.receive_reply.new.buffer)
    (agent_turns t.0 link.network c.serve_at.new.endpoint t.2) c.in-Ok.ensures.received)

pub returns-in-Ok-clause-silent : goal.returns-in-Ok-clause-silent
returns-in-Ok-clause-silent c =
    let link = c.args.self.now in
    let t = c.serve_at.ensures.turns in
    if_none c.in-Ok.got c.receive_reply.new.buffer (λ e. HappensAtWalk link e (record link { network = c.receive_reply.new.self }))
    (got_log link.network.run c.serve_at.new.endpoint.run c.receive_reply.new.self.run (event_of_got (Ok c.in-Ok.got) c.receive_reply.new.buffer)
    (agent_turns t.0 link.network c.serve_at.new.endpoint t.2) c.in-Ok.ensures.received)

pub returns-in-Err-clause-receive_fails : goal.returns-in-Err-clause-receive_fails
returns-in-Err-clause-receive_fails c =
    let link = c.args.self.now in
    let t = c.serve_at.ensures.turns in
    ap (λ (n : Recording). of_walk n.run) c.fault.ensures.network
    ∙ got_log link.network.run c.serve_at.new.endpoint.run c.receive_reply.new.self.run
    (event_of_got (Err c.in-Err.field-0) c.receive_reply.new.buffer) (agent_turns t.0 link.network c.serve_at.new.endpoint t.2)
    c.in-Err.ensures.received

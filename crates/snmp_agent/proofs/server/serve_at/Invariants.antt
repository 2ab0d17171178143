use Rattle.std.proofs.Common.{◌≡◌, ◌+◌, List}
use Rattle.snmp_io.specs.Count.{HasIncreasedBy}
use Rattle.snmp_agent.specs.{Reply.agent_of, Serving.Event, Serving.InTurn, Serving.AreTurns}
use Rattle.snmp_agent.proofs.server.serve_at.Given as goal

-- `events` happened in the turns so far, `served` counts these turns, and the endpoint's fault count increased by those that failed
abbrev pub invariant-turns : goal.invariant-turns
invariant-turns g l = record {
  sum : l.served.replies + l.served.dropped + l.served.idle + l.served.faults ≡ l.counter;
  events : List (Event g.row.E-Peer.Denot);
  turns : AreTurns (agent_of l.table l.config) l.counter l.served events;
  risen : HasIncreasedBy l.served.faults (g.E.Endpoint.fault_count l.fn.endpoint)
      (g.E.Endpoint.fault_count l.endpoint);
  happened : InTurn g.E.Endpoint.happens l.fn.endpoint events l.endpoint;
}

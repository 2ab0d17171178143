use Rattle.std.proofs.Common.{◌≡◌, drop}
use Rattle.snmp_net.specs.Memory.{agent_at}
use Rattle.snmp_net.proofs.memory.agent_at.Given as goal

-- the first agent with this host and port among those that are left is the first among all agents, or neither list has one
abbrev pub invariant-agents : goal.invariant-agents
invariant-agents l = agent_at (drop l.agent-index l.agents) l.host l.port ≡ agent_at l.agents l.host l.port

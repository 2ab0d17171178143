use Rattle.std.proofs.Common.{◌≡◌, ◌+◌, drop}
use Rattle.snmp_walk.specs.MemoryNetwork.{leading_requests}
use Rattle.snmp_walk.proofs.memory_network.MemoryNetworkNetwork.turns.Given as goal

-- each of the deliveries so far is a request
abbrev pub invariant-deliveries : goal.invariant-deliveries
invariant-deliveries l = (l.count ≡ l.delivery-index + 1)
    × (leading_requests l.ahead ≡ l.delivery-index + leading_requests (drop l.delivery-index l.ahead))

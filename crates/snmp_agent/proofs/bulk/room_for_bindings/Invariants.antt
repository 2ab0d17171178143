use Rattle.std.proofs.Common.{◌≢◌, ◌≤◌, ◌-◌}
use Rattle.snmp_wire.specs.Parts.{parts_message}
use Rattle.snmp_agent.specs.private.Answering.{whole_size}
use Rattle.snmp_agent.proofs.bulk.room_for_bindings.Given as goal

-- if `room` isn't 0, then a message with `room` octets of bindings stays within `max_size`
abbrev pub invariant-octets : goal.invariant-octets
invariant-octets l = l.room ≢ 0 → whole_size (parts_message l.parts) l.room ≤ l.max_size

abbrev pub decreases-octets : goal.decreases-octets
decreases-octets l = l.max_size - l.room

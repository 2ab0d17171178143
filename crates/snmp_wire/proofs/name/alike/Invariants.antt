use Rattle.std.proofs.Common.{◌-◌, length}
use Rattle.snmp_wire.specs.Name.{IsAlike}
use Rattle.snmp_wire.proofs.name.alike.Given as goal

abbrev pub invariant-eights : goal.invariant-eights
invariant-eights l = IsAlike l.octets l.others l.count

abbrev pub decreases-eights : goal.decreases-eights
decreases-eights l = length l.octets - l.count

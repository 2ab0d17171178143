use Rattle.std.proofs.Common.{◌-◌, length}
use Rattle.snmp_wire.specs.Name.{IsAlike}
use Rattle.snmp_wire.proofs.name.few_alike.Given as goal

abbrev pub invariant-octets : goal.invariant-octets
invariant-octets l = IsAlike l.octets l.others l.count

abbrev pub decreases-octets : goal.decreases-octets
decreases-octets l = length l.octets - l.count

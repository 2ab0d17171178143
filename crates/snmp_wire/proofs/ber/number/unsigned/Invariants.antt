use Rattle.std.proofs.Common.{◌≡◌, ◌^◌, ◌<◌, take}
use Rattle.snmp_wire.specs.ber.Number as number
use Rattle.snmp_wire.proofs.ber.number.unsigned.Given as goal

abbrev pub invariant-octets : goal.invariant-octets
invariant-octets l = record { value : l.sum ≡ number.unsigned (take l.octet-index l.octets); bound : l.sum < 256 ^ l.octet-index }

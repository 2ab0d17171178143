use Rattle.std.proofs.Common.{◌≡◌, ◌+◌, ◌≤◌, length}
use Rattle.snmp_wire.specs.ber.Decode.{checked, numbers_of}
use Rattle.snmp_wire.proofs.ReadIdentifiers.{counted}
use Rattle.snmp_wire.proofs.ber.identifier.check_numbers.Given as goal

abbrev pub invariant-numbers : goal.invariant-numbers
invariant-numbers l = (counted l.count l.rest ≡ checked (numbers_of 126 l.octets)) × (l.count + length l.rest ≤ length l.octets)

abbrev pub decreases-numbers : goal.decreases-numbers
decreases-numbers l = length l.rest

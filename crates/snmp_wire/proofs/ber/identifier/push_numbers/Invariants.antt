use Rattle.std.proofs.Common.{◌≡◌, ◌-◌, ◌++◌, length, Ok}
use Rattle.snmp_wire.specs.ber.Decode.{numbers_of, numbers_in}
use Rattle.snmp_wire.proofs.ReadIdentifiers.{with_prefix}
use Rattle.snmp_wire.proofs.ber.identifier.push_numbers.Given as goal

abbrev pub invariant-numbers : goal.invariant-numbers
invariant-numbers l = record { whole : with_prefix l.oid (numbers_of (128 - length l.oid) l.rest) ≡ Ok (l.fn.oid ++ numbers_in l.octets) }

abbrev pub decreases-numbers : goal.decreases-numbers
decreases-numbers l = 128 - length l.oid

use Rattle.std.proofs.Common.{◌≡◌, ◌≤◌, drop}
use Rattle.snmp_wire.specs.ber.Decode.{largest_subidentifier, subidentifier_from}
use Rattle.snmp_wire.proofs.ber.identifier.digits_at.Given as goal

abbrev pub invariant-octets : goal.invariant-octets
invariant-octets l = record { same : subidentifier_from l.number (drop l.i l.octets) ≡ subidentifier_from 0 l.octets; small : l.number ≤ largest_subidentifier }

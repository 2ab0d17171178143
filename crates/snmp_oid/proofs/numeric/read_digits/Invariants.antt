use Rattle.std.proofs.Common.{length, ◌-◌}
use Rattle.snmp_oid.proofs.Numeral.{IsLeadingNumber}
use Rattle.snmp_oid.proofs.numeric.read_digits.Given as goal

abbrev pub invariant-digits : goal.invariant-digits
invariant-digits l = IsLeadingNumber l.text l.count l.number

abbrev pub decreases-digits : goal.decreases-digits
decreases-digits l = length l.text - l.count

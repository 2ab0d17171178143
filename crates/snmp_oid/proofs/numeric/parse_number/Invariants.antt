use Rattle.std.proofs.Common.{drop}
use Rattle.snmp_oid.proofs.Numeral.{IsReadTo}
use Rattle.snmp_oid.proofs.numeric.parse_number.Given as goal

abbrev pub invariant-digits : goal.invariant-digits
invariant-digits l = IsReadTo l.part (drop l.octet-index l.part) l.number

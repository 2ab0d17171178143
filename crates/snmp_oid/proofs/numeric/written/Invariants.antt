use Rattle.snmp_oid.proofs.Written.{IsWritten}
use Rattle.snmp_oid.proofs.numeric.written.Given as goal

abbrev pub invariant-numbers : goal.invariant-numbers
invariant-numbers l = IsWritten l.numbers l.number-index l.text.items

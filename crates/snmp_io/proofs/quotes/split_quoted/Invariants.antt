use Rattle.snmp_io.proofs.QuotedTexts.{IsSoFar}
use Rattle.snmp_io.proofs.quotes.split_quoted.Given as goal

abbrev pub invariant-octets : goal.invariant-octets
invariant-octets l = IsSoFar l.stop l.text l.at l.quote

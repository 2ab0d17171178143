use Rattle.std.proofs.Common.{◌<◌, ◌^◌, drop}
use Rattle.snmp_agent.proofs.Decimals.{IsReadTo}
use Rattle.snmp_agent.proofs.table.value.decimal.Given as goal

abbrev pub invariant-digits : goal.invariant-digits
invariant-digits l = IsReadTo l.text (drop l.octet-index l.text) l.number × (l.number < 2 ^ 64)

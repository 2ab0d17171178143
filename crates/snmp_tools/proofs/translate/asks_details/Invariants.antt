use Rattle.std.proofs.Common.{◌≡◌, drop}
use Rattle.snmp_tools.specs.translate.Style.{first_other_of_t}
use Rattle.snmp_tools.proofs.translate.asks_details.Given as goal

abbrev pub invariant-octets : goal.invariant-octets
invariant-octets l = first_other_of_t l.text ≡ first_other_of_t (drop l.octet-index l.text)

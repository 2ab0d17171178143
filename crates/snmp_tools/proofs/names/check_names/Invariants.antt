use Rattle.std.proofs.Common.{All, take}
use Rattle.snmp_oid.specs.Identifier.{IsWire, wire}
use Rattle.snmp_tools.proofs.names.check_names.Given as goal

abbrev pub invariant-names : goal.invariant-names
invariant-names l = All (λ o. IsWire (wire o)) (take l.index l.names)

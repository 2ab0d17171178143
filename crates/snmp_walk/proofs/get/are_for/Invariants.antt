use Rattle.std.proofs.Common.{◌≡◌, drop}
use Rattle.snmp_walk.specs.Get.{are_for as are_these}
use Rattle.snmp_walk.proofs.get.are_for.Given as goal

abbrev pub invariant-names : goal.invariant-names
invariant-names l = are_these l.names l.fn.bindings ≡ are_these (drop l.name-index l.names) l.bindings

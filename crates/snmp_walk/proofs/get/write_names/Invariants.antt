use Rattle.std.proofs.Common.{◌≡◌, ◌≤◌, take, length}
use Rattle.std.specs.List.{AllByRecursion}
use Rattle.snmp_wire.specs.{Range.IsBindingInRange, Canon.canon_bindings}
use Rattle.snmp_walk.specs.Get.{asked_names}
use Rattle.snmp_walk.proofs.get.write_names.Given as goal

abbrev pub invariant-names : goal.invariant-names
invariant-names l = (l.total ≤ 65507) × (l.total ≡ length (canon_bindings (asked_names (take l.name-index l.names))))
    × (take l.total l.out ≡ canon_bindings (asked_names (take l.name-index l.names)))
    × AllByRecursion IsBindingInRange (asked_names (take l.name-index l.names))

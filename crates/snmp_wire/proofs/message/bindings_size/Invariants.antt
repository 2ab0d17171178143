use Rattle.std.proofs.Common.{◌≡◌, ◌+◌, length, drop, take}
use Rattle.std.specs.List.{flat_map, AllByRecursion}
use Rattle.snmp_wire.specs.{Message.var_binds, Range.IsBindingInRange}
use Rattle.snmp_wire.proofs.WrittenBindings.{binding_octets}
use Rattle.snmp_wire.proofs.message.bindings_size.Given as goal

-- `total` and the lengths of the remaining bindings add up to the length of all, and the bindings
-- counted are in range
abbrev pub invariant-bindings : goal.invariant-bindings
invariant-bindings l = (l.total + length (flat_map binding_octets (drop l.binding-index l.bindings)) ≡ length (flat_map binding_octets l.bindings))
    × AllByRecursion IsBindingInRange (var_binds (take l.binding-index l.bindings))

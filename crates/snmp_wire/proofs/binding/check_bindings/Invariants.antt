use Rattle.std.proofs.Common.{◌≡◌, length}
use Rattle.snmp_wire.specs.{ber.Decode.checked, Decode.bindings_of}
use Rattle.snmp_wire.proofs.binding.check_bindings.Given as goal

abbrev pub invariant-bindings : goal.invariant-bindings
invariant-bindings l = checked (bindings_of l.rest) ≡ checked (bindings_of l.octets)

abbrev pub decreases-bindings : goal.decreases-bindings
decreases-bindings l = length l.rest

use Rattle.std.proofs.Common.{drop}
use Rattle.std.specs.List.{flat_map}
use Rattle.snmp_wire.specs.ber.Writing.{Writes}
use Rattle.snmp_wire.proofs.WrittenBindings.{binding_octets}
use Rattle.snmp_wire.proofs.message.put_bindings.Given as goal

-- the bindings from index `i` on are written
abbrev pub invariant-bindings : goal.invariant-bindings
invariant-bindings l = Writes l.fn.out l.start l.fn.end (flat_map binding_octets (drop l.i l.bindings)) l.out

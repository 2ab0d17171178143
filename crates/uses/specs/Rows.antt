-- Collected rows, as bindings.
use Rattle.snmp_wire.specs.{Message.VarBind, ber.Owned.owned}
use Rattle.uses.specs.declared.collect.Row.{Row}

-- the binding with the name and the value of `row`
abbrev pub binding_of : Row → VarBind
binding_of row = record { name = row.name; value = owned row.value }

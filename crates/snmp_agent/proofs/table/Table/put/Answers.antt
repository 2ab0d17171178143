use Rattle.std.proofs.Common.{map}
use Rattle.snmp_wire.specs.Message.{VarBind, datum}
use Rattle.snmp_agent.specs.table.Table.{IsInstanceName, IsInstanceValue}
use Rattle.snmp_agent.proofs.{ChangedEntries.put_either, ValidRows.name_in_range, ValidRows.value_in_range}
use Rattle.snmp_agent.proofs.table.Table.put.Goals as goal

pub new-requires-clause-name : goal.new-requires-clause-name
new-requires-clause-name c = name_in_range c.args.name.now (c.is_instance_name.ensures.0 c.if-not-is_instance_name.false)

pub new-requires-clause-value : goal.new-requires-clause-value
new-requires-clause-value c = value_in_range (datum c.args.value) (c.is_instance_value.ensures.0 c.if-not-is_instance_value.false)

pub invariant_of-self : goal.invariant_of-self
invariant_of-self c =
    let row : VarBind = c.in-Ok.row in
    let name : IsInstanceName row.name = rw c.in-Ok.ensures (c.is_instance_name.ensures.0 c.if-not-is_instance_name.false) in
    let value : IsInstanceValue row.value = rw c.in-Ok.ensures (c.is_instance_value.ensures.0 c.if-not-is_instance_value.false) in
    put_either c.put.result c.self.inside.rows c.put.new.self (map (λ o. o.items) c.self.inside.objects.keys) row.name row.value c.put.ensures.put
    c.put.ensures.unchanged_on_error name value c.self.invariant

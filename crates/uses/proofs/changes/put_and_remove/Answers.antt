use Rattle.std.proofs.Common.{◌∙◌, ap, subst, sym}
use Rattle.snmp_wire.specs.Message.{VarBind, datum}
use Rattle.snmp_agent.specs.table.Table.{IsGet, MibView, without_row}
use Rattle.uses.proofs.changes.put_and_remove.Goals as goal

pub returns-clause-table : goal.returns-clause-table
returns-clause-table c = c.remove.ensures.removed
    ∙ (ap (λ (view : MibView). without_row view c.args.name.now) c.in-Ok.ensures.put
    ∙ c.changed_rows.ensures.put_and_removed c.args.table.now c.args.name.now (datum c.args.value))

pub returns-clause-there : goal.returns-clause-there
returns-clause-there c =
    let there : VarBind = record { name = c.args.name.now; value = datum c.args.value } in
    c.ask-one.ensures there (subst (λ (view : MibView). IsGet view c.args.name.now there) (sym c.in-Ok.ensures.put)
    (c.changed_rows.ensures.put c.args.table.now c.args.name.now (datum c.args.value)))

pub returns-clause-gone : goal.returns-clause-gone
returns-clause-gone c binding is_get =
    c.ask-two.ensures binding (subst (λ (view : MibView). IsGet view c.args.name.now binding) (sym (returns-clause-table c)) is_get)

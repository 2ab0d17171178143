use Rattle.std.proofs.{Common.arith, lemmas.Grind.common_steps}
use Rattle.snmp_agent.specs.{private.table.Row.tag_text, table.Form.IsRowForm}
use Rattle.snmp_agent.proofs.Statements.{object_states, row_faults, row_states}
use Rattle.snmp_agent.proofs.table.line.read_line.Goals as goal

pub returns-in-Some-Object-clause-states : goal.returns-in-Some-Object-clause-states
returns-in-Some-Object-clause-states g c = grind (arith, common_steps, object_states)

pub returns-in-Some-Row-clause-states : goal.returns-in-Some-Row-clause-states
returns-in-Some-Row-clause-states g c =
    let format = g.F.LineFormat.format c.args.format.now in
    let form : IsRowForm format c.args.line.now c.in-Some-Row.name.now
    (tag_text c.in-Some-Row.tag) c.in-Some-Row.text.now = rw c.in-Some-Row.field-0-is at c.in-Some-Row.ensures in
    row_states format c.args.line.now c.in-Some-Row.name.now (tag_text c.in-Some-Row.tag) c.in-Some-Row.text.now form c.instance.result c.instance.ensures

pub returns-in-Some-Row-clause-fault : goal.returns-in-Some-Row-clause-fault
returns-in-Some-Row-clause-fault g c =
    let format = g.F.LineFormat.format c.args.format.now in
    let form : IsRowForm format c.args.line.now c.in-Some-Row.name.now
    (tag_text c.in-Some-Row.tag) c.in-Some-Row.text.now = rw c.in-Some-Row.field-0-is at c.in-Some-Row.ensures in
    row_faults format c.args.line.now c.in-Some-Row.name.now (tag_text c.in-Some-Row.tag) c.in-Some-Row.text.now form c.instance.result c.instance.ensures

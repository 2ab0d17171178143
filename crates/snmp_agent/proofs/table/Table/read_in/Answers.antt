use Rattle.std.proofs.{Common.arith, lemmas.Grind.common_steps}
use Rattle.std.specs.{FinMap.entries, Str.Lines.lines}
use Rattle.snmp_agent.specs.{private.table.TableBuilder.HoldsTable, private.table.TableBuilder.draft_objects, table.Entries.view_of, table.Table.IsMibView}
use Rattle.snmp_agent.proofs.{ValidRows.is_view, ValidRows.table_of, ValidRows.of_entries, table.Table.read_in.Given.Over}
use Rattle.snmp_agent.proofs.table.Table.read_in.Goals as goal
use Rattle.snmp_agent.proofs.table.Table.read_in.Goals.{In-Ok, in-Err-Again, in_default, in_default-2}

held : (g : Over) (c : In-Ok g) → HoldsTable (g.F.LineFormat.format c.args.format.now)
    (lines c.args.text.now) (entries c.in-Ok.draft.rows) (draft_objects c.in-Ok.draft)
held g c = grind (arith, common_steps, in-Err-Again, in_default, in_default-2)

good : (g : Over) (c : In-Ok g) → IsMibView (view_of c.in-Ok.draft.rows (draft_objects c.in-Ok.draft))
good g c =
    rw (← of_entries c.in-Ok.draft.rows) (is_view (g.F.LineFormat.format c.args.format.now) (lines c.args.text.now)
    (entries c.in-Ok.draft.rows) (draft_objects c.in-Ok.draft) (held g c))

pub invariant_of-result : goal.invariant_of-result
invariant_of-result g c = good g (goal.at.invariant_of-result g c).In-Ok

pub returns-in-Ok-clause-table : goal.returns-in-Ok-clause-table
returns-in-Ok-clause-table g c =
    let draft = c.in-Ok.draft in
    rw (← of_entries draft.rows) (table_of (g.F.LineFormat.format c.args.format.now) (lines c.args.text.now) (entries draft.rows)
    (draft_objects draft) (held g (goal.at.returns-in-Ok-clause-table g c).In-Ok))

pub returns-in-Ok-clause-view : goal.returns-in-Ok-clause-view
returns-in-Ok-clause-view g c = good g (goal.at.returns-in-Ok-clause-view g c).In-Ok

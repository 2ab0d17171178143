use Rattle.std.proofs.Common.{refl, ◌∙◌, ap, is_some, sym}
use Rattle.snmp_agent.specs.table.Pages.{HasNameAt, BelongsAt, entries_of}
use Rattle.snmp_agent.proofs.ChangedEntries.{row_replaced, row_inserted, name_found, no_name}
use Rattle.snmp_agent.proofs.table.page.Page.put.Goals as goal
use Rattle.snmp_agent.proofs.table.page.Page.put.Goals.{In-Ok, In-Err}

found : (c : In-Ok) → HasNameAt c.args.row.name c.args.self.now.rows.items c.in-Ok.index
found c = rw (c.name.ensures, c.as_slice.ensures.value) at c.in-Ok.ensures.found

belongs : (c : In-Err) → BelongsAt c.args.row.name c.args.self.now.rows.items c.in-Err.index
belongs c = rw (c.name.ensures, c.as_slice.ensures.value) at c.in-Err.ensures.none

pub returns-in-Ok-clause-put : goal.returns-in-Ok-clause-put
returns-in-Ok-clause-put c =
    row_replaced c.args.row.name c.args.self.now.rows.items c.in-Ok.index c.args.row (found (goal.at.returns-in-Ok-clause-put c).In-Ok) refl

pub returns-in-Ok-clause-replaced : goal.returns-in-Ok-clause-replaced
returns-in-Ok-clause-replaced c =
    ap is_some (sym (name_found c.args.row.name c.args.self.now.rows.items c.in-Ok.index (found (goal.at.returns-in-Ok-clause-replaced c).In-Ok)))

pub returns-in_ok-insert_row-in-Err-clause-put : goal.returns-in_ok-insert_row-in-Err-clause-put
returns-in_ok-insert_row-in-Err-clause-put c =
    ap entries_of c.in_ok-insert_row-in-Err.ensures.inserted
    ∙ row_inserted c.args.row.name c.args.self.now.rows.items c.in-Err.index c.args.row
    (belongs (goal.at.returns-in_ok-insert_row-in-Err-clause-put c).In-Err) refl

pub returns-in_ok-insert_row-in-Err-clause-replaced : goal.returns-in_ok-insert_row-in-Err-clause-replaced
returns-in_ok-insert_row-in-Err-clause-replaced c =
    let there = belongs (goal.at.returns-in_ok-insert_row-in-Err-clause-replaced c).In-Err in
    ap is_some (sym (no_name c.args.row.name c.args.self.now.rows.items c.in-Err.index there))

use Rattle.std.proofs.Common.{refl, subst}
use Rattle.snmp_agent.specs.{table.Pages.AreAllAfter, table.Table.MibView}
use Rattle.snmp_agent.proofs.Cursors.{cursor_past}
use Rattle.snmp_agent.proofs.cursor.Cursor.of_walk.Goals as goal

pub returns : goal.returns
returns c = cursor_past c.args.table.now 0 c.args.name c.after_last-rows.result _ _
    (subst (λ (v : MibView). AreAllAfter v c.args.name c.after_last-rows.result) c.table.view_is c.after_last-rows.ensures) refl refl

use Rattle.std.proofs.Common.{sym, ap, ◌∙◌}
use Rattle.std.specs.Option.{option_map_or}
use Rattle.snmp_agent.proofs.Cursors.{cursor_past}
use Rattle.snmp_agent.proofs.cursor.Cursor.after_rounds.Goals as goal

pub returns-in-Some : goal.returns-in-Some
returns-in-Some c =
    cursor_past c.args.table.now c.args.rounds c.args.name c.after-rows.result _ _ c.after-rows.ensures
    (sym (ap (λ row. option_map_or (λ row. row.now.name) row c.args.name) c.in-Some.is) ∙ c.skip_rows.ensures.last c.args.name) c.skip_rows.ensures.left

pub returns-in-None : goal.returns-in-None
returns-in-None c =
    cursor_past c.args.table.now c.args.rounds c.args.name c.after-rows.result _ _ c.after-rows.ensures
    (sym (ap (λ row. option_map_or (λ row. row.now.name) row c.args.name) c.in-None.is) ∙ c.skip_rows.ensures.last c.args.name) c.skip_rows.ensures.left

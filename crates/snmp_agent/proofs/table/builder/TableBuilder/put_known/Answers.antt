use Rattle.std.proofs.{Common.arith, Common.refl, Common.rules, lemmas.Grind.common_steps}
use Rattle.snmp_agent.specs.private.table.TableBuilder.{draft_entries}
use Rattle.snmp_agent.proofs.GatheredRows.{had_one, placed_moves}
use Rattle.snmp_agent.proofs.table.builder.TableBuilder.put_known.Goals as goal

pub returns-in-Ok-true-clause-halt : goal.returns-in-Ok-true-clause-halt
returns-in-Ok-true-clause-halt c =
    let new = c.settle.new.self in
    let had = had_one (draft_entries c.args.self.now) new.rows new.late.items c.args.row.name
    c.in-Ok-true.field-0 (c.settle.ensures.moved c.if-not-settle.false)
    (c.settle.ensures.none c.if-not-settle.false) c.in-Ok-true.ensures.replaced (search rules) in
    (refl, had.0, had.1, had.2)

pub returns-in-Ok-false-clause-rows : goal.returns-in-Ok-false-clause-rows
returns-in-Ok-false-clause-rows c = grind (arith, common_steps, placed_moves)

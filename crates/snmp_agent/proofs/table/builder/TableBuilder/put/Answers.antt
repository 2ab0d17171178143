use Rattle.std.proofs.{Common.refl, lemmas.List.Sorted.IsPermutation-refl}
use Rattle.snmp_agent.specs.private.table.TableBuilder.{draft_entries}
use Rattle.snmp_agent.proofs.GatheredRows.{had_one, placed_moves}
use Rattle.snmp_agent.proofs.table.builder.TableBuilder.put.Goals as goal

pub returns-in-true-clause-halt : goal.returns-in-true-clause-halt
returns-in-true-clause-halt c =
    let old = c.args.self.now in
    let had = had_one (draft_entries old) old.rows old.late.items c.args.row.name c.in-Ok.is_there
    (IsPermutation-refl (draft_entries old)) (old.at_once c.if-self.false) c.in-Ok.ensures.replaced
    c.in-true.is in (refl, had.0, had.1, had.2)

pub returns-in-false-clause-rows : goal.returns-in-false-clause-rows
returns-in-false-clause-rows c =
    let old = c.args.self.now in
    placed_moves old.rows old.rows c.put.new.self old.late.items old.late.items c.args.row
    c.in-Ok.is_there (IsPermutation-refl (draft_entries old)) (old.at_once c.if-self.false)
    c.in-Ok.ensures.put c.in-Ok.ensures.replaced c.in-false.is

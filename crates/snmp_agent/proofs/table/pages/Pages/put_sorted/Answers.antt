use Rattle.std.specs.FinMap.{entries}
use Rattle.std.proofs.lemmas.Result.{IfOk-weaker}
use Rattle.snmp_agent.proofs.GatheredRows.{sorted_moves}
use Rattle.snmp_agent.proofs.table.pages.Pages.put_sorted.Goals as goal

pub returns-then-len-most_rows : goal.returns-then-len-most_rows
returns-then-len-most_rows c =
    IfOk-weaker c.put_all.result _ _
    (λ apart moved is. sorted_moves c.args.self.now (entries c.put_all.new.self) c.args.rows.now.items
    c.sort_decreasing.new.rows.items c.sort_decreasing.ensures (moved is)) c.put_all.ensures

pub returns-else-len-most_rows : goal.returns-else-len-most_rows
returns-else-len-most_rows c =
    IfOk-weaker c.merge.result _ _
    (λ apart moved is. sorted_moves c.args.self.now (entries c.merge.new.self) c.args.rows.now.items
    c.sort_decreasing.new.rows.items c.sort_decreasing.ensures (moved is)) c.merge.ensures

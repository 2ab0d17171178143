use Rattle.std.proofs.{lemmas.Grind.common_steps, Common.arith}
use Rattle.snmp_agent.proofs.NextEntries.{drop_rows, take_rows}
use Rattle.snmp_agent.proofs.table.pages.Successors.skip_rows.Goals as goal

-- a page with fewer rows than are still to be skipped is skipped as a whole, and its last row is
-- the last one skipped
pub pages-preserved-in-Some : goal.pages-preserved-in-Some
pages-preserved-in-Some c = grind (arith, common_steps, drop_rows, take_rows)

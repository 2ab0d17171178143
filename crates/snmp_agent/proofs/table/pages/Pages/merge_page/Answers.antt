use Rattle.std.proofs.{lemmas.Grind.common_steps, Common.arith}
use Rattle.snmp_agent.proofs.GatheredRows.{page_row_moves}
use Rattle.snmp_agent.proofs.table.pages.Pages.merge_page.Goals as goal

-- the rows of `others` that come before the next row of the page are inserted, and then that row: no row is lost, and the page has one row fewer left
pub loop-row-preserved : goal.loop-row-preserved
loop-row-preserved c = grind (arith, common_steps, page_row_moves)

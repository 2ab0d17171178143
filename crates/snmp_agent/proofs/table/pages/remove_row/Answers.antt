use Rattle.std.proofs.Common.{arith, ◌≡◌, ◌<◌, ◌≤◌, length, Some, ◌∙◌, ap, sym, subst, rules}
use Rattle.std.proofs.lemmas.Grind.{common_steps}
use Rattle.snmp_agent.specs.{declared.table.page.Page.Page, table.Pages.entries_in}
use Rattle.snmp_agent.proofs.Pages.{page_read, without_row_of, without_page}
use Rattle.snmp_agent.proofs.table.pages.remove_row.Goals as goal

pub returns-then-len-gt1 : goal.returns-then-len-gt1
returns-then-len-gt1 c = grind (arith, common_steps, without_row_of)

pub returns-else-len-gt1 : goal.returns-else-len-gt1
returns-else-len-gt1 c = λ page at.
    let pages = c.args.pages.now.items in
    let here : c.requires.0 ≡ page = let e : Some c.requires.0 ≡ Some page = sym c.requires.1 ∙ at in cc in
    let low : c.args.row < length page.rows.items = subst (λ (p : Page). c.args.row < length p.rows.items) here c.requires.2 in
    let found : c.index.result.now ≡ page = page_read pages c.args.index page c.index.result.now at c.index.ensures in
    let few : length c.index.result.now.rows.items ≤ 1 = search rules in
    let one : length page.rows.items ≤ 1 = subst (λ (p : Page). length p.rows.items ≤ 1) found few in
    ap entries_in c.remove-else-len-gt1.ensures.items ∙ without_page pages c.args.index page c.args.row low one

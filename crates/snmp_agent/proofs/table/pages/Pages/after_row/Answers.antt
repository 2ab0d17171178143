use Rattle.std.proofs.Common.{◌≡◌, ◌<◌, ◌≤◌, length, take, drop, ◌∙◌, ap, sym, arith}
use Rattle.snmp_wire.specs.Message.{VarBind}
use Rattle.snmp_agent.specs.declared.table.page.Page.{Page}
use Rattle.snmp_agent.proofs.{ChangedEntries.same_named, Lists.IsLast, Pages.apart_after}
use Rattle.snmp_agent.proofs.table.pages.Pages.after_row.Goals as goal

pub returns-then-is_eq : goal.returns-then-is_eq
returns-then-is_eq c =
    let pages = c.self.inside.list.items in
    let n = c.in_ok-page_end.page_end in
    let page : Page = c.in_ok-page.page.now in
    let k = c.in_ok-row_end.row_end in
    let row : VarBind = c.in_ok-row.row.now in
    let prefix : c.split_at.result.0.now ≡ take n pages = c.split_at.ensures.front ∙ ap (take n) c.as_slice-pages.ensures.value in
    let after : c.split_at.result.1.now ≡ drop n pages = c.split_at.ensures.back ∙ ap (drop n) c.as_slice-pages.ensures.value in
    let prefix_rows : c.split_at-2.result.0.now ≡ take k page.rows.items = c.split_at-2.ensures.front ∙ ap (take k) c.as_slice-rows.ensures.value in
    let rows : c.split_at-2.result.1.now ≡ drop k page.rows.items = c.split_at-2.ensures.back ∙ ap (drop k) c.as_slice-rows.ensures.value in
    let within : n ≤ length pages = omega (arith, ap length c.as_slice-pages.ensures.value) in
    let some : 0 < length (take n pages) = rw prefix at c.in_ok-page.ensures.item.3.0 in
    let last : IsLast (take n pages) page = sym (rw prefix at c.in_ok-page.ensures.value) in
    let row_some : 0 < length (take k page.rows.items) = rw prefix_rows at c.in_ok-row.ensures.item.3.0 in
    let row_last : IsLast (take k page.rows.items) row = sym (rw prefix_rows at c.in_ok-row.ensures.value) in
    rw (← c.self.view_is, rows, after) (apart_after c.args.name.now pages n page k row c.self.invariant within some last row_some row_last
    (same_named c.args.name.now c.name.ensures c.compare.ensures c.is_eq.ensures c.if-is_eq.true))

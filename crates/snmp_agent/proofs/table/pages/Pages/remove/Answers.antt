use Rattle.std.proofs.Common.{arith, ◌≡◌, ◌≤◌, None, Some, length, ◌∙◌, ap, sym, refl, ltb-false, is_some}
use Rattle.std.proofs.{lemmas.Grind.common_steps, lemmas.Option.slice_get_read}
use Rattle.std.specs.{List.slice_get, FinMap.get}
use Rattle.snmp_agent.specs.{table.Entries.without_name, table.Pages.BelongsAt, table.Pages.HasNameAt, table.Pages.IsPageOf, table.Pages.entries_in}
use Rattle.snmp_agent.proofs.ChangedEntries.{row_removed, name_found, no_name, nothing_removed, sorted_without, map_removed}
use Rattle.snmp_agent.proofs.Pages.{page_rising, get_in_page, get_none, without_in_page}
use Rattle.snmp_agent.proofs.table.pages.Pages.remove.Goals as goal
use Rattle.snmp_agent.proofs.table.pages.Pages.remove.Goals.{After-page_near-index, In_default, In-Some, In-Ok, In-Err, After-remove_row}

here : (c : After-page_near-index) → IsPageOf c.args.name.now c.self.inside.list.items c.page_near-index.result
here c = rw c.as_slice.ensures.value at c.page_near-index.ensures

-- ---- no page

nowhere : (c : In_default) → IsPageOf c.args.name.now c.self.inside.list.items c.page_near-index.result → None ≡ get c.args.self.now c.args.name.now
nowhere c there =
    let past : length c.self.inside.list.items ≤ c.page_near-index.result =
    rw c.as_slice-2.ensures.value at (ltb-false _ _ (sym c.in_default.ensures.lookup.0)) in
    rw (← c.self.view_is) (sym (get_none c.args.name.now c.self.inside.list.items c.page_near-index.result c.self.invariant there past))

pub returns-in_default-clause-removed : goal.returns-in_default-clause-removed
returns-in_default-clause-removed c =
    let before = goal.at.returns-in_default-clause-removed c in
    nothing_removed c.args.self.now c.args.name.now (nowhere before.In_default (here before.After-page_near-index))

pub returns-in_default-clause-found : goal.returns-in_default-clause-found
returns-in_default-clause-found c =
    let before = goal.at.returns-in_default-clause-found c in ap is_some (nowhere before.In_default (here before.After-page_near-index))

-- ---- a page

at : (c : In-Some) → slice_get c.self.inside.list.items c.page_near-index.result ≡ Some c.in-Some.page.now
at c =
    rw c.as_slice-2.ensures.value at (slice_get_read c.as_slice-2.result.now (length c.as_slice-2.result.now) c.page_near-index.result c.in-Some.page.now
    refl c.in-Some.ensures.lookup.3.0 c.in-Some.ensures.lookup.1)

pub find_row-requires : goal.find_row-requires
find_row-requires c =
    rw c.as_slice-3.ensures.value (page_rising c.self.inside.list.items c.page_near-index.result c.in-Some.page.now
    (at (goal.at.find_row-requires c).In-Some) c.self.invariant)

found : (c : In-Ok) → HasNameAt c.args.name.now c.in-Some.page.now.rows.items c.in-Ok.row
found c = rw c.as_slice-3.ensures.value at c.in-Ok.ensures.found

pub remove_row-requires : goal.remove_row-requires
remove_row-requires c =
    let before = goal.at.remove_row-requires c in (c.in-Some.page.now, at before.In-Some, (found before.In-Ok).low)

same : (c : After-remove_row) → entries_in c.remove_row.new.pages.items ≡ without_name c.args.name.now (entries_in c.self.inside.list.items)
same c =
    let page = c.in-Some.page.now in
    let before = goal.at.invariant_of-self c in
    c.remove_row.ensures page (at before.In-Some)
    ∙ without_in_page c.self.inside.list.items c.page_near-index.result c.args.name.now (here before.After-page_near-index) page (at before.In-Some) _
    (row_removed c.args.name.now page.rows.items c.in-Ok.row (found before.In-Ok))

pub invariant_of-self : goal.invariant_of-self
invariant_of-self c = grind (arith, common_steps, sorted_without, same)

pub returns-in-Ok-clause-removed : goal.returns-in-Ok-clause-removed
returns-in-Ok-clause-removed c = grind (arith, common_steps, map_removed, same)

pub returns-in-Ok-clause-found : goal.returns-in-Ok-clause-found
returns-in-Ok-clause-found c =
    let before = goal.at.returns-in-Ok-clause-found c in
    rw (← c.self.view_is) (ap is_some (sym (get_in_page c.self.inside.list.items c.page_near-index.result c.args.name.now
    (here before.After-page_near-index) c.in-Some.page.now (at before.In-Some) c.self.invariant
    ∙ name_found c.args.name.now c.in-Some.page.now.rows.items c.in-Ok.row (found before.In-Ok))))

absent : (c : In-Err) → IsPageOf c.args.name.now c.self.inside.list.items c.page_near-index.result
    → slice_get c.self.inside.list.items c.page_near-index.result ≡ Some c.in-Some.page.now → None ≡ get c.args.self.now c.args.name.now
absent c there found_at =
    let belongs : BelongsAt c.args.name.now c.in-Some.page.now.rows.items c.in-Err.field-0 = rw c.as_slice-3.ensures.value at c.in-Err.ensures.none in
    rw (← c.self.view_is) (sym (get_in_page c.self.inside.list.items c.page_near-index.result c.args.name.now there c.in-Some.page.now found_at
    c.self.invariant ∙ no_name c.args.name.now c.in-Some.page.now.rows.items c.in-Err.field-0 belongs))

pub returns-in-Err-clause-removed : goal.returns-in-Err-clause-removed
returns-in-Err-clause-removed c =
    let before = goal.at.returns-in-Err-clause-removed c in
    nothing_removed c.args.self.now c.args.name.now (absent before.In-Err (here before.After-page_near-index) (at before.In-Some))

pub returns-in-Err-clause-found : goal.returns-in-Err-clause-found
returns-in-Err-clause-found c =
    let before = goal.at.returns-in-Err-clause-found c in ap is_some (absent before.In-Err (here before.After-page_near-index) (at before.In-Some))

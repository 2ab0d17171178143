use Rattle.std.proofs.Common.{arith, ◌≡◌, ◌≤◌, List, Some, Bor, length, ◌∙◌, ap, sym, refl, ltb-false}
use Rattle.std.proofs.{lemmas.Grind.common_steps, lemmas.Option.slice_get_read}
use Rattle.std.specs.{Option.option_map, List.slice_get, Ordering.nat_cmp, Cmp.Lexicographic.slice_cmp, FinMap.find}
use Rattle.snmp_wire.specs.Message.{VarBind}
use Rattle.snmp_agent.specs.table.Pages.{IsPageOf, IsIncreasing, entries_of}
use Rattle.snmp_agent.proofs.Pages.{page_rising, get_in, get_in_page, get_none}
use Rattle.snmp_agent.proofs.table.pages.Pages.find_near.Goals as goal
use Rattle.snmp_agent.proofs.table.pages.Pages.find_near.Goals.{After-page_near-at, In_ok-page}

here : (c : After-page_near-at) → IsPageOf c.args.name.now c.self.inside.list.items c.page_near-at.result
here c = rw c.as_slice-pages.ensures.value at c.page_near-at.ensures

at : (c : In_ok-page) → slice_get c.self.inside.list.items c.page_near-at.result ≡ Some c.in_ok-page.page.now
at c =
    rw c.as_slice-pages.ensures.value at (slice_get_read c.as_slice-pages.result.now (length c.as_slice-pages.result.now) c.page_near-at.result
    c.in_ok-page.page.now refl c.in_ok-page.ensures.lookup.3.0 c.in_ok-page.ensures.lookup.1)

rising : (c : In_ok-page) → IsIncreasing c.in_ok-page.page.now.rows.items
rising c = page_rising c.self.inside.list.items c.page_near-at.result c.in_ok-page.page.now (at c) c.self.invariant

pub returns-in_err-page-clause-value : goal.returns-in_err-page-clause-value
returns-in_err-page-clause-value c =
    let past : length c.self.inside.list.items ≤ c.page_near-at.result =
    rw c.as_slice-pages.ensures.value at (ltb-false _ _ (sym c.in_err-page.ensures.lookup.0)) in
    ap (option_map (λ (row : Bor VarBind). row.now.value)) c.from_residual.ensures
    ∙ rw (← c.self.view_is) (sym (get_none c.args.name.now c.self.inside.list.items c.page_near-at.result c.self.invariant
    (here (goal.at.returns-in_err-page-clause-value c).After-page_near-at) past))

pub index_near-index-requires : goal.index_near-index-requires
index_near-index-requires c = rw c.as_slice-rows.ensures.value (rising (goal.at.index_near-index-requires c).In_ok-page)

pub row_at-requires-clause-rising : goal.row_at-requires-clause-rising
row_at-requires-clause-rising c = rw c.as_slice-rows.ensures.value (rising (goal.at.row_at-requires-clause-rising c).In_ok-page)

pub returns-clause-value : goal.returns-clause-value
returns-clause-value c =
    c.row_at.ensures.value ∙ ap (λ (rows : List VarBind). find (slice_cmp nat_cmp) c.args.name.now (entries_of rows)) c.as_slice-rows.ensures.value
    ∙ rw (← c.self.view_is) (sym (get_in_page c.self.inside.list.items c.page_near-at.result c.args.name.now
    (here (goal.at.returns-clause-value c).After-page_near-at) c.in_ok-page.page.now (at (goal.at.returns-clause-value c).In_ok-page) c.self.invariant))

pub returns-in-Some-clause-value : goal.returns-in-Some-clause-value
returns-in-Some-clause-value c = grind (arith, common_steps, get_in, at)

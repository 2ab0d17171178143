use Rattle.std.proofs.Common.{◌≡◌, ◌≤◌, ◌+◌, ◌++◌, [], Some, length, take, drop, ◌∙◌, ap, sym, refl, suc, ltb-false, add-one}
use Rattle.std.specs.List.{slice_get}
use Rattle.std.proofs.lemmas.Option.{slice_get_read}
use Rattle.snmp_agent.specs.table.Pages.{IsPageOf, entries_in, entries_of}
use Rattle.snmp_agent.proofs.Pages.{apart_in_page, no_pages, page_rising, splits_apart}
use Rattle.snmp_agent.proofs.table.pages.Pages.after_near.Goals as goal
use Rattle.snmp_agent.proofs.table.pages.Pages.after_near.Goals.{After-page_near-at, In-Some-get}

here : (c : After-page_near-at) → IsPageOf c.args.name.now c.self.inside.list.items c.page_near-at.result
here c = rw c.as_slice-pages.ensures.value at c.page_near-at.ensures

at : (c : In-Some-get) → slice_get c.self.inside.list.items c.page_near-at.result ≡ Some c.in-Some-get.page.now
at c =
    rw c.as_slice-pages.ensures.value at (slice_get_read c.as_slice-pages.result.now (length c.as_slice-pages.result.now) c.page_near-at.result
    c.in-Some-get.page.now refl c.in-Some-get.ensures.lookup.3.0 c.in-Some-get.ensures.lookup.1)

pub index_near-index-requires : goal.index_near-index-requires
index_near-index-requires c =
    rw c.as_slice-rows.ensures.value
    (page_rising c.self.inside.list.items c.page_near-at.result c.in-Some-get.page.now (at (goal.at.index_near-index-requires c).In-Some-get) c.self.invariant)

pub returns-in_default-get : goal.returns-in_default-get
returns-in_default-get c =
    let pages = c.self.inside.list.items in
    let o = c.args.name.now in
    let past : length pages ≤ c.page_near-at.result = rw c.as_slice-pages.ensures.value at (ltb-false _ _ (sym c.in_default-get.ensures.lookup.0)) in
    let none = no_pages o pages c.page_near-at.result (here (goal.at.returns-in_default-get c).After-page_near-at) past in
    ([], rw (← c.self.view_is) (splits_apart o pages [] [] c.self.invariant none tt tt))

pub returns : goal.returns
returns c =
    let pages = c.self.inside.list.items in
    let index = c.page_near-at.result in
    let page = c.in-Some-get.page.now in
    let n = c.index_near-index.result in
    let apart = apart_in_page pages index c.args.name.now (here (goal.at.returns c).After-page_near-at) page (at (goal.at.returns c).In-Some-get)
    c.self.invariant n (rw c.as_slice-rows.ensures.value at c.index_near-index.ensures) in
    let rows : c.split_at-2.result.1.now ≡ drop n page.rows.items = c.split_at-2.ensures.back ∙ ap (drop n) c.as_slice-rows.ensures.value in
    let after : c.split_at.result.1.now ≡ drop (suc index) pages =
    c.split_at.ensures.back ∙ ap (drop (index + 1)) c.as_slice-pages.ensures.value ∙ ap (λ k. drop k pages) (add-one index) in
    (entries_in (take index pages) ++ entries_of (take n page.rows.items), rw (← c.self.view_is, rows, after) apart)

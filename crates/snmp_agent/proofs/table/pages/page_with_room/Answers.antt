use Rattle.std.proofs.{Common.◌<◌, Common.List, Common.length, Common.subst, Common.refl, Common.rules, lemmas.Option.slice_get_read}
use Rattle.snmp_agent.specs.{declared.table.page.Page.Page, declared.table.page.TheConstants.PAGE_ROWS, table.Pages.IsPageOf}
use Rattle.snmp_agent.proofs.table.pages.page_with_room.Goals as goal

pub returns-then-len-lt-PAGE_ROWS-clause-index : goal.returns-then-len-lt-PAGE_ROWS-clause-index
returns-then-len-lt-PAGE_ROWS-clause-index c =
    let pages = c.args.pages.now.items in
    let index = c.page_near-index.result in
    let found = c.index.result.now in
    let here : IsPageOf c.args.name.now pages index = subst (λ (ps : List Page). IsPageOf c.args.name.now ps index) c.as_slice.ensures.value
    c.page_near-index.ensures in
    let room : length found.rows.items < PAGE_ROWS = search rules in
    record {
      page_of = here;
      page = found;
      at = slice_get_read pages (length pages) index found refl (here.within c.requires.some) c.index.ensures;
      room = room;
    }

pub divide-requires-clause-rows : goal.divide-requires-clause-rows
divide-requires-clause-rows c =
    let pages = c.args.pages.now.items in
    let index = c.page_near-index.result in
    let found = c.index.result.now in
    let here : IsPageOf c.args.name.now pages index = subst (λ (ps : List Page). IsPageOf c.args.name.now ps index) c.as_slice.ensures.value
    c.page_near-index.ensures in
    let long : 1 < length found.rows.items = search rules in
    (found, slice_get_read pages (length pages) index found refl (here.within c.requires.some) c.index.ensures, long)

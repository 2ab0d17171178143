use Rattle.std.proofs.Common.{◌≡◌, suc, add-one, length, take, drop, ◌∙◌, ap, refl}
use Rattle.std.proofs.lemmas.Option.{slice_get_read}
use Rattle.snmp_agent.proofs.Pages.{apart_between}
use Rattle.snmp_agent.proofs.table.pages.rows_guessed.Goals as goal

pub returns : goal.returns
returns c =
    let pages = c.args.pages.now in
    let page = c.in_ok-page.page.now in
    let index = c.args.guess.page in
    let k = c.args.guess.row in
    let at = slice_get_read pages (length pages) index page refl c.in_ok-page.ensures.lookup.3.0 c.in_ok-page.ensures.lookup.1 in
    let prefix : c.split_at.result.0.now ≡ take k page.rows.items = c.split_at.ensures.front ∙ ap (take k) c.as_slice-rows.ensures.value in
    let rows : c.split_at.result.1.now ≡ drop k page.rows.items = c.split_at.ensures.back ∙ ap (drop k) c.as_slice-rows.ensures.value in
    let after : c.split_at-2.result.1.now ≡ drop (suc index) pages = c.split_at-2.ensures.back ∙ ap (λ n. drop n pages) (add-one index) in
    let splits = rw (prefix, rows) at (c.splits_at.ensures c.if-not-splits_at.false) in
    rw (rows, after) (apart_between c.args.name.now pages index page k c.requires at splits)

use Rattle.std.proofs.{Common.◌≡◌, Common.List, Common.ℕ, Common.Some, Common.length, Common.subst, Common.refl, lemmas.Option.slice_get_read}
use Rattle.std.specs.{List.slice_get, Ordering.nat_cmp, Cmp.Lexicographic.slice_cmp, FinMap.find}
use Rattle.snmp_agent.specs.table.Pages.{entries_in}
use Rattle.snmp_agent.proofs.{ChangedEntries.same_named, Pages.found_in_page}
use Rattle.snmp_agent.proofs.table.pages.row_guessed.Goals as goal

pub returns-clause-name : goal.returns-clause-name
returns-clause-name c = same_named c.args.name.now c.name.ensures c.compare.ensures c.is_eq.ensures c.if-not-is_eq.false

pub returns-clause-value : goal.returns-clause-value
returns-clause-value c =
    let pages = c.args.pages.now in
    let page = c.in_ok-page.page.now in
    let row = c.in_ok-row.row.now in
    let slice = c.as_slice.result.now in
    let k = c.in_ok-before.before in
    let at = slice_get_read pages (length pages) c.args.guess.page page refl c.in_ok-page.ensures.lookup.3.0 c.in_ok-page.ensures.lookup.1 in
    let there : slice_get slice k ≡ Some row = slice_get_read slice (length slice) k row refl c.in_ok-row.ensures.lookup.3.0 c.in_ok-row.ensures.lookup.1 in
    let row_at : slice_get page.rows.items k ≡ Some row = rw c.as_slice.ensures.value at there in
    subst (λ (p : List ℕ). find (slice_cmp nat_cmp) p (entries_in pages) ≡ Some (row.value))
    (same_named c.args.name.now c.name.ensures c.compare.ensures c.is_eq.ensures c.if-not-is_eq.false)
    (found_in_page pages c.args.guess.page page k row c.requires at row_at)

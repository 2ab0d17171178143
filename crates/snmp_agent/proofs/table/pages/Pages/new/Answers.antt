use Rattle.std.proofs.Common.{List, [], ◌∙◌, ap}
use Rattle.std.specs.{Ordering.nat_cmp, Cmp.Lexicographic.slice_cmp, FinMap.entries, FinMap.from_sorted, FinMap.entries-from_sorted}
use Rattle.snmp_agent.specs.{declared.table.page.Page.Page, table.Pages.entries_in}
use Rattle.snmp_agent.proofs.table.pages.Pages.new.Goals as goal

pub returns : goal.returns
returns c =
    ap (λ (pages : List Page). entries (from_sorted {R = slice_cmp nat_cmp} (entries_in pages))) c.new.ensures.items
    ∙ entries-from_sorted (slice_cmp nat_cmp) [] tt

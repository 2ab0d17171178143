use Rattle.std.proofs.Common.{◌≡◌, ◌++◌, length}
use Rattle.std.specs.{FinMap.entries, List.Sorted.IsPermutation, Vec.Iter.into_iter_items, Vec.Iter.into_iter_len}
use Rattle.snmp_agent.specs.table.Pages.{entries_of}
use Rattle.snmp_agent.proofs.table.pages.Pages.merge_page.Given as goal

abbrev pub invariant-loop-row : goal.invariant-loop-row
invariant-loop-row l = IsPermutation (entries l.fn.self
    ++ (entries_of l.fn.others.items ++ entries_of l.fn.page.rows.items))
    (entries l.self ++ (entries_of l.others.items ++ entries_of (into_iter_items l.row-iterator)))
    × (into_iter_len l.row-iterator ≡ length (into_iter_items l.row-iterator))

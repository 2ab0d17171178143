use Rattle.std.proofs.Common.{◌≡◌, ◌++◌, length}
use Rattle.std.specs.{FinMap.entries, List.Sorted.IsPermutation, Vec.Iter.into_iter_items, Vec.Iter.into_iter_len}
use Rattle.snmp_agent.specs.table.Pages.{entries_in, entries_of}
use Rattle.snmp_agent.proofs.table.pages.Pages.merge.Given as goal

abbrev pub invariant-loop-page : goal.invariant-loop-page
invariant-loop-page l = IsPermutation (entries l.fn.self ++ entries_of l.fn.rows.items)
    (entries l.self ++ (entries_of l.rows.items ++ entries_in (into_iter_items l.page-iterator)))
    × (into_iter_len l.page-iterator ≡ length (into_iter_items l.page-iterator))

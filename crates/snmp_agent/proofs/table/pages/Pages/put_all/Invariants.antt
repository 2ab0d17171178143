use Rattle.std.proofs.Common.{◌++◌, length}
use Rattle.std.specs.{FinMap.entries, List.Sorted.IsPermutation}
use Rattle.snmp_agent.specs.table.Pages.{entries_of}
use Rattle.snmp_agent.proofs.table.pages.Pages.put_all.Given as goal

abbrev pub invariant-rows : goal.invariant-rows
invariant-rows l = IsPermutation (entries l.initial.self ++ entries_of l.initial.rows.items)
    (entries l.self ++ entries_of l.rows.items)

abbrev pub decreases-rows : goal.decreases-rows
decreases-rows l = length l.rows.items

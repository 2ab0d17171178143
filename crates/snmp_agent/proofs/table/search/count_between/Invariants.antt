use Rattle.std.proofs.Common.{◌-◌}
use Rattle.snmp_agent.specs.private.table.BinarySearch.{IsHalvedTo}
use Rattle.snmp_agent.proofs.table.search.count_between.Given as goal

abbrev pub invariant-halves : goal.invariant-halves
invariant-halves g l = IsHalvedTo (g.T.Placed.up_to l.name) l.items l.begun l.end

abbrev pub decreases-halves : goal.decreases-halves
decreases-halves g l = l.end - l.begun

use Rattle.std.proofs.Common.{◌+◌, ◌-◌, length}
use Rattle.std.specs.List.Sorted.{IsPermutation}
use Rattle.snmp_agent.proofs.table.pending.sort_ties.Given as goal

abbrev pub invariant-ties : goal.invariant-ties
invariant-ties l = IsPermutation l.initial.rows l.rows

abbrev pub decreases-ties : goal.decreases-ties
decreases-ties l = (length l.rows - l.at) + l.left

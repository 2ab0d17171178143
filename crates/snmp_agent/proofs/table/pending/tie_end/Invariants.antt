use Rattle.std.proofs.Common.{◌<◌, ◌≤◌, ◌-◌, length}
use Rattle.snmp_agent.proofs.table.pending.tie_end.Given as goal

abbrev pub invariant-tied : goal.invariant-tied
invariant-tied l = (l.at < l.end) × (l.end ≤ length l.rows)

abbrev pub decreases-tied : goal.decreases-tied
decreases-tied l = length l.rows - l.end

use Rattle.std.proofs.Common.{◌≡◌, ◌++◌, length}
use Rattle.snmp_agent.specs.private.Cursor.{cursors_of}
use Rattle.snmp_agent.proofs.bulk.push_cursors.Given as goal

-- the positions so far, followed by the positions of the remaining names, are all positions
abbrev pub invariant-names : goal.invariant-names
invariant-names l = l.cursors.items ++ cursors_of l.table 0 l.bindings ≡ cursors_of l.table 0 l.fn.bindings

abbrev pub decreases-names : goal.decreases-names
decreases-names l = length l.bindings

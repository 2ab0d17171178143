use Rattle.std.proofs.Common.{◌≡◌, length}
use Rattle.snmp_walk.specs.private.ReplyRows.{is_misplaced}
use Rattle.snmp_walk.proofs.walk_core.is_misplaced.Given as goal

abbrev pub invariant-bindings : goal.invariant-bindings
invariant-bindings l = is_misplaced l.fn.room l.fn.bindings ≡ is_misplaced l.room l.bindings

abbrev pub decreases-bindings : goal.decreases-bindings
decreases-bindings l = length l.bindings

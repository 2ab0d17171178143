use Rattle.std.proofs.Common.{◌≡◌, ◌+◌, ◌<◌, ◌^◌, length}
use Rattle.snmp_walk.specs.private.ReplyRows.{reply_rows, IsReadTo, is_misplaced, name_or}
use Rattle.snmp_walk.specs.Request.{asked_for}
use Rattle.snmp_walk.proofs.walk_core.WalkCore.read_rows.Given as goal

abbrev pub invariant-bindings : goal.invariant-bindings
invariant-bindings l =
    let last = name_or l.self.asked l.last in
    IsReadTo l.self.asked (reply_rows l.self.root l.self.asked l.fn.bindings) last l.rows (reply_rows l.self.root last l.bindings)
    × (is_misplaced (asked_for l.self.method) l.fn.bindings ≡ is_misplaced l.room l.bindings) × (l.rows + l.room < 2 ^ 32)

abbrev pub decreases-bindings : goal.decreases-bindings
decreases-bindings l = length l.bindings

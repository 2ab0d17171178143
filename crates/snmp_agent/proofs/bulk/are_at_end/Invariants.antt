use Rattle.std.proofs.Common.{◌≡◌, take, true}
use Rattle.std.specs.List.{list_all}
use Rattle.snmp_agent.specs.private.Cursor.{is_over}
use Rattle.snmp_agent.proofs.bulk.are_at_end.Given as goal

abbrev pub invariant-cursors : goal.invariant-cursors
invariant-cursors l = list_all is_over (take l.cursor-index l.cursors) ≡ true

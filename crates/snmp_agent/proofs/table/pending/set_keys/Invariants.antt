use Rattle.std.proofs.Common.{◌≡◌}
use Rattle.snmp_agent.proofs.table.pending.set_keys.Given as goal

abbrev pub invariant-rows : goal.invariant-rows
invariant-rows l = l.rows ≡ l.initial.rows

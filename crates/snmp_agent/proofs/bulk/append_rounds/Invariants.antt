use Rattle.std.proofs.Common.{◌≡◌, ◌++◌}
use Rattle.snmp_agent.specs.{private.Answering.held, private.Cursor.cursors_of}
use Rattle.snmp_agent.proofs.Rounds.{AreLeft}
use Rattle.snmp_agent.proofs.bulk.append_rounds.Given as goal

-- appending the remaining rounds completes the reply, and the positions are those after the rounds
-- so far
abbrev pub invariant-rounds : goal.invariant-rounds
invariant-rounds l = record {
  rounds : AreLeft l.table l.bindings l.repetitions (held l.fn.reply l.fn.out) l.round (held l.reply l.out);
  cursors : l.cursors ++ cursors_of l.table l.round l.others ≡ cursors_of l.table l.round l.bindings;
}

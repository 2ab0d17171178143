use Rattle.std.proofs.Common.{◌≡◌, [], ◌∷◌}
use Rattle.snmp_agent.specs.{private.Answering.held, private.Cursor.cursor_of}
use Rattle.snmp_agent.proofs.Rounds.{AreLeft}
use Rattle.snmp_agent.proofs.bulk.append_column.Given as goal

-- appending the remaining rounds completes the reply, and the position is the one after the rounds
-- so far
abbrev pub invariant-rounds : goal.invariant-rounds
invariant-rounds l = record {
  rounds : AreLeft l.table (l.fn.asked ∷ []) l.repetitions (held l.fn.reply l.fn.out) l.counter (held l.reply l.out);
  cursor : l.cursor ≡ cursor_of l.table l.counter l.fn.asked.name;
}

use Rattle.std.proofs.Common.{◌≡◌, length}
use Rattle.snmp_agent.specs.private.Answering.{AreWritable, answers_to, fill, held}
use Rattle.snmp_agent.proofs.answers.append_answers.Given as goal

-- appending the remaining answers now results in the same as appending all answers at the beginning, and the remaining bindings can be written
abbrev pub invariant-bindings : goal.invariant-bindings
invariant-bindings l = record {
  others : fill (held l.fn.reply l.fn.out) (answers_to l.table l.kind l.fn.bindings) ≡ fill (held l.reply l.out) (answers_to l.table l.kind l.bindings);
  writable : AreWritable l.bindings;
}

abbrev pub decreases-bindings : goal.decreases-bindings
decreases-bindings l = length l.bindings

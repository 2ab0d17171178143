use Rattle.std.proofs.Common.{◌≡◌, ℕ, ◌+◌, take, drop}
use Rattle.snmp_agent.specs.{private.Answering.fill, private.Answering.held, private.Cursor.bindings_in_round}
use Rattle.snmp_agent.proofs.bulk.append_singles.Given as goal

-- appending the remaining results now results in the same reply as appending all results at the beginning, and the same bindings are left after them
abbrev pub invariant-singles : goal.invariant-singles
invariant-singles l = record {
  others : (left : ℕ) → l.counter + left ≡ l.count → fill (held l.fn.reply l.fn.out) (bindings_in_round l.table 0 (take l.count l.fn.bindings))
      ≡ fill (held l.reply l.out) (bindings_in_round l.table 0 (take left l.bindings));
  left : (left : ℕ) → l.counter + left ≡ l.count → drop left l.bindings ≡ drop l.count l.fn.bindings;
}

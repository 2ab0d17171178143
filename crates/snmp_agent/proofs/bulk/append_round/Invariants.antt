use Rattle.std.proofs.Common.{◌≡◌, ◌++◌, ◌&&◌, map, take, drop, length}
use Rattle.std.specs.List.{list_all}
use Rattle.snmp_agent.specs.private.Answering.{fill, held}
use Rattle.snmp_agent.specs.private.Cursor.{bindings_in_round, is_over, next_at, passed, cursors_of}
use Rattle.snmp_agent.proofs.bulk.append_round.Given as goal

-- the positions before this index have moved past one row each, if any was left, and appending the results from the other positions to the reply so far results
-- in the same as appending the results from all positions to the first reply
abbrev pub invariant-cursors : goal.invariant-cursors
invariant-cursors l = record {
  moved : l.cursors ≡ map passed (take l.cursor-index l.fn.cursors) ++ drop l.cursor-index l.fn.cursors;
  rest : fill (held l.fn.reply l.fn.out) (map next_at l.fn.cursors) ≡ fill (held l.reply l.out) (map next_at (drop l.cursor-index l.fn.cursors));
}

-- appending the results for the remaining names completes the round, and no row was left at any position of the round if and only if `are_over` is true and
-- none is left for the remaining names
abbrev pub invariant-others : goal.invariant-others
invariant-others l = record {
  rest : fill (held l.fn.reply l.fn.out) (map next_at (l.fn.cursors ++ cursors_of l.table l.round l.fn.others))
      ≡ fill (held l.reply l.out) (bindings_in_round l.table l.round l.others);
  over : list_all is_over (l.fn.cursors ++ cursors_of l.table l.round l.fn.others) ≡ (l.are_over && list_all is_over (cursors_of l.table l.round l.others));
}

abbrev pub decreases-others : goal.decreases-others
decreases-others l = length l.others

use Rattle.std.proofs.Common.{length, ◌-◌, ◌≡◌, ◌≤◌, take}
use Rattle.snmp_io.specs.Output.{stream_after}
use Rattle.snmp_io.proofs.output.write_all.Given as goal

abbrev pub invariant-pieces : goal.invariant-pieces
invariant-pieces g l = record {
  within : l.written ≤ length l.text;
  taken : g.O.Output.stream l.out ≡ stream_after (g.O.Output.stream l.fn.out) (take l.written l.text);
}

abbrev pub decreases-pieces : goal.decreases-pieces
decreases-pieces g l = length l.text - l.written

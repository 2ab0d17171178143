use Rattle.std.proofs.Common.{◌≤◌, length, drop}
use Rattle.std.specs.List.{flat_map}
use Rattle.snmp_wire.specs.{ber.Canon.canon_subidentifier, ber.Writing.Writes}
use Rattle.snmp_wire.proofs.ber.identifier.put_other_numbers.Given as goal

-- the numbers from index `left` on are written
abbrev pub invariant-numbers : goal.invariant-numbers
invariant-numbers l = record {
  written : Writes l.fn.out l.start l.fn.end (flat_map canon_subidentifier (drop l.left l.numbers)) l.out;
  within : l.left ≤ length l.numbers;
}

abbrev pub decreases-numbers : goal.decreases-numbers
decreases-numbers l = l.left

use Rattle.std.proofs.Common.{◌≡◌, ◌+◌, ◌*◌, ◌≤◌, length, drop}
use Rattle.std.specs.List.{flat_map}
use Rattle.snmp_wire.specs.ber.Canon.{canon_subidentifier}
use Rattle.snmp_wire.proofs.ber.identifier.other_numbers_size.Given as goal

-- the octets of the numbers from index `left` on are counted
abbrev pub invariant-numbers : goal.invariant-numbers
invariant-numbers l = record {
  reported : l.size ≡ length (flat_map canon_subidentifier (drop l.left l.numbers));
  small : l.size + 5 * l.left ≤ 5 * length l.numbers;
  within : l.left ≤ length l.numbers;
}

abbrev pub decreases-numbers : goal.decreases-numbers
decreases-numbers l = l.left

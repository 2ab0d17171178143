use Rattle.std.proofs.Common.{◌≡◌, ◌-◌, ◌/◌, ◌^◌, ◌≤◌}
use Rattle.snmp_wire.specs.{ber.Canon.septets, ber.Writing.Writes}
use Rattle.snmp_wire.proofs.ber.identifier.put_septets.Given as goal

-- the lowest digits are written, and `rest` is the number that the other digits make
abbrev pub invariant-septets : goal.invariant-septets
invariant-septets l = record {
  above : l.start ≤ l.at;
  written : Writes l.fn.out l.at l.fn.end (septets (l.fn.end - l.at) l.fn.number) l.out;
  rest : l.rest ≡ l.fn.number / 128 ^ (l.fn.end - l.at);
}

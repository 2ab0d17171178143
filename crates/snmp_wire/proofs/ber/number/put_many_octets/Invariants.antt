use Rattle.std.proofs.Common.{◌≡◌, ◌-◌, ◌/◌, ◌^◌, ◌≤◌}
use Rattle.snmp_wire.specs.{ber.Canon.octets, ber.Writing.Writes}
use Rattle.snmp_wire.proofs.ber.number.put_many_octets.Given as goal

-- the lowest octets are written, and `rest` is the number that the other octets make
abbrev pub invariant-octets : goal.invariant-octets
invariant-octets l = record {
  above : l.start ≤ l.at;
  written : Writes l.fn.out l.at l.fn.end (octets (l.fn.end - l.at) l.fn.number) l.out;
  rest : l.rest ≡ l.fn.number / 256 ^ (l.fn.end - l.at);
}

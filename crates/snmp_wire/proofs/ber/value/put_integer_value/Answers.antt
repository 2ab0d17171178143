use Rattle.std.proofs.Common.{ℤ, ap, length, subst, sym, ◌≤◌}
use Rattle.std.proofs.{lemmas.Int.to_z-of_z}
use mir.Syntax.{w32}
use Rattle.snmp_wire.specs.ber.Canon.{canon_number}
use Rattle.snmp_wire.proofs.ElementLaws.{content_fits, writes_element}
use Rattle.snmp_wire.proofs.{WritingLaws.writes_same}
use Rattle.snmp_wire.proofs.ber.value.put_integer_value.Goals as goal

pub put_integer-start-requires-clause-room : goal.put_integer-start-requires-clause-room
put_integer-start-requires-clause-room c = subst (λ (z : ℤ). length (canon_number z) ≤ c.args.end) (sym (to_z-of_z w32 c.args.number c.ranges.number))
    (content_fits 2 c.args.end (canon_number c.args.number) c.requires.room)

pub returns : goal.returns
returns c = writes_element 2 (writes_same c.put_integer-start.ensures (ap canon_number
    (to_z-of_z w32 c.args.number c.ranges.number))) c.put_short_header.ensures

use Rattle.std.proofs.Common.{List, ap, length, refl, subst, sym, ℕ, ◌≤◌, ◌∙◌}
use Rattle.std.proofs.lemmas.Int.{to_z-of_z}
use mir.Syntax.{w32}
use Rattle.snmp_wire.specs.{ber.Canon.canon_number, ber.Value.integer_value}
use Rattle.snmp_wire.proofs.ElementLaws.{content_number, value_content_fits, value_header_fits, writes_value}
use Rattle.snmp_wire.proofs.WritingLaws.{writes_same}
use Rattle.snmp_wire.proofs.message.put_any_integer_element.Goals as goal

pub put_integer-start-requires-clause-room : goal.put_integer-start-requires-clause-room
put_integer-start-requires-clause-room c = subst (λ (octets : List ℕ). length octets ≤ c.args.end)
    (content_number c.args.number ∙ ap canon_number (sym (to_z-of_z w32 c.args.number c.ranges.number)))
    (value_content_fits c.args.end (integer_value c.args.number) c.requires.room)

pub put_header-requires-clause-room : goal.put_header-requires-clause-room
put_header-requires-clause-room c = value_header_fits 2 (integer_value c.args.number) refl
    (writes_same c.put_integer-start.ensures (ap canon_number (to_z-of_z w32 c.args.number c.ranges.number)
    ∙ sym (content_number c.args.number))) c.requires.room

pub returns : goal.returns
returns c = writes_value 2 (integer_value c.args.number) refl (writes_same c.put_integer-start.ensures
    (ap canon_number (to_z-of_z w32 c.args.number c.ranges.number) ∙ sym (content_number c.args.number))) c.put_header.ensures

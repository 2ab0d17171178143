use Rattle.std.proofs.{lemmas.Grind.common_steps, Common.length, Common.pos, Common.ap, Common.arith, Common.sym, Common.◌∙◌}
use Rattle.snmp_wire.specs.ber.Canon.{canon_number}
use Rattle.snmp_wire.proofs.NumberSizes.{length-from_zero, number_large, size_five, size_four, writes_five_octets, writes_four_octets}
use Rattle.snmp_wire.proofs.{Digits.length-digits, ElementLaws.content_fits, ElementLaws.header_fits, ElementLaws.writes_element}
use Rattle.snmp_wire.proofs.{ElementRoom.number_short, ElementRoom.sized_header_fits, ElementRoom.writes_sized, WritingLaws.writes_same}
use Rattle.snmp_wire.proofs.ber.value.put_number.Goals as goal

pub put_unsigned-start-requires-clause-room : goal.put_unsigned-start-requires-clause-room
put_unsigned-start-requires-clause-room c =
    let same = ap (λ n. length (canon_number (pos n))) c.from.ensures in
    omega (arith, content_fits c.args.tag c.args.end (canon_number (pos c.args.number)) c.requires.room, length-from_zero c.from.result, same)

pub put_short_header-requires-clause-below_128 : goal.put_short_header-requires-clause-below_128
put_short_header-requires-clause-below_128 c = number_short (pos c.from.result) c.put_unsigned-start.ensures

pub put_short_header-requires-clause-room : goal.put_short_header-requires-clause-room
put_short_header-requires-clause-room c = grind (arith, common_steps, header_fits, writes_same)

pub returns-then-number : goal.returns-then-number
returns-then-number c = writes_element c.args.tag (writes_same c.put_unsigned-start.ensures
    (ap (λ n. canon_number (pos n)) c.from.ensures)) c.put_short_header.ensures

pub put_four-start-requires-clause-room : goal.put_four-start-requires-clause-room
put_four-start-requires-clause-room c =
    let size = number_large c.args.number 2 (omega (arith, c.ranges.number.fits)) (omega (arith, c.if-number.false)) in
    omega (arith, size, content_fits _ _ _ c.requires.room, length-from_zero c.args.number)

pub put_short_header-requires-then-number-2-clause-room : goal.put_short_header-requires-then-number-2-clause-room
put_short_header-requires-then-number-2-clause-room c =
    sized_header_fits c.args.tag 4 (sym (length-from_zero c.args.number ∙ size_four c.args.number c.if-number.false c.if-number-2.true))
    (writes_four_octets c.args.number c.if-number.false c.if-number-2.true c.put_four-start.ensures) c.requires.room

pub returns-then-number-2 : goal.returns-then-number-2
returns-then-number-2 c =
    writes_sized c.args.tag 4 (sym (length-from_zero c.args.number ∙ size_four c.args.number c.if-number.false c.if-number-2.true))
    (writes_four_octets c.args.number c.if-number.false c.if-number-2.true c.put_four-start.ensures) c.put_short_header-then-number-2.ensures

pub put_octet-start-requires-clause-room : goal.put_octet-start-requires-clause-room
put_octet-start-requires-clause-room c =
    let size = number_large c.args.number 3 (omega (arith, c.ranges.number.fits)) (omega (arith, c.if-number-2.false)) in
    omega (arith, size, content_fits _ _ _ c.requires.room, length-from_zero c.args.number, length-digits 256 4 c.args.number)

pub put_short_header-requires-else-number-2-clause-room : goal.put_short_header-requires-else-number-2-clause-room
put_short_header-requires-else-number-2-clause-room c =
    sized_header_fits c.args.tag 5 (sym (length-from_zero c.args.number ∙ size_five c.args.number c.if-number-2.false (omega (arith, c.ranges.number.fits))))
    (writes_five_octets c.args.number c.if-number-2.false (omega (arith, c.ranges.number.fits)) c.put_four-start.ensures c.put_octet-start.ensures)
    c.requires.room

pub returns-else-number-2 : goal.returns-else-number-2
returns-else-number-2 c =
    writes_sized c.args.tag 5 (sym (length-from_zero c.args.number ∙ size_five c.args.number c.if-number-2.false (omega (arith, c.ranges.number.fits))))
    (writes_five_octets c.args.number c.if-number-2.false (omega (arith, c.ranges.number.fits)) c.put_four-start.ensures c.put_octet-start.ensures)
    c.put_short_header-else-number-2.ensures

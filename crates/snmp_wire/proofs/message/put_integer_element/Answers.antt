use Rattle.std.proofs.Common.{◌≡◌, ◌∷◌, [], ℤ, ap, arith, length, pos, refl, sym, true, ◌∙◌}
use Rattle.std.proofs.lemmas.Int.{to_z-of_z}
use lib.IntN.{nat_abs}
use lib.Signed.{le_z, lt_z}
use mir.Syntax.{w32}
use mir.Val.{SFits, of_z, to_z}
use Rattle.snmp_wire.specs.{ber.Canon.canon_content, ber.Canon.canon_number, ber.Value.integer_value}
use Rattle.snmp_wire.proofs.ElementLaws.{content_number, value_content_fits, value_header_fits, writes_value}
use Rattle.snmp_wire.proofs.{WritingLaws.writes_same, NumberSizes.short_number}
use Rattle.snmp_wire.proofs.message.put_integer_element.Goals as goal

-- the content of a number from 0 to 127 is the number itself
one : (z : ℤ) → SFits w32 z → le_z (pos 0) (to_z w32 (of_z w32 z)) ≡ true → lt_z (to_z w32 (of_z w32 z)) (pos 128) ≡ true
    → nat_abs (to_z w32 (of_z w32 z)) ∷ [] ≡ canon_content (integer_value z)
one z fits low high = short_number (to_z w32 (of_z w32 z)) low high ∙ ap canon_number (to_z-of_z w32 z fits) ∙ sym (content_number z)

pub put_octet-start-requires-clause-room : goal.put_octet-start-requires-clause-room
put_octet-start-requires-clause-room c =
    let size = ap length (one c.args.number c.ranges.number c.if-number-ge0.true c.if-number-lt128.true) in
    omega (arith, size, value_content_fits c.args.end (integer_value c.args.number) c.requires.room)

pub put_short_header-requires-clause-room : goal.put_short_header-requires-clause-room
put_short_header-requires-clause-room c = value_header_fits 2 (integer_value c.args.number) refl
    (writes_same c.put_octet-start.ensures (one c.args.number c.ranges.number c.if-number-ge0.true c.if-number-lt128.true)) c.requires.room

pub returns-then-number-lt128 : goal.returns-then-number-lt128
returns-then-number-lt128 c = writes_value 2 (integer_value c.args.number) refl
    (writes_same c.put_octet-start.ensures (one c.args.number c.ranges.number c.if-number-ge0.true c.if-number-lt128.true)) c.put_short_header.ensures

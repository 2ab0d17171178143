use Rattle.std.proofs.{lemmas.Grind.common_steps, Common.arith, Common.refl}
use Rattle.snmp_wire.proofs.WrittenBindings.{binding_header_fits, binding_name_fits, binding_value_fits, writes_binding}
use Rattle.snmp_wire.proofs.ElementLaws.{header_short, length-canon_header, value_content_fits, value_header_fits, writes_value}
use Rattle.snmp_wire.proofs.binding.put_pair.Goals as goal

pub put_value-value-requires-clause-room : goal.put_value-value-requires-clause-room
put_value-value-requires-clause-room c = binding_value_fits _ _ c.requires.room

pub put_identifier-content-requires-clause-room : goal.put_identifier-content-requires-clause-room
put_identifier-content-requires-clause-room c = value_content_fits _ _ (binding_name_fits _ c.put_value-value.ensures c.requires.room)

pub put_short_header-name-requires-clause-room : goal.put_short_header-name-requires-clause-room
put_short_header-name-requires-clause-room c = value_header_fits 6 _ refl c.put_identifier-content.ensures
    (binding_name_fits _ c.put_value-value.ensures c.requires.room)

pub put_short_header-requires-clause-below_128 : goal.put_short_header-requires-clause-below_128
put_short_header-requires-clause-below_128 c = grind (arith, common_steps, length-canon_header, header_short)

pub put_short_header-requires-clause-room : goal.put_short_header-requires-clause-room
put_short_header-requires-clause-room c = binding_header_fits _ c.put_value-value.ensures
    (writes_value 6 _ refl c.put_identifier-content.ensures c.put_short_header-name.ensures) c.requires.room

pub returns-then-end-content-lt126 : goal.returns-then-end-content-lt126
returns-then-end-content-lt126 c = writes_binding _ c.put_value-value.ensures
    (writes_value 6 _ refl c.put_identifier-content.ensures c.put_short_header-name.ensures) c.put_short_header.ensures

pub put_header-name-requires-clause-room : goal.put_header-name-requires-clause-room
put_header-name-requires-clause-room c = value_header_fits 6 _ refl c.put_identifier-content.ensures
    (binding_name_fits _ c.put_value-value.ensures c.requires.room)

pub put_header-requires-clause-room : goal.put_header-requires-clause-room
put_header-requires-clause-room c = binding_header_fits _ c.put_value-value.ensures
    (writes_value 6 _ refl c.put_identifier-content.ensures c.put_header-name.ensures) c.requires.room

pub returns : goal.returns
returns c = writes_binding _ c.put_value-value.ensures
    (writes_value 6 _ refl c.put_identifier-content.ensures c.put_header-name.ensures) c.put_header.ensures

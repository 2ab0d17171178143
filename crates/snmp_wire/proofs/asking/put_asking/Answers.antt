use Rattle.std.proofs.Common.{length, refl, sym, ap, arith}
use Rattle.snmp_wire.specs.{Name.asking, ber.Value.object_id}
use Rattle.snmp_wire.proofs.{ElementLaws.value_content_fits, ElementLaws.value_header_fits, ElementLaws.writes_value, WritingLaws.writes_same}
use Rattle.snmp_wire.proofs.WrittenBindings.{binding_header_fits, binding_name_fits, binding_value_fits, null_octets, writes_binding}
use Rattle.snmp_wire.proofs.asking.put_asking.Goals as goal

pub put_text-value-requires-clause-room : goal.put_text-value-requires-clause-room
put_text-value-requires-clause-room c = omega (arith, binding_value_fits c.args.end (asking c.args.asked.now) c.requires.room, ap length null_octets)

pub put_text-content-requires-clause-room : goal.put_text-content-requires-clause-room
put_text-content-requires-clause-room c =
    let room = binding_name_fits (asking c.args.asked.now) (writes_same c.put_text-value.ensures (sym null_octets)) c.requires.room in
    omega (arith, value_content_fits _ _ room, ap length c.content.ensures.value)

pub put_header-name-requires-clause-room : goal.put_header-name-requires-clause-room
put_header-name-requires-clause-room c =
    value_header_fits 6 (object_id c.args.asked.now) refl (writes_same c.put_text-content.ensures c.content.ensures.value)
    (binding_name_fits (asking c.args.asked.now) (writes_same c.put_text-value.ensures (sym null_octets)) c.requires.room)

pub put_header-requires-clause-room : goal.put_header-requires-clause-room
put_header-requires-clause-room c = binding_header_fits (asking c.args.asked.now) (writes_same c.put_text-value.ensures (sym null_octets))
    (writes_value 6 (object_id c.args.asked.now) refl (writes_same c.put_text-content.ensures c.content.ensures.value) c.put_header-name.ensures)
    c.requires.room

pub returns : goal.returns
returns c = writes_binding (asking c.args.asked.now) (writes_same c.put_text-value.ensures (sym null_octets))
    (writes_value 6 (object_id c.args.asked.now) refl (writes_same c.put_text-content.ensures c.content.ensures.value) c.put_header-name.ensures)
    c.put_header.ensures

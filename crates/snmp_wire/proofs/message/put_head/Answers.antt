use Rattle.std.proofs.{Common.◌++◌, Common.arith, Common.rules, lemmas.Int.to_z-of_z}
use mir.Syntax.{w32}
use Rattle.snmp_wire.specs.{Canon.canon_fields, Parts.parts_message, ber.Canon.canon_header, ber.Spelling.sequence_tag, ber.Writing.Writes}
use Rattle.snmp_wire.proofs.WrittenMessages.{length-canon_fields, list_fits, message_header_fits, opening_fits, pdu_header_fits, writes_fields}
use Rattle.snmp_wire.proofs.WrittenMessages.{writes_prefix, writes_head}
use Rattle.snmp_wire.proofs.message.put_head.Goals as goal
use Rattle.snmp_wire.proofs.message.put_head.Goals.{After-put_integer_element-id}

pub put_header-list-requires-clause-room : goal.put_header-list-requires-clause-room
put_header-list-requires-clause-room c = omega (arith, list_fits _ _ _ c.requires.room)

pub put_integer_element-b-requires-clause-room : goal.put_integer_element-b-requires-clause-room
put_integer_element-b-requires-clause-room c = rw (to_z-of_z w32 c.args.parts.now.b (search rules))
    (omega (arith, list_fits _ _ _ c.requires.room, length-canon_fields (parts_message c.args.parts.now)))

pub put_integer_element-a-requires-clause-room : goal.put_integer_element-a-requires-clause-room
put_integer_element-a-requires-clause-room c =
    let b = rw (to_z-of_z w32 c.args.parts.now.b (search rules)) at c.put_integer_element-b.ensures in
    rw (to_z-of_z w32 c.args.parts.now.a (search rules))
    (omega (arith, b.begins, list_fits _ _ _ c.requires.room, length-canon_fields (parts_message c.args.parts.now)))

pub put_integer_element-id-requires-clause-room : goal.put_integer_element-id-requires-clause-room
put_integer_element-id-requires-clause-room c =
    let b = rw (to_z-of_z w32 c.args.parts.now.b (search rules)) at c.put_integer_element-b.ensures in
    let a = rw (to_z-of_z w32 c.args.parts.now.a (search rules)) at c.put_integer_element-a.ensures in
    rw (to_z-of_z w32 c.args.parts.now.id (search rules))
    (omega (arith, b.begins, a.begins, list_fits _ _ _ c.requires.room, length-canon_fields (parts_message c.args.parts.now)))

-- what follows the tag and the length of the PDU is written
fields : (c : After-put_integer_element-id) → Writes c.args.out.now c.put_integer_element-id.result c.args.end
    (canon_fields (parts_message c.args.parts.now) ++ canon_header sequence_tag c.args.total) c.put_integer_element-id.new.out
fields c = writes_fields (parts_message c.args.parts.now) c.args.total c.put_header-list.ensures
    (rw (to_z-of_z w32 c.args.parts.now.b (search rules)) at c.put_integer_element-b.ensures)
    (rw (to_z-of_z w32 c.args.parts.now.a (search rules)) at c.put_integer_element-a.ensures)
    (rw (to_z-of_z w32 c.args.parts.now.id (search rules)) at c.put_integer_element-id.ensures)

pub put_header-pdu-requires-clause-room : goal.put_header-pdu-requires-clause-room
put_header-pdu-requires-clause-room c = pdu_header_fits _ _ _ c.tag_of_kind.ensures
    (fields (goal.at.put_header-pdu-requires-clause-room c).After-put_integer_element-id) c.requires.room

pub put_text_element-community-requires-clause-room : goal.put_text_element-community-requires-clause-room
put_text_element-community-requires-clause-room c =
    let suffix = fields (goal.at.put_text_element-community-requires-clause-room c).After-put_integer_element-id in
    omega (arith, opening_fits _ _ _ c.tag_of_kind.ensures suffix c.put_header-pdu.ensures c.requires.room)

pub put_integer_element-version-requires-clause-room : goal.put_integer_element-version-requires-clause-room
put_integer_element-version-requires-clause-room c =
    let suffix = fields (goal.at.put_integer_element-version-requires-clause-room c).After-put_integer_element-id in
    let opening = opening_fits _ _ _ c.tag_of_kind.ensures suffix c.put_header-pdu.ensures c.requires.room in
    rw (to_z-of_z w32 c.args.parts.now.version (search rules)) (omega (arith, opening, c.put_text_element-community.ensures.begins))

pub put_header-requires-clause-room : goal.put_header-requires-clause-room
put_header-requires-clause-room c = message_header_fits _ _
    (writes_prefix _ _ _ c.tag_of_kind.ensures (fields (goal.at.put_header-requires-clause-room c).After-put_integer_element-id)
    c.put_header-pdu.ensures c.put_text_element-community.ensures
    (rw (to_z-of_z w32 c.args.parts.now.version (search rules)) at c.put_integer_element-version.ensures)) c.requires.room

pub returns : goal.returns
returns c = writes_head _ _
    (writes_prefix _ _ _ c.tag_of_kind.ensures (fields (goal.at.returns c).After-put_integer_element-id)
    c.put_header-pdu.ensures c.put_text_element-community.ensures
    (rw (to_z-of_z w32 c.args.parts.now.version (search rules)) at c.put_integer_element-version.ensures)) c.put_header.ensures

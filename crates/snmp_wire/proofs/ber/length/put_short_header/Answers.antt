use Rattle.std.proofs.{lemmas.Grind.common_steps, Common.arith, Common.sym}
use Rattle.snmp_wire.proofs.ElementLaws.{canon_length_short, header_short, length-canon_header}
use Rattle.snmp_wire.proofs.{ElementRoom.writes_tag, WritingLaws.writes_same}
use Rattle.snmp_wire.proofs.ber.length.put_short_header.Goals as goal

pub put_octet-start-requires-clause-room : goal.put_octet-start-requires-clause-room
put_octet-start-requires-clause-room c = omega (arith, length-canon_header c.args.tag c.args.size, c.requires.room)

pub put_octet-requires-clause-room : goal.put_octet-requires-clause-room
put_octet-requires-clause-room c = grind (arith, common_steps, length-canon_header, header_short)

pub returns : goal.returns
returns c = writes_tag c.args.tag c.args.size (writes_same c.put_octet-start.ensures
    (sym (canon_length_short c.args.size c.requires.below_128))) c.put_octet.ensures

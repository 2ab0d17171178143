use Rattle.std.proofs.Common.{arith}
use Rattle.snmp_wire.proofs.{ElementLaws.length-canon_header, ElementRoom.writes_tag}
use Rattle.snmp_wire.proofs.ber.length.put_header.Goals as goal

pub put_length-start-requires-clause-room : goal.put_length-start-requires-clause-room
put_length-start-requires-clause-room c = omega (arith, length-canon_header c.args.tag c.args.size)

pub put_octet-requires-clause-room : goal.put_octet-requires-clause-room
put_octet-requires-clause-room c = omega (arith, length-canon_header c.args.tag c.args.size)

pub returns : goal.returns
returns c = writes_tag c.args.tag c.args.size c.put_length-start.ensures c.put_octet.ensures

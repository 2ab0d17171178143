use Rattle.snmp_wire.proofs.ElementLaws.{content_fits, header_fits, writes_element}
use Rattle.snmp_wire.proofs.ber.value.put_string.Goals as goal

pub put_text-start-requires-clause-room : goal.put_text-start-requires-clause-room
put_text-start-requires-clause-room c = content_fits c.args.tag c.args.end c.args.text.now c.requires.room

pub put_header-requires-clause-room : goal.put_header-requires-clause-room
put_header-requires-clause-room c = header_fits c.args.tag c.put_text-start.ensures c.requires.room

pub returns : goal.returns
returns c = writes_element c.args.tag c.put_text-start.ensures c.put_header.ensures

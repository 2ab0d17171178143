use Rattle.snmp_wire.specs.{ber.Canon.canon_content, ber.Value.object_id}
use Rattle.snmp_wire.proofs.ElementLaws.{content_fits, header_fits, writes_element}
use Rattle.snmp_wire.proofs.ber.value.put_object_id.Goals as goal

pub put_identifier-start-requires-clause-room : goal.put_identifier-start-requires-clause-room
put_identifier-start-requires-clause-room c = content_fits 6 c.args.end (canon_content (object_id c.args.name.now)) c.requires.room

pub put_header-requires-clause-room : goal.put_header-requires-clause-room
put_header-requires-clause-room c = header_fits 6 c.put_identifier-start.ensures c.requires.room

pub returns : goal.returns
returns c = writes_element 6 c.put_identifier-start.ensures c.put_header.ensures

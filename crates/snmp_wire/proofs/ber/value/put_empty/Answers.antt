use Rattle.snmp_wire.proofs.ElementRoom.{empty_fits, writes_empty}
use Rattle.snmp_wire.proofs.ber.value.put_empty.Goals as goal

pub put_short_header-requires-clause-room : goal.put_short_header-requires-clause-room
put_short_header-requires-clause-room c = empty_fits c.args.tag c.args.end c.requires.room

pub returns : goal.returns
returns c = writes_empty c.args.tag c.put_short_header.ensures

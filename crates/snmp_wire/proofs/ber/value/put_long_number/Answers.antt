use Rattle.std.proofs.Common.{arith}
use Rattle.snmp_wire.proofs.{NumberSizes.length-from_zero}
use Rattle.snmp_wire.proofs.ElementLaws.{content_fits, writes_element}
use Rattle.snmp_wire.proofs.ber.value.put_long_number.Goals as goal

pub put_unsigned-start-requires-clause-room : goal.put_unsigned-start-requires-clause-room
put_unsigned-start-requires-clause-room c = omega (arith, content_fits _ _ _ c.requires.room, length-from_zero c.args.number)

pub returns : goal.returns
returns c = writes_element c.args.tag c.put_unsigned-start.ensures c.put_short_header.ensures

use Rattle.std.proofs.{lemmas.Grind.common_steps, Common.arith, Common.sym}
use Rattle.snmp_wire.proofs.WrittenIdentifiers.{content_is, length-canon_subidentifier, length-content}
use Rattle.snmp_wire.proofs.WritingLaws.{writes_same, writes_then}
use Rattle.snmp_wire.proofs.ber.identifier.put_identifier.Goals as goal

pub put_numbers-start-requires-clause-room : goal.put_numbers-start-requires-clause-room
put_numbers-start-requires-clause-room c = omega (arith, length-content c.as_slice.result.now c.args.name.now c.requires.encodable c.as_slice.ensures.value)

pub put_subidentifier-requires-clause-room : goal.put_subidentifier-requires-clause-room
put_subidentifier-requires-clause-room c = grind (arith, common_steps, length-canon_subidentifier, length-content)

pub returns : goal.returns
returns c = writes_same (writes_then c.put_numbers-start.ensures c.put_subidentifier.ensures)
    (sym (content_is _ _ _ c.requires.encodable c.as_slice.ensures.value c.first_subidentifier.ensures))

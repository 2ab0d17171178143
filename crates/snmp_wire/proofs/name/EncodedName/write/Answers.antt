use Rattle.std.proofs.Common.{arith, ◌≡◌, ◌-◌, length, take, drop, Ok, sym, ◌∙◌}
use Rattle.std.proofs.lemmas.Grind.{common_steps}
use Rattle.snmp_wire.specs.ber.Decode.{identifier_of}
use Rattle.snmp_wire.proofs.{ReadingLaws.is_ok_at, ReadingLaws.ok_is, ReadIdentifiers.identifier_again, NameOrder.content_short}
use Rattle.snmp_wire.proofs.{WrittenIdentifiers.is_object_id, WrittenOctets.written_to_end, name.EncodedName.write.Goals.After-put_identifier-start}
use Rattle.snmp_wire.proofs.name.EncodedName.write.Goals as goal

pub put_identifier-start-requires-clause-room : goal.put_identifier-start-requires-clause-room
put_identifier-start-requires-clause-room c = content_short c.args.name.now c.as_slice-numbers.ensures.at_most_128

-- what was written to the end of `out` is decoded as the name
is_read : (c : After-put_identifier-start) → identifier_of (take (length c.put_identifier-start.new.out - c.put_identifier-start.result)
    (drop c.put_identifier-start.result c.put_identifier-start.new.out)) ≡ Ok c.args.name.now
is_read c = grind (arith, common_steps, written_to_end, identifier_again, is_object_id)

pub of-requires : goal.of-requires
of-requires c = is_ok_at _ c.args.name.now (is_read (goal.at.of-requires c).After-put_identifier-start)

pub returns : goal.returns
returns c = ok_is c.of.result c.args.name.now (sym c.of.ensures ∙ is_read (goal.at.returns c).After-put_identifier-start)

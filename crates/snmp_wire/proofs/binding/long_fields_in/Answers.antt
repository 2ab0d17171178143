use Rattle.snmp_wire.proofs.{ReadingLaws.never_err, MessageLaws.begins_ok}
use Rattle.snmp_wire.proofs.binding.long_fields_in.Goals as goal

pub unreachable-requires : goal.unreachable-requires
unreachable-requires c = never_err _ _ (begins_ok c.args.octets.now c.requires.bindings c.requires.some) c.in-Err.ensures

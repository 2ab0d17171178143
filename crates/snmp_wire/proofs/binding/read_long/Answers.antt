use Rattle.snmp_wire.proofs.MessageLaws.{expects}
use Rattle.snmp_wire.proofs.binding.read_long.Goals as goal

-- the fields at the start of the octets are the fields of the first binding

pub read_binding-requires : goal.read_binding-requires
read_binding-requires c = (expects _ _ _ c.requires.bindings c.requires.some c.long_fields_in.ensures).is_binding

pub returns-clause-others : goal.returns-clause-others
returns-clause-others c = (expects _ _ _ c.requires.bindings c.requires.some c.long_fields_in.ensures).others

pub returns-clause-read : goal.returns-clause-read
returns-clause-read c = (expects _ _ _ c.requires.bindings c.requires.some c.long_fields_in.ensures).all _ c.read_binding.ensures

use Rattle.snmp_wire.specs.{ber.Value.datum, Decode.fields}
use Rattle.snmp_wire.proofs.MessageLaws.{parts_of, binding_made}
use Rattle.snmp_wire.proofs.binding.read_binding.Goals as goal

pub push_identifier-requires-clause-is_identifier : goal.push_identifier-requires-clause-is_identifier
push_identifier-requires-clause-is_identifier c = (parts_of (fields c.args.fields) c.requires).name

pub read_value-requires : goal.read_value-requires
read_value-requires c = (parts_of (fields c.args.fields) c.requires).value

pub returns : goal.returns
returns c = binding_made (fields c.args.fields) c.push_identifier.new.oid (datum c.read_value.new.into) c.push_identifier.ensures c.read_value.ensures

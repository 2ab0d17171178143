use Rattle.std.proofs.Common.{arith}
use Rattle.snmp_wire.proofs.ReadIdentifiers.{number_subidentifier, number_is}
use Rattle.snmp_wire.proofs.ber.identifier.number_in.Goals as goal

pub subidentifier_in-number-requires : goal.subidentifier_in-number-requires
subidentifier_in-number-requires c = number_subidentifier c.args.octets.now c.requires

pub overflow_cast-result : goal.overflow_cast-result
overflow_cast-result c = omega (arith, (number_is c.args.octets.now _ _ c.requires c.subidentifier_in-number.ensures).0)

pub returns : goal.returns
returns c = (number_is c.args.octets.now _ _ c.requires c.subidentifier_in-number.ensures).1

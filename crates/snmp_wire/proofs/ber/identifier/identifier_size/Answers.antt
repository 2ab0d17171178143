use Rattle.std.proofs.Common.{arith}
use Rattle.snmp_wire.proofs.WrittenIdentifiers.{length-content}
use Rattle.snmp_wire.proofs.ber.identifier.identifier_size.Goals as goal

pub returns-clause-value : goal.returns-clause-value
returns-clause-value c = omega (arith, c.first_size.ensures.value, length-content c.as_slice.result.now c.args.name.now c.requires c.as_slice.ensures.value)

use Rattle.std.proofs.{Common.arith}
use Rattle.snmp_wire.proofs.ReadIdentifiers.{number_shrinks}
use Rattle.snmp_wire.proofs.ber.identifier.some_numbers_at.Goals as goal

pub returns-clause-some : goal.returns-clause-some
returns-clause-some c = (omega arith, number_shrinks c.args.octets.now _ c.in_ok-rest.ensures)

use Rattle.std.proofs.{Common.sym, Common.◌∙◌, Common.arith}
use Rattle.snmp_wire.proofs.ReadIdentifiers.{digits_end}
use Rattle.snmp_wire.proofs.ber.identifier.digits_at.Goals as goal

pub returns : goal.returns
returns c = sym c.octets.invariant.same ∙ digits_end c.octets.number c.args.octets.now c.octets.i (omega arith)

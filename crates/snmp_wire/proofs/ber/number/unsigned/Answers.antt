use Rattle.std.proofs.{lemmas.Grind.common_steps, Common.arith}
use Rattle.snmp_wire.proofs.Digits.{number_of-more, octet_more, octet_fits}
use Rattle.snmp_wire.proofs.ber.number.unsigned.Goals as goal

pub overflow_mul-sum : goal.overflow_mul-sum
overflow_mul-sum c = omega (arith, octet_fits c.octets.octet-index c.octets.sum (omega arith) c.octets.invariant.bound)

pub overflow_add-sum : goal.overflow_add-sum
overflow_add-sum c = omega (arith, octet_fits c.octets.octet-index c.octets.sum (omega arith) c.octets.invariant.bound, c.type_inv.octets c.octets.octet-index)

pub octets-preserved : goal.octets-preserved
octets-preserved c = grind (arith, common_steps, number_of-more, octet_more)

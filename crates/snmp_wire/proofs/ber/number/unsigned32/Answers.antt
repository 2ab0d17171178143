use Rattle.std.proofs.{Common.lit<, Common.arith, Math.Nat.pow-le-pow_right}
use Rattle.snmp_wire.proofs.ber.number.unsigned32.Goals as goal

pub overflow_cast-result : goal.overflow_cast-result
overflow_cast-result c = omega (arith, c.unsigned.ensures.bound, pow-le-pow_right {n = 256} (lit< tt) {j = 4} c.without_zero.ensures.within_width)

use Rattle.std.proofs.{lemmas.Grind.common_steps, Common.arith}
use Rattle.snmp_wire.proofs.NumberSizes.{size_of_bits, size_one}
use Rattle.snmp_wire.proofs.ber.number.unsigned_size.Goals as goal

pub returns-then-number-lt128-clause-value : goal.returns-then-number-lt128-clause-value
returns-then-number-lt128-clause-value c = size_one c.args.number c.if-number-lt128.true

pub returns-else-number-lt128-clause-value : goal.returns-else-number-lt128-clause-value
returns-else-number-lt128-clause-value c = grind (arith, common_steps, size_of_bits)

use Rattle.std.proofs.{lemmas.Grind.common_steps, Common.arith}
use Rattle.snmp_wire.proofs.WrittenIdentifiers.{below_128, plain_before}
use Rattle.snmp_wire.proofs.ber.identifier.four_before.Goals as goal

pub overflow_cast-result : goal.overflow_cast-result
overflow_cast-result c = grind (arith, common_steps, below_128)

pub overflow_cast-result-then-a-b-lt128 : goal.overflow_cast-result-then-a-b-lt128
overflow_cast-result-then-a-b-lt128 c = grind (arith, common_steps, below_128)

pub overflow_cast-result-then-a-b-lt128-2 : goal.overflow_cast-result-then-a-b-lt128-2
overflow_cast-result-then-a-b-lt128-2 c = grind (arith, common_steps, below_128)

pub overflow_cast-result-then-a-b-lt128-3 : goal.overflow_cast-result-then-a-b-lt128-3
overflow_cast-result-then-a-b-lt128-3 c = grind (arith, common_steps, below_128)

pub returns-then-a-b-lt128 : goal.returns-then-a-b-lt128
returns-then-a-b-lt128 c = grind (arith, common_steps, plain_before)

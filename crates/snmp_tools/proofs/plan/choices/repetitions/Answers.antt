use Rattle.std.proofs.{lemmas.Grind.common_steps, Common.arith, Common.slice_index_or}
use Rattle.snmp_tools.proofs.LetterOffsets.{at_index, grows, weight_at}
use Rattle.snmp_tools.proofs.plan.choices.repetitions.Goals as goal

-- the number read so far is too large, and more digits don't make it smaller
pub returns-then-number-gt2147483647 : goal.returns-then-number-gt2147483647
returns-then-number-gt2147483647 c = λ m are. grind (arith, common_steps, weight_at, slice_index_or, at_index, grows)

use Rattle.std.proofs.{lemmas.Grind.common_steps, Common.arith}
use Rattle.smi_value.proofs.HintNumber.{hexadecimal_three, hexadecimal_four}
use Rattle.smi_value.proofs.hint.octets.append_pair.Goals as goal

pub returns-then-high-lt16 : goal.returns-then-high-lt16
returns-then-high-lt16 c = grind (arith, common_steps, hexadecimal_three)

pub returns-else-high-lt16 : goal.returns-else-high-lt16
returns-else-high-lt16 c = grind (arith, common_steps, hexadecimal_four)

use Rattle.std.proofs.{Common.arith, lemmas.Grind.common_steps, lemmas.List.Folds.length-prefix_len}
use Rattle.smi_value.proofs.HintNumber.{prefix_is_digits}
use Rattle.smi_value.proofs.hint.number.split_digits.Goals as goal

pub returns-clause-digits : goal.returns-clause-digits
returns-clause-digits c = grind (arith, common_steps, length-prefix_len, prefix_is_digits)

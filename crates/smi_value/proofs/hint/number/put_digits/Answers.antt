use Rattle.std.proofs.{lemmas.Grind.common_steps, Common.arith, Common.drop_of_length-le}
use Rattle.smi_value.proofs.HintNumber.{all_left, written_before, written_last}
use Rattle.smi_value.proofs.hint.number.put_digits.Goals as goal

pub digits-init : goal.digits-init
digits-init c = record { within = omega arith; left = all_left c.args.base c.args.n _ (drop_of_length-le c.args.text.now {i = 64} (omega arith)) }

pub digits-preserved : goal.digits-preserved
digits-preserved c = grind (arith, common_steps, written_before)

pub returns-then-left-eq0-clause-digits : goal.returns-then-left-eq0-clause-digits
returns-then-left-eq0-clause-digits c = grind (arith, common_steps, written_last)

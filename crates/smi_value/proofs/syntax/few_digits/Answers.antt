use Rattle.std.proofs.{lemmas.Grind.common_steps, Common.arith, Common.◌-◌}
use Rattle.smi_value.proofs.SyntaxDigits.{one_stated, two_stated, three_stated}
use Rattle.smi_value.proofs.syntax.few_digits.Goals as goal

pub returns-in-48-to-57 : goal.returns-in-48-to-57
returns-in-48-to-57 c = one_stated c.args.text.now (c.from.result - 48) (omega arith) (omega arith, omega arith) (omega (arith, c.from.ensures))

pub returns-in-48-to-57-2 : goal.returns-in-48-to-57-2
returns-in-48-to-57-2 c = grind (arith, common_steps, two_stated)

pub returns-in-48-to-57-3 : goal.returns-in-48-to-57-3
returns-in-48-to-57-3 c = grind (arith, common_steps, three_stated)

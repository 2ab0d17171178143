use Rattle.std.proofs.{Common.arith, lemmas.Fmt.decimal_digit, lemmas.Grind.common_steps}
use Rattle.smi_show.proofs.Digits.{two_digits, digits_of_three}
use Rattle.smi_show.proofs.index.shown.put_short.Goals as goal

pub returns-then-number-lt10-clause-text : goal.returns-then-number-lt10-clause-text
returns-then-number-lt10-clause-text c = rw (decimal_digit c.args.number (omega arith)) (grind (arith, common_steps))

pub returns-then-tens-lt10-clause-text : goal.returns-then-tens-lt10-clause-text
returns-then-tens-lt10-clause-text c = rw (two_digits c.args.number (omega arith) (omega arith)) (grind (arith, common_steps))

pub returns-clause-text : goal.returns-clause-text
returns-clause-text c = rw (digits_of_three c.args.number (omega arith) (omega arith)) (grind (arith, common_steps))

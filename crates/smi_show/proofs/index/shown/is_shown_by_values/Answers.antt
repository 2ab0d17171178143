use Rattle.std.proofs.{Common.arith, lemmas.Grind.common_steps, lemmas.Bool.OnFalse_at, lemmas.Bool.OnFalse_from, lemmas.Bool.OnTrue_at}
use Rattle.smi_show.proofs.PlainIndex.{plain_index, numbers_alone}
use Rattle.smi_show.proofs.index.shown.is_shown_by_values.Goals as goal

pub returns-then-not-are_few_and_plain-clause-numbers : goal.returns-then-not-are_few_and_plain-clause-numbers
returns-then-not-are_few_and_plain-clause-numbers c = grind (arith, common_steps, OnFalse_from, numbers_alone, OnFalse_at)

pub returns-else-not-are_few_and_plain-clause-numbers : goal.returns-else-not-are_few_and_plain-clause-numbers
returns-else-not-are_few_and_plain-clause-numbers c = grind (arith, common_steps, OnFalse_from, plain_index, OnTrue_at)

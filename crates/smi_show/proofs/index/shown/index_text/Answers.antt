use Rattle.std.proofs.{Common.arith, lemmas.Grind.common_steps, lemmas.Bool.OnTrue_at, lemmas.Bool.OnFalse_at}
use Rattle.smi_show.proofs.IndexValues.{all_only, if_read}
use Rattle.smi_show.proofs.index.shown.index_text.Goals as goal

pub returns-then-is_shown_by_values : goal.returns-then-is_shown_by_values
returns-then-is_shown_by_values c = grind (arith, common_steps, if_read, OnTrue_at, all_only)

pub returns-else-is_shown_by_values : goal.returns-else-is_shown_by_values
returns-else-is_shown_by_values c = grind (arith, common_steps, OnFalse_at)

use Rattle.std.proofs.Common.{◌∙◌, ℕ, List, drop, length, ap, refl}
use Rattle.uses.proofs.CountedRows.{column}
use Rattle.uses.proofs.columns.column_of.Goals as goal

pub returns-in-len2-up-clause-some : goal.returns-in-len2-up-clause-some
returns-in-len2-up-clause-some c = column c.args.entry.now c.args.name.now c.split_at.result.1.now (c.if-not-is_below.ensures.0 refl)
    (c.split_at.ensures.back ∙ (ap (λ (size : ℕ). drop size c.as_slice.result.now) c.len.ensures.value
    ∙ ap (λ (numbers : List ℕ). drop (length c.args.entry.now) numbers) c.as_slice.ensures.value)) c.in-len2-up.len_at_least

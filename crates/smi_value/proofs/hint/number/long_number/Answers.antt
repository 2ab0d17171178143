use Rattle.std.proofs.{lemmas.Grind.common_steps, Common.◌<◌, Common.length, Common.arith}
use Rattle.smi_value.proofs.HintNumber.{value_more, value_above}
use Rattle.smi_value.proofs.hint.number.long_number.Goals as goal

pub returns-then-number-most-clause-none : goal.returns-then-number-most-clause-none
returns-then-number-most-clause-none c =
    let low : c.digits.octet-index < length c.split_digits.result.0.now = omega arith in
    let e = value_more c.split_digits.result.0.now c.digits.octet-index c.digits.number c.from.result low
    (c.split_digits.ensures.digits c.digits.octet-index low) c.digits.invariant.0 (omega (arith, c.from.ensures)) in
    let f = rw c.split_digits.ensures.prefix at e in
    value_above c.args.text.now c.digits.octet-index _ c.args.most f c.if-number-most.true

pub digits-preserved : goal.digits-preserved
digits-preserved c = grind (arith, common_steps, value_more)

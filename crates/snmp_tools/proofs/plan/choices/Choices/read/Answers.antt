use Rattle.std.proofs.Common.{◌+◌, ◌-◌, List, ℕ, arith, drop, length, refl, subst, take}
use Rattle.std.proofs.{lemmas.Grind.common_steps, lemmas.List.take_all, lemmas.Result.err_from_is_err_and}
use Rattle.snmp_tools.specs.{private.Planned.chosen, Letters.IsFirstUnknown}
use Rattle.snmp_tools.proofs.ChosenLetters.{ends, goes_on, none_read}
use Rattle.snmp_tools.proofs.plan.choices.Choices.read.Goals as goal

pub parts-init : goal.parts-init
parts-init c = grind (arith, common_steps, none_read)

pub parts-preserved : goal.parts-preserved
parts-preserved c =
    let text = c.as_bytes-letters.result.now in
    let digits = c.leading_digits_len-digits.ensures in
    record {
      within = grind (arith, common_steps, c.leading_digits_len-digits.ensures.within);
      read = goes_on c.args.bulk text c.parts.at c.leading_digits_len-digits.result (chosen c.parts.choices)
          (take (length text - (c.parts.at + 1)) (drop (c.parts.at + 1) text)) c.parts-test.true refl digits.within digits.digits digits.maximal
          c.parts.invariant.read (chosen c.in_ok-choices.choices) c.in_ok-choices.ensures.0 c.in_ok-choices.ensures.1;
    }

pub returns-in_err-choices : goal.returns-in_err-choices
returns-in_err-choices c =
    let text = c.as_bytes-letters.result.now in
    let digits = c.leading_digits_len-digits.ensures in
    let p = err_from_is_err_and c.from_residual.result c.from_residual.ensures.1 in
    let unknown = ends c.args.bulk text c.parts.at c.leading_digits_len-digits.result (chosen c.parts.choices)
    (take (length text - (c.parts.at + 1)) (drop (c.parts.at + 1) text)) c.parts-test.true refl digits.within digits.digits digits.maximal
    c.parts.invariant.read c.in_err-choices.field-0.0 c.in_err-choices.ensures in
    rw (p.1, p.2) (subst (λ (t : List ℕ). IsFirstUnknown c.args.bulk t c.in_err-choices.field-0.0) c.as_bytes-letters.ensures.value unknown)

pub returns : goal.returns
returns c = grind (arith, common_steps, take_all)

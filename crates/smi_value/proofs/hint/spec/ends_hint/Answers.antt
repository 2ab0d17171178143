use Rattle.std.proofs.{Common.arith, Common.◌≡◌, Common.false, Common.[], Common.refl, lemmas.Grind.common_steps}
use Rattle.smi_value.proofs.{Drafts.none_left, HintSpec.goes_on_first, HintSpec.goes_on_next, HintSpec.no_hint, HintSpec.at_end, HintSpec.first_some}
use Rattle.smi_value.proofs.hint.spec.ends_hint.Goals as goal

pub specs-init : goal.specs-init
specs-init c =
    let first = goes_on_next c.args.text.now c.args.text.now c.args.ahead.now false c.args.first.now (first_some c.args.text.now _ _ c.requires) c.requires
    (goes_on_first c.args.text.now) in
    rw c.takes_octets-ends_well.ensures first

pub returns-in_default : goal.returns-in_default
returns-in_default c = grind (arith, common_steps, no_hint)

pub specs-preserved : goal.specs-preserved
specs-preserved c = grind (arith, common_steps, goes_on_next)

pub returns : goal.returns
returns c =
    let none : c.specs.rest.now ≡ [] = none_left _ _ c.is_empty.ensures c.specs-test.false in
    let h = rw none at c.specs.invariant in
    (λ e. h.whole [] refl e, λ hint. at_end c.args.text.now c.specs.ends_well h hint.0 hint.1)

use Rattle.std.proofs.{lemmas.Grind.common_steps, Common.◌∙◌, Common.sym, Common.arith, Common.length-append}
use Rattle.smi_text.specs.private.Grammar.{balanced_tokens}
use Rattle.smi_text.proofs.Loops.{depth_after-le, balanced_tokens-next, balanced_tokens-open, balanced_tokens-outside, balanced_tokens-closed}
use Rattle.smi_text.proofs.Many.{with_prefix_nil}
use Rattle.smi_text.proofs.parser.Parser.balanced_tokens.Goals as goal
use Rattle.smi_text.proofs.parser.Parser.balanced_tokens.Goals.{in_default-via-in-Some+else-not-is_outside, in_default-via-in-None+else-depth-gt0}

pub each-init : goal.each-init
each-init c = rw (c.list-tokens.ensures) (omega arith, with_prefix_nil _)

pub each-preserved : goal.each-preserved
each-preserved c = grind (arith, common_steps, balanced_tokens-next, depth_after-le, length-append)

pub returns-in-None : goal.returns-in-None
unfolding balanced_tokens
returns-in-None c = λ h. sym c.each.invariant.1 ∙ balanced_tokens-open _ _ _ c.if-depth-gt0.true c.in-None.ensures.none

pub returns-in_default : goal.returns-in_default
unfolding balanced_tokens
returns-in_default c =
    grind (
      arith,
      common_steps,
      in_default-via-in-Some+else-not-is_outside,
      balanced_tokens-outside,
      in_default-via-in-None+else-depth-gt0,
      balanced_tokens-closed,
    )

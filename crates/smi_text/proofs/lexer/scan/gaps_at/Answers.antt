use Rattle.std.proofs.{lemmas.Grind.common_steps, lemmas.Bool.ne_eqb, lemmas.List.take_rest, Common.arith, Common.length-drop}
use Rattle.smi_text.proofs.Gaps.{skips_newline, skips_other, skips_comment, gaps_end, gaps_stop, skips_run}
use Rattle.smi_text.proofs.Scans.{begins_at, begins_past}
use Rattle.smi_text.proofs.lexer.scan.gaps_at.Goals as goal
use Rattle.smi_text.proofs.lexer.scan.gaps_at.Goals.{else-text-n-eq45-via-then-text-n-eq45+then-n-text+else-text-n-eq45-2}
use Rattle.smi_text.proofs.lexer.scan.gaps_at.Goals.{else-text-n-eq45-via-then-text-n-eq45+else-n-text, else-text-n-eq45-via-else-text-n-eq45}

pub gaps-preserved-then-text-n-eq32 : goal.gaps-preserved-then-text-n-eq32
gaps-preserved-then-text-n-eq32 c = grind (arith, common_steps, skips_run)

pub gaps-preserved-then-text-n-eq10 : goal.gaps-preserved-then-text-n-eq10
gaps-preserved-then-text-n-eq10 c = grind (arith, common_steps, skips_newline)

pub gaps-preserved-then-is_blank : goal.gaps-preserved-then-is_blank
gaps-preserved-then-is_blank c = grind (arith, common_steps, skips_other)

pub gaps-preserved : goal.gaps-preserved
gaps-preserved c = grind (arith, common_steps, skips_comment, take_rest, length-drop)

pub returns-after-gaps-clause-all : goal.returns-after-gaps-clause-all
returns-after-gaps-clause-all c = gaps_end c.args.text.now c.gaps.n c.gaps-test.false

-- no gap begins at offset `n`: the octet there isn't blank, and isn't a hyphen before another hyphen
pub returns-else-text-n-eq45-clause-all : goal.returns-else-text-n-eq45-clause-all
returns-else-text-n-eq45-clause-all c = grind (
  arith,
  common_steps,
  gaps_stop,
  else-text-n-eq45-via-then-text-n-eq45+then-n-text+else-text-n-eq45-2,
  begins_at,
  ne_eqb,
  else-text-n-eq45-via-then-text-n-eq45+else-n-text,
  begins_past,
  else-text-n-eq45-via-else-text-n-eq45,
)

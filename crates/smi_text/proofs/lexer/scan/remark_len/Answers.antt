use Rattle.std.proofs.{Common.arith, lemmas.Grind.common_steps, lemmas.Bool.ne_eqb}
use Rattle.smi_text.proofs.Scans.{remark_step, begins_at, begins_past}
use Rattle.smi_text.proofs.lexer.scan.remark_len.Goals as goal
use Rattle.smi_text.proofs.lexer.scan.remark_len.Goals.{else-octet-eq45-via-then-octet-eq45+then-n-text+else-text-n-eq45}
use Rattle.smi_text.proofs.lexer.scan.remark_len.Goals.{else-octet-eq45-via-then-octet-eq45+else-n-text, else-octet-eq45-via-else-octet-eq45}

-- the octet continues a remark: it isn't a newline, and isn't a hyphen before another hyphen
pub octets-preserved : goal.octets-preserved
octets-preserved c = grind (
  arith,
  common_steps,
  remark_step,
  else-octet-eq45-via-then-octet-eq45+then-n-text+else-text-n-eq45,
  begins_at,
  ne_eqb,
  else-octet-eq45-via-then-octet-eq45+else-n-text,
  begins_past,
  else-octet-eq45-via-else-octet-eq45,
)

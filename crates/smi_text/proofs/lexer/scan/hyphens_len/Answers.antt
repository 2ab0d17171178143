use Rattle.std.proofs.{Common.eq-eqb, lemmas.Bool.ne_eqb}
use Rattle.smi_text.specs.lexer.Lexeme.{is_hyphen}
use Rattle.smi_text.proofs.Scans.{passing_step, passing_stop}
use Rattle.smi_text.proofs.lexer.scan.hyphens_len.Goals as goal

pub octets-preserved : goal.octets-preserved
octets-preserved c = passing_step is_hyphen c.args.text.now c.octets.n c.octets-test.true (eq-eqb _ _ c.if-text-n-eq45.true) c.octets.invariant

pub returns-else-text-n-eq45 : goal.returns-else-text-n-eq45
returns-else-text-n-eq45 c = passing_stop is_hyphen c.args.text.now c.octets.n c.octets-test.true (ne_eqb _ _ c.if-text-n-eq45.false) c.octets.invariant

use Rattle.std.proofs.{Common.arith, Common.sym, Common.◌∙◌, lemmas.Grind.common_steps}
use Rattle.std.specs.Char.{is_ascii_digit}
use Rattle.smi_text.proofs.Scans.{passing_step, passing_stop}
use Rattle.smi_text.proofs.lexer.scan.digits_len.Goals as goal

pub octets-preserved : goal.octets-preserved
octets-preserved c = passing_step is_ascii_digit c.args.text.now c.octets.n c.octets-test.true (sym c.is_ascii_digit.ensures.value
    ∙ c.if-is_ascii_digit.true) c.octets.invariant

pub returns-else-is_ascii_digit : goal.returns-else-is_ascii_digit
returns-else-is_ascii_digit c = grind (arith, common_steps, passing_stop)

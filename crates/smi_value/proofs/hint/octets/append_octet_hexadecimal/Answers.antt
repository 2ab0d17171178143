use Rattle.std.proofs.{lemmas.Grind.common_steps, Common.arith, Common.false, lemmas.Fmt.hex_one_digit, lemmas.Fmt.hex_two_digits}
use Rattle.smi_value.proofs.hint.octets.append_octet_hexadecimal.Goals as goal

pub returns-then-octet-lt16 : goal.returns-then-octet-lt16
returns-then-octet-lt16 c = rw (hex_one_digit false c.args.octet (omega arith)) (rw c.digit.ensures at c.octet.ensures)

pub returns-else-octet-lt16 : goal.returns-else-octet-lt16
returns-else-octet-lt16 c = grind (arith, common_steps, hex_two_digits)

use Rattle.std.proofs.{Common.arith, lemmas.Grind.common_steps}
use Rattle.smi_text.proofs.Lexical.{sign_read}
use Rattle.smi_text.proofs.parser.Parser.sign.Goals as goal

pub returns-in-Some-clause-gives : goal.returns-in-Some-clause-gives
returns-in-Some-clause-gives c = grind (arith, common_steps, sign_read)

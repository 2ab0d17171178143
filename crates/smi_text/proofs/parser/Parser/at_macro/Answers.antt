use Rattle.std.proofs.{Common.arith, lemmas.Grind.common_steps}
use Rattle.smi_text.proofs.ProductionLaws.{begins_macro}
use Rattle.smi_text.proofs.parser.Parser.at_macro.Goals as goal

pub returns-then-eq : goal.returns-then-eq
returns-then-eq c = grind (arith, common_steps, begins_macro)

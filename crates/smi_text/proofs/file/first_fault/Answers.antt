use Rattle.std.proofs.{Common.arith, Common.ap, lemmas.Grind.common_steps}
use Rattle.smi_text.specs.lexer.Token.{first_fault}
use Rattle.smi_text.proofs.file.first_fault.Goals as goal

pub each-init : goal.each-init
each-init c = (c.new-item-items.result, c.new-item-items.ensures.tokens, ap first_fault c.into_iter-item-iterator.ensures.into_iter_gives)

pub each-preserved : goal.each-preserved
each-preserved c = grind (arith, common_steps)

pub returns-in-Err : goal.returns-in-Err
returns-in-Err c = grind (arith, common_steps)

use Rattle.std.proofs.{Common.arith, lemmas.Grind.common_steps, lemmas.Result.err_from_is_err_and}
use Rattle.smi_text.proofs.FileSteps.{has_modules-start, has_modules-done, has_modules-shorter, has_modules-next, has_modules-fault}
use Rattle.smi_text.proofs.parser.Parser.modules.Goals as goal

pub each-init : goal.each-init
each-init c = has_modules-start _ _ c.list-modules.ensures

pub each-smaller : goal.each-smaller
each-smaller c = has_modules-shorter _ _ _ c.each.invariant _ _ c.in_ok-module.ensures.ok

pub each-preserved : goal.each-preserved
each-preserved c = rw (c.in_ok-keep.ensures.ok) (has_modules-next _ _ _ c.each.invariant _ _ c.in_ok-module.ensures.ok)

pub returns-clause-ok : goal.returns-clause-ok
returns-clause-ok c = has_modules-done _ _ _ c.each.invariant c.each-test.ensures

pub returns-in_err-module-clause-fault : goal.returns-in_err-module-clause-fault
returns-in_err-module-clause-fault c = grind (arith, common_steps, err_from_is_err_and, has_modules-fault)

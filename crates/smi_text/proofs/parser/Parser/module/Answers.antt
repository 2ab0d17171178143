use Rattle.std.proofs.{Common.arith, lemmas.Grind.common_steps, lemmas.Result.err_from_is_err_and}
use Rattle.smi_text.specs.{private.Format.before, private.Format.lower, private.Format.pair, private.Format.shaped, private.Grammar.module_text}
use Rattle.smi_text.proofs.FileSteps.{module-stop, module-defs}
use Rattle.smi_text.proofs.parser.Parser.module.Goals as goal

pub returns-clause-ok : goal.returns-clause-ok
unfolding module_text shaped pair before lower
returns-clause-ok c = grind (arith, common_steps)

pub returns-in_err-head-clause-fault : goal.returns-in_err-head-clause-fault
unfolding module_text shaped pair before lower
returns-in_err-head-clause-fault c = grind (arith, common_steps, err_from_is_err_and, module-stop)

pub returns-in_err-defs-clause-fault : goal.returns-in_err-defs-clause-fault
returns-in_err-defs-clause-fault c =
    let p = err_from_is_err_and c.from_residual-in_err-defs.result c.from_residual-in_err-defs.ensures.1 in
    rw (p.1, p.2) (module-defs _ _ c.in_ok-head.head c.in_ok-head.ensures _ c.in_err-defs.ensures.fault)

pub returns-in_err-word-clause-fault : goal.returns-in_err-word-clause-fault
unfolding module_text shaped pair before lower
returns-in_err-word-clause-fault c = grind (arith, common_steps, err_from_is_err_and, module-stop)

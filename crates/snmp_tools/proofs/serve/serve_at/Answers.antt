use Rattle.std.proofs.{Common.arith, Common.inl, Common.refl, lemmas.Grind.common_steps}
use Rattle.snmp_tools.proofs.{Texts.printed, Texts.stopped, Wholes.outcome_err}
use Rattle.snmp_tools.proofs.serve.serve_at.Goals as goal

pub returns-in_err-listening-clause-served : goal.returns-in_err-listening-clause-served
returns-in_err-listening-clause-served g c = inl (inl (refl, outcome_err _ _ c.from_residual.ensures.1), refl)

pub returns-in_err-print_text-clause-served : goal.returns-in_err-print_text-clause-served
returns-in_err-print_text-clause-served g c = grind (arith, common_steps, stopped, outcome_err)

pub returns-in_err-counts-clause-served : goal.returns-in_err-counts-clause-served
returns-in_err-counts-clause-served g c = grind (arith, common_steps, printed, outcome_err)

pub returns-clause-served : goal.returns-clause-served
returns-clause-served g c = grind (arith, common_steps, printed)

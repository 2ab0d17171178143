-- If memory for the lines of warnings runs out, then `load_tree` ensures its clauses `refused` and `only`.
use Rattle.std.proofs.{Common.arith, lemmas.Grind.common_steps, lemmas.Result.err_from_is_err_and}
use Rattle.snmp_tools.proofs.load.load_tree.Goals as goal

pub returns-in_err-lines-clause-refused : goal.returns-in_err-lines-clause-refused
returns-in_err-lines-clause-refused g c = grind (arith, common_steps, err_from_is_err_and)

pub returns-in_err-lines-clause-only : goal.returns-in_err-lines-clause-only
returns-in_err-lines-clause-only g c = grind (arith, common_steps, err_from_is_err_and)

use Rattle.std.proofs.{Common.arith, lemmas.Grind.common_steps}
use Rattle.smi_value.proofs.HintSpec.{number_kept}
use Rattle.smi_value.proofs.hint.Hint.is_number.Goals as goal

pub returns-in-Number-clause-true_of_numbers : goal.returns-in-Number-clause-true_of_numbers
returns-in-Number-clause-true_of_numbers c = grind (arith, common_steps, number_kept)

pub returns-in-Number-clause-false_of_octets : goal.returns-in-Number-clause-false_of_octets
returns-in-Number-clause-false_of_octets c = grind (arith, common_steps, number_kept)

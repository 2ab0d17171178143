use Rattle.std.proofs.{Common.arith, lemmas.Grind.common_steps}
use Rattle.smi_value.proofs.HintSpec.{number_kept, octets_kept}
use Rattle.smi_value.proofs.hint.Hint.append.Goals as goal

pub unreachable-requires : goal.unreachable-requires
unreachable-requires c = grind (arith, common_steps, octets_kept)

pub unreachable-requires-in-Number-form-2 : goal.unreachable-requires-in-Number-form-2
unreachable-requires-in-Number-form-2 c = grind (arith, common_steps, number_kept)

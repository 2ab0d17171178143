use Rattle.std.proofs.{Common.arith, lemmas.Grind.common_steps}
use Rattle.smi_show.proofs.Parted.{module_before, no_colon_outside}
use Rattle.smi_show.proofs.name.cut.cut_module.Goals as goal

pub returns-in_err-home : goal.returns-in_err-home
returns-in_err-home c = grind (arith, common_steps, no_colon_outside)

pub returns-in-58 : goal.returns-in-58
returns-in-58 c = grind (arith, common_steps, module_before)

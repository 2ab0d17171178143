use Rattle.std.proofs.{Common.arith, lemmas.Grind.common_steps}
use Rattle.snmp_tools.proofs.plan.choices.Choices.of.Goals as goal

pub returns-in-Walk : goal.returns-in-Walk
returns-in-Walk c = grind (arith, common_steps)

use Rattle.std.proofs.{Common.arith, lemmas.Grind.common_steps}
use Rattle.snmp_walk.proofs.ReplyRows.{read_leaving, read_going, read_falling}
use Rattle.snmp_walk.proofs.walk_core.WalkCore.read_next.Goals as goal

pub returns-in-GoesOn-2 : goal.returns-in-GoesOn-2
returns-in-GoesOn-2 c = grind (arith, common_steps, read_going)

pub returns-in-Leaves : goal.returns-in-Leaves
returns-in-Leaves c = grind (arith, common_steps, read_leaving)

pub returns-in-Falls : goal.returns-in-Falls
returns-in-Falls c = grind (arith, common_steps, read_falling)

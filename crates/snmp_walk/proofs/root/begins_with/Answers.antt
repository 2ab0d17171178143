use Rattle.std.proofs.{Common.arith, lemmas.Grind.common_steps}
use Rattle.snmp_walk.proofs.Names.{below_decided}
use Rattle.snmp_walk.proofs.root.begins_with.Goals as goal

pub returns : goal.returns
returns c = grind (arith, common_steps, below_decided)

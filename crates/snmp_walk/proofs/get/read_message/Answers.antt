use Rattle.std.proofs.{Common.arith, lemmas.Grind.common_steps}
use Rattle.snmp_walk.proofs.GetNames.{for_length, answered_all}
use Rattle.snmp_walk.proofs.get.read_message.Goals as goal

pub read_rows-requires : goal.read_rows-requires
read_rows-requires c = grind (arith, common_steps, for_length)

pub returns : goal.returns
returns c = grind (arith, common_steps, common_steps, answered_all)

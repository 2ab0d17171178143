use Rattle.std.proofs.{Common.arith, lemmas.Grind.common_steps}
use Rattle.snmp_walk.proofs.MemoryLinks.{views_more}
use Rattle.snmp_walk.proofs.memory.MemoryLink.changing.Goals as goal

pub tables-preserved : goal.tables-preserved
tables-preserved c = grind (arith, common_steps, views_more)

use Rattle.std.proofs.{Common.arith, lemmas.Grind.common_steps}
use Rattle.snmp_walk.proofs.Arenas.{cut-push}
use Rattle.snmp_walk.proofs.arena.Arena.push.Goals as goal

pub returns-clause-added : goal.returns-clause-added
returns-clause-added c = grind (arith, common_steps, cut-push)

use Rattle.std.proofs.{lemmas.Grind.common_steps, Common.arith}
use Rattle.snmp_walk.proofs.memory.MemoryLink.reserve.Goals as goal

pub returns-clause-kept : goal.returns-clause-kept
returns-clause-kept c = grind (arith, common_steps)

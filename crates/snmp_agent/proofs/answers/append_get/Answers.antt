use Rattle.std.proofs.{Common.arith, Common.unwrap_or, lemmas.Grind.common_steps}
use Rattle.snmp_agent.proofs.answers.append_get.Goals as goal

pub returns-in-Some : goal.returns-in-Some
returns-in-Some c = grind (arith, common_steps, unwrap_or)

pub append_exception-requires : goal.append_exception-requires
append_exception-requires c = grind (arith, common_steps)

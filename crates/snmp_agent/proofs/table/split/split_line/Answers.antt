use Rattle.std.proofs.{Common.arith, lemmas.Grind.common_steps}
use Rattle.snmp_agent.proofs.Splits.{lines_first, lines_last}
use Rattle.snmp_agent.proofs.table.split.split_line.Goals as goal

pub returns-in-Some-clause-lines : goal.returns-in-Some-clause-lines
returns-in-Some-clause-lines c = grind (arith, common_steps, lines_first)

pub returns-in-None-clause-lines : goal.returns-in-None-clause-lines
returns-in-None-clause-lines c = lines_last c.args.text.now c.in-None.ensures c.requires

use Rattle.snmp_agent.proofs.GoodLines.{table_of_lines}
use Rattle.snmp_agent.proofs.laws.table_of_lines.Goals as goal

pub returns : goal.returns
returns c = table_of_lines c.names.ensures.at_most_one

use Rattle.snmp_agent.proofs.Unique.{one_view}
use Rattle.snmp_agent.proofs.laws.one_table.Goals as goal

pub returns : goal.returns
returns c = one_view

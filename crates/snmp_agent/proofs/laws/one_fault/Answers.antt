use Rattle.snmp_agent.proofs.OneFault.{one_fault}
use Rattle.snmp_agent.proofs.laws.one_fault.Goals as goal

pub returns : goal.returns
returns c = one_fault

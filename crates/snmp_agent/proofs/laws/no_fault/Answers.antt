use Rattle.snmp_agent.proofs.Faultless.{no_fault}
use Rattle.snmp_agent.proofs.laws.no_fault.Goals as goal

pub returns : goal.returns
returns c = no_fault

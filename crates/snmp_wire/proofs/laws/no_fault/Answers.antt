use Rattle.snmp_wire.proofs.Faults.{no_fault_of}
use Rattle.snmp_wire.proofs.laws.no_fault.Goals as goal

pub returns : goal.returns
returns c = λ message octets fault h f. no_fault_of message octets fault h f

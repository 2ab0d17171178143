use Rattle.snmp_walk.proofs.Names.{below_decided}
use Rattle.snmp_walk.proofs.laws.names_below.Goals as goal

pub returns : goal.returns
returns c = λ name root. below_decided root name

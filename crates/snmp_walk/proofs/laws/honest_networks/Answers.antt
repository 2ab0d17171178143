use Rattle.snmp_walk.proofs.Networks.{replies_over}
use Rattle.snmp_walk.proofs.laws.honest_networks.Goals as goal

pub returns : goal.returns
returns g c = record { replies = λ agents walker run faithful served. replies_over agents walker run faithful served }

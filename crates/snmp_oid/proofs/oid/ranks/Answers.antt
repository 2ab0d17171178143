use Rattle.snmp_oid.proofs.Rank.{ordered_as_ranks}
use Rattle.snmp_oid.proofs.oid.ranks.Goals as goal

pub returns : goal.returns
returns c = ordered_as_ranks

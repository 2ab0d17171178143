use Rattle.snmp_oid.proofs.Identifiers.{ordered_less}
use Rattle.snmp_oid.proofs.oid.order.Goals as goal

pub returns-clause-less : goal.returns-clause-less
returns-clause-less c = ordered_less

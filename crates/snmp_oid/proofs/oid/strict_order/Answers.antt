use Rattle.snmp_oid.proofs.Identifiers.{precedes_asymmetric, precedes_transitive, precedes_total}
use Rattle.snmp_oid.proofs.oid.strict_order.Goals as goal

pub returns : goal.returns
returns c = record { asymmetric = precedes_asymmetric; transitive = precedes_transitive; total = precedes_total }

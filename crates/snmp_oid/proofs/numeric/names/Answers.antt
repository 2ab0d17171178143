use Rattle.snmp_oid.proofs.{ParseState.one_name, Written.written_is_name}
use Rattle.snmp_oid.proofs.numeric.names.Goals as goal

pub returns : goal.returns
returns c = record { written_is_named = written_is_name; at_most_one = one_name }

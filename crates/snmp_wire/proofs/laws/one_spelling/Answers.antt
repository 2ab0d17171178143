use Rattle.snmp_wire.proofs.MessageLaws.{one_message}
use Rattle.snmp_wire.proofs.laws.one_spelling.Goals as goal

pub returns : goal.returns
returns c = one_message

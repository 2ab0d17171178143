use Rattle.snmp_wire.proofs.MessageElements.{message_of_type}
use Rattle.snmp_wire.proofs.laws.encoding_is_of_type.Goals as goal

pub returns : goal.returns
returns c = message_of_type

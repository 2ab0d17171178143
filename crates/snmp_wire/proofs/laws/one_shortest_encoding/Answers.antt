use Rattle.snmp_wire.proofs.MessageElements.{only_shortest, written_is_shortest}
use Rattle.snmp_wire.proofs.laws.one_shortest_encoding.Goals as goal

pub returns : goal.returns
returns c = record { written = written_is_shortest; one = only_shortest }

use Rattle.snmp_net.proofs.Words.{address_none, address_only}
use Rattle.snmp_net.proofs.address.UdpAddress.read.Goals as goal

pub returns-clause-only : goal.returns-clause-only
returns-clause-only c = address_only c.args.word.now c.port_of_host.result c.port_of_host.ensures.only

pub returns-clause-none : goal.returns-clause-none
returns-clause-none c = address_none c.args.word.now c.port_of_host.result c.port_of_host.ensures.none

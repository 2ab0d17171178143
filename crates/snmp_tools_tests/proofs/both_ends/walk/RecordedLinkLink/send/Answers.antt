use Rattle.std.proofs.Common.{◌∙◌, ap}
use Rattle.snmp_walk.specs.Network.{of_walk}
use Rattle.snmp_tools_tests.proofs.Records.{sent_log}
use Rattle.snmp_tools_tests.proofs.both_ends.walk.RecordedLinkLink.send.Goals as goal

pub returns-in-Ok-clause-sends : goal.returns-in-Ok-clause-sends
returns-in-Ok-clause-sends c = ap of_walk c.in-Ok.ensures.sent ∙ sent_log c.args.self.now.network.run c.args.datagram.now

use Rattle.std.proofs.Common.{◌∙◌, ap}
use Rattle.snmp_agent.specs.private.Answering.{add, put, held}
use Rattle.snmp_agent.proofs.room.ReplyBindings.append_row.Goals as goal

pub returns : goal.returns
unfolding add
returns c = c.append_octets.ensures ∙ ap (put (held c.args.self c.args.out.now)) c.octets.ensures.encoding

use Rattle.std.proofs.Common.{◌∙◌}
use Rattle.snmp_agent.proofs.agent.reply.Goals as goal

pub paired_reply-requires-clause-other : goal.paired_reply-requires-clause-other
paired_reply-requires-clause-other c = λ is. c.in_default.not-GetBulkRequest (c.kind.ensures ∙ is)

use Rattle.snmp_agent.proofs.OneReply.{one_reply, no_reply}
use Rattle.snmp_agent.proofs.laws.one_reply.Goals as goal

pub returns : goal.returns
returns c = record {
  one = one_reply c.one_answer.ensures.get c.one_answer.ensures.get_next c.one_answer.ensures.get_bulk c.one_spelling.ensures;
  none = no_reply c.one_answer.ensures.get c.one_answer.ensures.get_next c.one_answer.ensures.get_bulk c.one_spelling.ensures;
}

use Rattle.snmp_agent.proofs.ShortestReply.{is_shortest, only_shortest}
use Rattle.snmp_agent.proofs.laws.shortest_reply.Goals as goal

pub returns : goal.returns
returns c = record {
  shortest = is_shortest c.message_sizes.ensures c.element_sizes.ensures c.encoding_is_of_type.ensures c.one_shortest_encoding.ensures;
  only = only_shortest c.message_sizes.ensures c.element_sizes.ensures c.encoding_is_of_type.ensures c.one_shortest_encoding.ensures;
}

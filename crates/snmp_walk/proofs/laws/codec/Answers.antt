use Rattle.snmp_walk.proofs.laws.codec.Goals as goal

pub returns : goal.returns
returns c = record {
  one = c.one_spelling.ensures;
  read = c.strict_is_read.ensures;
  strict = c.encoding_is_strict.ensures;
  pieces = c.pieces.ensures;
  sizes = c.message_sizes.ensures;
  elements = c.element_sizes.ensures;
  reply = λ agent datagram octets view size r.
      c.strict_is_read.ensures r.response octets (c.shortest_reply.ensures.shortest agent datagram octets view size r).strict;
  less = λ o p. (c.order.ensures.less o p).0;
  got = λ view o. let one = c.one_answer.ensures.get view o in (one.0, one.1);
}

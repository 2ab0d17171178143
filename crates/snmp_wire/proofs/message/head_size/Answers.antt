use Rattle.std.proofs.Common.{rules}
use Rattle.snmp_wire.proofs.message.head_size.Goals as goal

pub returns-clause-range : goal.returns-clause-range
returns-clause-range c bindings are few = record {
  version = search rules;
  community = (c.text_element_size-community.ensures.octets, c.requires.community);
  id = search rules;
  a = search rules;
  b = search rules;
  bindings = are;
  total = few;
}

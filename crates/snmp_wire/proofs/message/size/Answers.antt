use Rattle.snmp_wire.specs.{Message.var_binds, Parts.parts_message}
use Rattle.snmp_wire.proofs.{WrittenMessages.sizes_message, MessageElements.shortest_size}
use Rattle.snmp_wire.proofs.message.size.Goals as goal

pub returns-clause-value : goal.returns-clause-value
returns-clause-value c = sizes_message
    (parts_message c.args.parts.now) c.head_size.result c.bindings_size-total.result c.bindings_size-total.ensures.value c.head_size.ensures.value

pub returns-clause-shortest : goal.returns-clause-shortest
returns-clause-shortest c octets is = shortest_size c.one_shortest_encoding.ensures (parts_message c.args.parts.now) _ (returns-clause-value c) octets
    (c.head_size.ensures.range (var_binds c.args.parts.now.bindings.now) c.bindings_size-total.ensures.range c.requires.total) is

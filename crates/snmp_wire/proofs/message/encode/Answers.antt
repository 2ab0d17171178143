use Rattle.std.proofs.Common.{arith, refl}
use Rattle.snmp_wire.specs.{Message.var_binds, Parts.parts_message}
use Rattle.snmp_wire.proofs.{WrittenBindings.encoded, WrittenMessages.sizes_message, WrittenMessages.writes_message, MessageElements.prefix_is_shortest}
use Rattle.snmp_wire.proofs.MessageElements.{strict_is_read}
use Rattle.snmp_wire.proofs.message.encode.Goals as goal

pub returns-then-out-size-clause-variant : goal.returns-then-out-size-clause-variant
returns-then-out-size-clause-variant c =
    let size = sizes_message (parts_message c.args.parts.now) c.head_size.result c.bindings_size-total.result c.bindings_size-total.ensures.value
    c.head_size.ensures.value in
    (λ impossible. cc, λ fits. absurd (omega (arith, size, fits)))

pub returns : goal.returns
returns c =
    let m = parts_message c.args.parts.now in
    let size = sizes_message m c.head_size.result c.bindings_size-total.result c.bindings_size-total.ensures.value c.head_size.ensures.value in
    let written =
    encoded (writes_message m c.bindings_size-total.result c.bindings_size-total.ensures.value c.put_bindings-head.ensures c.put_head.ensures) size in
    let range = c.head_size.ensures.range (var_binds c.args.parts.now.bindings.now) c.bindings_size-total.ensures.range c.requires.total in
    let shortest = prefix_is_shortest c.one_shortest_encoding.ensures m _ _ _ size written range in
    record {
      some = (size, written);
      shortest = shortest;
      read = strict_is_read m _ shortest.strict;
      variant = (λ yes. omega (arith, size), λ fits. refl);
      unchanged = tt;
    }

use Rattle.snmp_wire.specs.Message.{datum}
use Rattle.snmp_wire.proofs.WrittenBindings.{sizes_long, sizes_short}
use Rattle.snmp_wire.proofs.binding.pair_size.Goals as goal

pub returns-then-name-value-lt124-clause-value : goal.returns-then-name-value-lt124-clause-value
returns-then-name-value-lt124-clause-value c = sizes_short _ _ (record { name = c.args.name.now; value = datum c.args.value.now })
    c.identifier_size-name.ensures.value c.content_size-value.ensures.value c.if-name-value-lt124.true

pub returns-clause-value : goal.returns-clause-value
returns-clause-value c = sizes_long _ _ _ _ _ (record { name = c.args.name.now; value = datum c.args.value.now })
    c.identifier_size-name.ensures.value c.content_size-value.ensures.value c.header_size.ensures.value c.header_size-2.ensures.value
    c.header_size-3.ensures.value

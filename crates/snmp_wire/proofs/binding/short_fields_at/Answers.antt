use Rattle.snmp_wire.proofs.MessageLaws.{short_fields}
use Rattle.snmp_wire.proofs.binding.short_fields_at.Goals as goal

pub returns-else-name_size-value_size : goal.returns-else-name_size-value_size
returns-else-name_size-value_size c = short_fields _ _ _ _ _ _ _ c.from-size.result c.from-name_size.result c.from-value_size.result
    c.split_at.ensures.back c.split_at-in-len4-up.ensures.front c.split_at-in-len4-up.ensures.back c.split_at-in-len4-up-2.ensures.back
    c.split_at-in-len4-up-3.ensures.front c.split_at-in-len4-up-3.ensures.back c.in-len4-up.len_at_least c.if-outer-ne-SEQUENCE.false
    c.if-inner-ne-OBJECT_IDENTIFIER.false c.from-size.ensures c.from-name_size.ensures
    c.if-size-ge128.false c.if-elements-size.false c.from-value_size.ensures c.if-name_size-value_size.false

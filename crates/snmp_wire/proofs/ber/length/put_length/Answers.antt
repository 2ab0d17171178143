use Rattle.std.proofs.Common.{ap, sym, ◌∙◌, ◌∷◌, ◌+◌}
use Rattle.snmp_wire.specs.ber.Canon.{octets}
use Rattle.snmp_wire.proofs.{NumberSizes.canon_length_long, WritingLaws.writes_same, WritingLaws.writes_then}
use Rattle.snmp_wire.proofs.ber.length.put_length.Goals as goal

pub returns-else-size-lt128 : goal.returns-else-size-lt128
returns-else-size-lt128 c = writes_same (writes_then c.put_octets-start.ensures c.put_octet-else-size-lt128.ensures)
    (ap (λ count. (128 + count) ∷ octets count c.args.size) c.digits_size-count.ensures.value ∙ sym (canon_length_long c.args.size c.if-size-lt128.false))

use Rattle.std.proofs.Common.{ap, sym, ◌∙◌}
use Rattle.snmp_wire.specs.ber.Canon.{octets}
use Rattle.snmp_wire.proofs.{NumberSizes.one_octet, NumberSizes.two_octets, WritingLaws.writes_same, WritingLaws.writes_then}
use Rattle.snmp_wire.proofs.ber.number.put_octets.Goals as goal

pub returns-in-1 : goal.returns-in-1
returns-in-1 c = writes_same c.put_octet.ensures (one_octet c.args.number ∙ ap (λ count. octets count c.args.number) (sym c.in-1.is))

pub returns-in-2 : goal.returns-in-2
returns-in-2 c = writes_same (writes_then c.put_octet-last.ensures c.put_octet-in-2.ensures)
    (two_octets c.args.number ∙ ap (λ count. octets count c.args.number) (sym c.in-2.is))

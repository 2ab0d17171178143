use Rattle.std.proofs.{Common.◌/◌, Common.sym, Common.arith}
use Rattle.snmp_wire.proofs.WrittenIdentifiers.{one_septet, subidentifier_short, subidentifier_three}
use Rattle.snmp_wire.proofs.WrittenIdentifiers.{subidentifier_two, two_septets, writes_subidentifier}
use Rattle.snmp_wire.proofs.WritingLaws.{writes_same, writes_then}
use Rattle.snmp_wire.proofs.ber.identifier.put_subidentifier.Goals as goal

pub returns-then-number-lt128 : goal.returns-then-number-lt128
returns-then-number-lt128 c = writes_same c.put_octet.ensures (sym (subidentifier_short c.args.number c.if-number-lt128.true))

pub returns-then-number-lt16384 : goal.returns-then-number-lt16384
returns-then-number-lt16384 c =
    writes_subidentifier c.args.number 2 (subidentifier_two c.args.number c.if-number-lt128.false c.if-number-lt16384.true) c.put_octet-last.ensures
    (writes_same c.put_octet-then-number-lt16384.ensures (one_septet (c.args.number / 128) (omega (arith, c.if-number-lt16384.true))))

pub returns-then-number-lt2097152 : goal.returns-then-number-lt2097152
returns-then-number-lt2097152 c =
    writes_subidentifier c.args.number 3 (subidentifier_three c.args.number c.if-number-lt16384.false c.if-number-lt2097152.true) c.put_octet-last.ensures
    (writes_same (writes_then c.put_octet-mid.ensures c.put_octet-then-number-lt2097152.ensures)
    (two_septets (c.args.number / 128) (omega (arith, c.if-number-lt2097152.true))))

pub returns : goal.returns
returns c = writes_subidentifier c.args.number c.septets_size.result c.septets_size.ensures.value c.put_octet-last.ensures c.put_septets.ensures

use Rattle.std.proofs.{Common.◌-◌, Common.◌++◌, Common.length, Common.sym, Common.ap, Common.◌∙◌, Common.arith}
use Rattle.snmp_wire.specs.ber.Canon.{canon_subidentifier, eight_from}
use Rattle.snmp_wire.proofs.WritingLaws.{writes_same, writes_then}
use Rattle.snmp_wire.proofs.WrittenIdentifiers.{length-canon_subidentifier, nine, nine_counted, none_before}
use Rattle.snmp_wire.proofs.ber.identifier.put_numbers.Goals as goal

pub returns-then-count-eq9 : goal.returns-then-count-eq9
returns-then-count-eq9 c =
    let numbers = c.args.numbers.now in
    let last = eight_from numbers (length numbers - 9) ++ canon_subidentifier c.from.result in
    writes_same (writes_then c.put_subidentifier-last.ensures c.put_eight-start.ensures)
    (sym (ap (λ prefix. prefix ++ last) (none_before numbers c.if-count-eq9.true))
    ∙ nine numbers c.from.result c.if-count-lt9.false (c.are_short.ensures c.if-not-are_short.false) c.from.ensures)

pub returns : goal.returns
returns c = writes_same (writes_then (writes_then c.put_subidentifier-last.ensures c.put_eight-start.ensures) c.put_other_numbers-2.ensures)
    (nine c.args.numbers.now c.from.result c.if-count-lt9.false (c.are_short.ensures c.if-not-are_short.false) c.from.ensures)

pub put_other_numbers-requires-2-clause-room : goal.put_other_numbers-requires-2-clause-room
put_other_numbers-requires-2-clause-room c =
    let whole = nine_counted _ _ c.if-count-lt9.false (c.are_short.ensures c.if-not-are_short.false) c.from.ensures in
    omega (arith, whole, length-canon_subidentifier c.from.result)

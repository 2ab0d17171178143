use Rattle.std.proofs.{Common.arith, lemmas.List.length-append}
use Rattle.snmp_wire.proofs.ReadingLaws.{some_left}
use Rattle.snmp_wire.proofs.ReadIdentifiers.{start, plain_fits, push_plain}
use Rattle.snmp_wire.proofs.ber.identifier.push_numbers.Goals as goal

pub numbers-init : goal.numbers-init
numbers-init c = record { whole = start c.args.oid.now c.args.octets.now c.requires.two c.requires.numbers }

pub numbers-smaller-in-Some : goal.numbers-smaller-in-Some
numbers-smaller-in-Some c =
    let fits = plain_fits 4 c.numbers.oid _ _ _ _ (some_left _ _ c.is_empty.ensures c.numbers-test.true)
    c.in-Some.ensures c.numbers.invariant.whole in
    let four = c.in-Some.ensures.1 in
    rw c.push_four.ensures (omega (arith, length-append c.numbers.oid c.in-Some.four.now))

pub numbers-preserved-in-Some : goal.numbers-preserved-in-Some
numbers-preserved-in-Some c =
    record { whole = rw c.push_four.ensures (push_plain 4 c.numbers.oid _ _ _ _ c.in-Some.ensures c.numbers.invariant.whole) }

pub push_four-requires-clause-room : goal.push_four-requires-clause-room
push_four-requires-clause-room c = plain_fits 4 c.numbers.oid _ _ _ _ (some_left _ _ c.is_empty.ensures c.numbers-test.true)
    c.in-Some.ensures c.numbers.invariant.whole

use Rattle.std.proofs.Common.{arith}
use Rattle.snmp_wire.proofs.FirstDifference.{words_alike}
use Rattle.snmp_wire.proofs.name.eight_alike.Goals as goal

pub returns : goal.returns
returns c =
    let alike = words_alike c.args.octets.now c.args.others.now c.args.at c.word_at.result c.word_at-2.result c.requires.these c.requires.others
    (λ i. omega (arith, c.type_inv.octets i)) (λ i. omega (arith, c.type_inv.others i)) c.word_at.ensures c.word_at-2.ensures
    c.word_at.type_inv c.word_at-2.type_inv in
    record { at_most_8 = alike.most; same = alike.same; first = alike.first }

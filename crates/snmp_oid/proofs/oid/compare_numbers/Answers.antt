use Rattle.std.proofs.{Common.◌≡◌, Common.◌∙◌, Common.arith}
use Rattle.snmp_oid.proofs.Comparisons.{longer_after}
use Rattle.snmp_oid.proofs.oid.compare_numbers.Goals as goal
use Rattle.snmp_oid.proofs.oid.compare_numbers.Goals.{then-begin_alike, else-begin_alike}

pub returns : goal.returns
returns c =
    let last : c.numbers.i ≡ c.min-both.result = omega (arith, c.numbers.invariant.0) in
    c.cmp-2.ensures
    ∙ longer_after c.min-both.result c.args.o.now c.args.p.now (omega arith) (omega arith) (omega arith) (rw last at c.numbers.invariant.1)

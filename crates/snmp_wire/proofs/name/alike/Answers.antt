use Rattle.std.proofs.Common.{◌-◌, arith}
use Rattle.snmp_wire.proofs.NameOrder.{more_alike}
use Rattle.snmp_wire.proofs.name.alike.Goals as goal

pub returns-clause-same : goal.returns-clause-same
returns-clause-same c = more_alike (c.min-both.result - 8) c.eight_alike.result _ c.eights.invariant (omega arith) (omega arith)
    (omega (arith, c.min-both.ensures, c.eight_alike.ensures.at_most_8)) (omega (arith, c.min-both.ensures, c.eight_alike.ensures.at_most_8))
    c.eight_alike.ensures.same

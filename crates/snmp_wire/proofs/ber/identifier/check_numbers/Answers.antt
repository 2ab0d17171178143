use Rattle.std.proofs.{lemmas.Result.err_from_is_err_and}
use Rattle.snmp_wire.proofs.ReadingLaws.{some_left}
use Rattle.snmp_wire.proofs.ReadIdentifiers.{counted_fails}
use Rattle.snmp_wire.proofs.ber.identifier.check_numbers.Goals as goal

pub returns-in_err-some : goal.returns-in_err-some
returns-in_err-some c =
    let p = err_from_is_err_and c.from_residual.result c.from_residual.ensures.1 in
    rw (p.1, p.2) (counted_fails _ _ _ _ (some_left _ _ c.is_empty.ensures c.numbers-test.true) c.in_err-some.ensures.err c.numbers.invariant.0)

use Rattle.std.proofs.{Common.arith, lemmas.Grind.common_steps, lemmas.Result.err_from_is_err_and}
use Rattle.snmp_wire.specs.Decode.{fields}
use Rattle.snmp_wire.proofs.ReadingLaws.{some_left}
use Rattle.snmp_wire.proofs.MessageLaws.{fields_shrink, check_fails_in, check_goes_on}
use Rattle.snmp_wire.proofs.binding.check_bindings.Goals as goal

pub returns-in_err-check_binding : goal.returns-in_err-check_binding
returns-in_err-check_binding c =
    let p = err_from_is_err_and c.from_residual-in_err-check_binding.result c.from_residual-in_err-check_binding.ensures.1 in
    rw (p.1, p.2) (check_fails_in _ (fields c.in_ok-fields.fields) c.in_ok-fields.after.now _ _
    (some_left _ _ c.is_empty.ensures c.bindings-test.true) c.in_ok-fields.ensures c.in_err-check_binding.ensures c.bindings.invariant)

pub bindings-smaller : goal.bindings-smaller
bindings-smaller c = fields_shrink c.bindings.rest.now (fields c.in_ok-fields.fields, c.in_ok-fields.after.now) c.in_ok-fields.ensures

pub bindings-preserved : goal.bindings-preserved
bindings-preserved c = grind (arith, common_steps, check_goes_on, some_left)

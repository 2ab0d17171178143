use Rattle.std.proofs.Common.{arith, refl, sym, subst}
use Rattle.std.proofs.{lemmas.Grind.common_steps, lemmas.List.take_all, lemmas.List.Elements.All-more, lemmas.List.Elements.All-same}
use Rattle.snmp_oid.specs.Identifier.{IsWire, wire}
use Rattle.snmp_tools.proofs.Steps.{first_unsent}
use Rattle.snmp_tools.proofs.names.check_names.Goals as goal

pub returns-in_default-clause-err : goal.returns-in_default-clause-err
returns-in_default-clause-err c = grind (arith, common_steps, first_unsent)

pub names-preserved : goal.names-preserved
names-preserved c =
    All-more (λ o. IsWire (wire o)) c.args.names.now c.names.index c.index-names-index.result c.names-test.true c.names.invariant
    (subst (λ o. IsWire (wire o)) c.index-names-index.is (c.in-Ok.ensures.variant.0 refl))

pub returns-clause-sendable : goal.returns-clause-sendable
returns-clause-sendable c =
    All-same (λ o. IsWire (wire o)) c.args.names.now _ (sym (take_all c.names.index c.args.names.now c.names-test.false)) c.names.invariant

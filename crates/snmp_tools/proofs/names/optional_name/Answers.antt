use Rattle.std.proofs.Common.{arith, ℕ, List, Bor, Ok, Option, Some, option_map, refl, subst, sym}
use Rattle.std.proofs.lemmas.Grind.{common_steps}
use Rattle.snmp_tools.specs.Asking.{IsOptionalName}
use Rattle.snmp_tools.proofs.Wholes.{if_err}
use Rattle.snmp_tools.proofs.names.optional_name.Goals as goal

pub returns-in_err-name-in-Some-clause-err : goal.returns-in_err-name-in-Some-clause-err
returns-in_err-name-in-Some-clause-err c = grind (arith, common_steps, if_err, option_map)

pub returns-in_ok-name-in-Some-clause-ok : goal.returns-in_ok-name-in-Some-clause-ok
returns-in_ok-name-in-Some-clause-ok c =
    let o = c.in_ok-name-in-Some.field-0 in
    subst (λ (t : Option (Bor (List ℕ))). IsOptionalName c.args.tree.now (option_map (λ t. t.now) t) (Some o)) (sym c.in-Some.is)
    (o, c.in_ok-name-in-Some.ensures.ok, refl)

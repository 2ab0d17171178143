use Rattle.std.proofs.Common.{◌≡◌, ◌≤◌, ◌∷◌, [], length, arith}
use Rattle.std.proofs.lemmas.Grind.{common_steps}
use Rattle.snmp_wire.specs.Message.{null_value}
use Rattle.snmp_walk.proofs.LooseLinks.{asked_short}
use Rattle.snmp_walk.proofs.loose.only_asked.Goals as goal

pub returns-clause-short : goal.returns-clause-short
returns-clause-short c =
    let only = c.in_ok-only.only in
    let bindings : c.args.request.now.bindings ≡ only ∷ [] = grind (arith, common_steps) in
    let none : only.value ≡ null_value = grind (arith, common_steps) in
    let short : length only.name ≤ 128 = grind (arith, common_steps) in
    asked_short c.args.request.now.bindings only bindings none short

use Rattle.std.proofs.{Common.arith, Common.◌≡◌, Common.true, lemmas.Grind.common_steps, lemmas.Result.IfErr-weaker, lemmas.Result.IfOk-weaker}
use Rattle.std.specs.Str.Lines.{lines}
use Rattle.snmp_agent.specs.table.Format.{IsMarked, first_format}
use Rattle.snmp_agent.proofs.table.Table.read_with.Goals as goal

pub returns-then-is_marked-clause-table : goal.returns-then-is_marked-clause-table
returns-then-is_marked-clause-table g c = grind (arith, common_steps, IfOk-weaker)

pub returns-then-is_marked-clause-fault : goal.returns-then-is_marked-clause-fault
returns-then-is_marked-clause-fault g c = grind (arith, common_steps, IfErr-weaker)

pub returns-else-is_marked-clause-table : goal.returns-else-is_marked-clause-table
returns-else-is_marked-clause-table g c =
    let unmarked : IsMarked (lines c.args.text.now) → ⊥ =
    λ marked. (let yes_it : c.is_marked.result ≡ true = c.is_marked.ensures.1 marked in absurd (cc (c.if-is_marked.false))) in
    IfOk-weaker c.read_in-else-is_marked.result _ _ (λ view h. (first_format, unmarked, h)) c.read_in-else-is_marked.ensures.table

pub returns-else-is_marked-clause-fault : goal.returns-else-is_marked-clause-fault
returns-else-is_marked-clause-fault g c =
    let unmarked : IsMarked (lines c.args.text.now) → ⊥ =
    λ marked. (let yes_it : c.is_marked.result ≡ true = c.is_marked.ensures.1 marked in absurd (cc (c.if-is_marked.false))) in
    IfErr-weaker c.read_in-else-is_marked.result _ _ (λ fault h. (first_format, unmarked, h)) c.read_in-else-is_marked.ensures.fault

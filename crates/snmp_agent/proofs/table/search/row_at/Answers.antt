use Rattle.std.proofs.{Common.arith, Common.◌≡◌, Common.◌-◌, Common.take, Common.sym, Common.◌∙◌, Common.ap, lemmas.Grind.common_steps}
use Rattle.snmp_wire.specs.Message.{VarBind}
use Rattle.snmp_agent.proofs.ChangedEntries.{belongs_at, has_name_at, name_found, no_name, other_named, same_named}
use Rattle.snmp_agent.proofs.Lists.{IsLast}
use Rattle.snmp_agent.proofs.table.search.row_at.Goals as goal

pub returns-in_err-row-clause-value : goal.returns-in_err-row-clause-value
returns-in_err-row-clause-value c = grind (arith, common_steps, no_name, belongs_at)

pub returns-then-is_eq-clause-value : goal.returns-then-is_eq-clause-value
returns-then-is_eq-clause-value c =
    sym (name_found c.args.name.now c.args.rows.now (c.args.index - 1) (has_name_at c.args.rows.now c.args.index c.args.name.now c.in_ok-row.row.now
    c.requires.rising c.requires.index (sym (rw c.split_at.ensures.front at c.in_ok-row.ensures.value))
    (same_named c.args.name.now c.name.ensures c.compare.ensures c.is_eq.ensures c.if-is_eq.true)))

pub returns-else-is_eq-clause-value : goal.returns-else-is_eq-clause-value
returns-else-is_eq-clause-value c =
    let row : VarBind = c.in_ok-row.row.now in
    let last : IsLast (take c.args.index c.args.rows.now) row = sym (rw c.split_at.ensures.front at c.in_ok-row.ensures.value) in
    sym (no_name c.args.name.now c.args.rows.now c.args.index
    (belongs_at c.args.rows.now c.args.index c.args.name.now c.requires.rising c.requires.index (λ r is_last name.
    let same : row ≡ r = cc in
    other_named c.args.name.now c.name.ensures c.compare.ensures c.is_eq.ensures c.if-is_eq.false (ap (λ (x : VarBind). x.name) same ∙ name))))

pub returns-then-is_eq-clause-name : goal.returns-then-is_eq-clause-name
returns-then-is_eq-clause-name c = same_named c.args.name.now c.name.ensures c.compare.ensures c.is_eq.ensures c.if-is_eq.true

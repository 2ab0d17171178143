use Rattle.std.proofs.Common.{◌≡◌, take, sym, ap, ◌∙◌}
use Rattle.snmp_wire.specs.Message.{VarBind}
use Rattle.snmp_agent.proofs.{Lists.IsLast, ChangedEntries.has_name_at, ChangedEntries.belongs_at, ChangedEntries.other_named, ChangedEntries.same_named}
use Rattle.snmp_agent.proofs.table.search.find_row.Goals as goal

pub returns-in-Some-clause-found : goal.returns-in-Some-clause-found
returns-in-Some-clause-found c =
    has_name_at c.args.rows.now c.index_near-index.result c.args.name.now c.in-Some.row.now c.requires c.index_near-index.ensures
    (sym (rw c.split_at.ensures.front at c.in-Some.ensures.value)) (same_named c.args.name.now c.name.ensures c.compare.ensures c.is_eq.ensures c.if-is_eq.true)

pub returns-in_default-clause-none : goal.returns-in_default-clause-none
returns-in_default-clause-none c =
    let row : VarBind = c.in-Some.row.now in
    let last : IsLast (take c.index_near-index.result c.args.rows.now) row = sym (rw c.split_at.ensures.front at c.in-Some.ensures.value) in
    belongs_at c.args.rows.now c.index_near-index.result c.args.name.now c.requires c.index_near-index.ensures (λ r is_last name.
    let same : row ≡ r = cc in
    other_named c.args.name.now c.name.ensures c.compare.ensures c.is_eq.ensures c.if-is_eq.false (ap (λ (x : VarBind). x.name) same ∙ name))

use Rattle.std.proofs.Common.{◌∷◌, [], ap}
use Rattle.snmp_wire.specs.Message.{VarBind}
use Rattle.snmp_agent.specs.{table.Entries.entry_of}
use Rattle.snmp_agent.proofs.NextEntries.{is_next, cursor_past_first}
use Rattle.snmp_agent.proofs.table.pages.Successors.advance.Goals as goal

pub returns-in-Some-clause-next : goal.returns-in-Some-clause-next
returns-in-Some-clause-next c = λ view h.
    let first = rw c.in-Some.ensures.some at h in
    rw c.read_into.ensures
    (is_next c.order.ensures.less view c.args.binding.now.name first.0 (entry_of c.in-Some.row.now ∷ c.next_row.new.self) first.1)

pub returns-in-Some-clause-after : goal.returns-in-Some-clause-after
returns-in-Some-clause-after c = λ view h.
    rw (ap (λ (p : VarBind). p.name) c.read_into.ensures) (cursor_past_first view c.args.binding.now.name _ _ (rw c.in-Some.ensures.some at h))

pub returns-in-None-clause-next : goal.returns-in-None-clause-next
returns-in-None-clause-next c = λ view h.
    let none = rw c.in-None.ensures.none.0 at h in is_next c.order.ensures.less view c.args.binding.now.name none.0 [] none.1

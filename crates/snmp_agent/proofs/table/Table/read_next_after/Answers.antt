use Rattle.std.proofs.Common.{◌≡◌, List, ℕ, take, ◌∙◌, ap}
use Rattle.snmp_wire.specs.Message.{Datum, var_bind}
use Rattle.snmp_agent.specs.{table.Entries.last_name, table.Pages.AreAllAfter, table.Table.IsNext, table.Table.IsNextAfter}
use Rattle.snmp_agent.proofs.{AnswerValues.next_after_name, AnswerValues.next_after_value, NextEntries.asked_past, NextEntries.after_past}
use Rattle.snmp_agent.proofs.table.Table.read_next_after.Goals as goal

answered : (c : goal.After-advance) → IsNextAfter c.args.self.now c.args.rounds c.args.name.now (var_bind c.advance.new.binding)
answered c =
    let view = c.args.self.now in
    let o = c.args.name.now in
    let rows : List (List ℕ × Datum) = c.after-rows.result in
    let later : AreAllAfter view o rows = c.after-rows.ensures in
    let at : c.skip.new.name ≡ last_name o (take c.args.rounds rows) =
    c.skip.ensures.name ∙ ap (λ (p : List ℕ). last_name p (take c.args.rounds rows)) c.read_into.ensures in
    let here : AreAllAfter view c.skip.new.name c.skip.new.self = rw (c.skip.ensures.left, at) (after_past view c.args.rounds o rows later) in
    let next : IsNext view c.skip.new.name (var_bind c.advance.new.binding) = c.advance.ensures.next view here in
    asked_past c.order.ensures.less view c.args.rounds o later.0 rows later.1 (var_bind c.advance.new.binding) (rw (← at) next)

pub returns : goal.returns
returns c = record {
  answer = answered c;
  name = next_after_name c.args.self.now c.args.rounds c.args.name.now (var_bind c.advance.new.binding) c.is_mib_view.ensures
      c.content-content.ensures.encodes.wire (answered c);
  value = next_after_value c.args.self.now c.args.rounds c.args.name.now (var_bind c.advance.new.binding) c.is_mib_view.ensures (answered c);
}

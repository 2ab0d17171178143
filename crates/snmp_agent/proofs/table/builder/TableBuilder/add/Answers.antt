use Rattle.std.proofs.{Common.map, Common.ap, Common.◌∙◌}
use Rattle.std.specs.{List.list_any, Ordering.nat_cmp, Ordering.eq_by_cmp, Cmp.Lexicographic.slice_cmp}
use Rattle.snmp_agent.specs.{table.Form.States, table.Form.nothing, table.Form.object_prefix, table.Form.instance, private.table.TableBuilder.draft_objects}
use Rattle.snmp_agent.proofs.DraftLines.{either, full, row_added, row_halted}
use Rattle.snmp_agent.proofs.{OneStatement.states_only, table.builder.TableBuilder.add.Goals.in-Ok, table.builder.TableBuilder.add.Goals.in-Err}
use Rattle.snmp_agent.proofs.TableDrafts.{holds_nothing, holds_object, list_any-insert}
use Rattle.snmp_agent.proofs.table.builder.TableBuilder.add.Goals as goal

pub returns-in-Ok-Nothing-clause-draft : goal.returns-in-Ok-Nothing-clause-draft
returns-in-Ok-Nothing-clause-draft g c = λ before h.
    let format = g.F.LineFormat.format c.args.format.now in
    let only = states_only c.names.ensures.at_most_one format c.args.line.now nothing
    (rw c.in-Ok-Nothing.field-0-is at c.in-Ok-Nothing.ensures.states) in
    (h.0, holds_nothing format before c.args.line.now h.0 (draft_objects c.args.self.now) h.1 only, h.2)

pub returns-after-insert-clause-draft : goal.returns-after-insert-clause-draft
returns-after-insert-clause-draft g c = λ before h.
    let format = g.F.LineFormat.format c.args.format.now in
    let object = c.in-Ok-Object.object in
    let only = states_only c.names.ensures.at_most_one format c.args.line.now
    (object_prefix object.items) (rw c.in-Ok-Object.field-0-is at c.in-Ok-Object.ensures.states) in
    elim c.match-insert.branch [
      | in-Ok w ↦ rw w.result-is (
        h.0,
        holds_object format before c.args.line.now h.0
            (draft_objects c.args.self.now) h.1 object.items (map (λ x. x.items) c.insert.new.self.keys) only
            (λ o. ap (λ keys. list_any (eq_by_cmp (slice_cmp nat_cmp) o) (map (λ x. x.items) keys))
            w.in-Ok.ensures.keys ∙ list_any-insert o c.args.self.now.objects.keys object),
        h.2,
      )
      | in-Err w ↦ rw w.result-is (full _ c.args.self.now.exact w.full.result w.full.ensures)
    ]

pub returns-in-Ok-Instance-clause-draft : goal.returns-in-Ok-Instance-clause-draft
returns-in-Ok-Instance-clause-draft g c = λ before h.
    let format = g.F.LineFormat.format c.args.format.now in
    let line = c.args.line.now in
    let row = c.in-Ok-Instance.row in
    let old = c.args.self.now in
    let states : States format line (instance row) =
    rw c.in-Ok-Instance.field-0-is at c.in-Ok-Instance.ensures.states in
    let only = states_only c.names.ensures.at_most_one format line (instance row) states in
    either c.put.result c.put.ensures.rows c.put.ensures.halt
    (λ _ moved. row_added format before line c.args.number old h row only c.put.new.self moved
    c.put.ensures.objects)
    (λ e k. row_halted format before line c.args.number old h row states e k)

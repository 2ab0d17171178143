use Rattle.std.proofs.Common.{◌∙◌, [], ◌∷◌, List, ℕ, ap, subst}
use Rattle.snmp_wire.specs.Message.Datum.{end_of_mib_view}
use Rattle.snmp_agent.specs.{private.Answering.add, private.Answering.held, table.Pages.AreAllAfter, table.Entries.entry_of, table.Table.MibView}
use Rattle.snmp_agent.proofs.Cursors.{first_there}
use Rattle.snmp_agent.proofs.answers.append_next.Goals as goal

pub returns-in-Some : goal.returns-in-Some
returns-in-Some c =
    let o = c.args.asked.now.name in
    let rows = entry_of c.in-Some.row.now ∷ c.next_row.new.self in
    let there = rw (c.name-name.ensures, c.in-Some.ensures.some) at c.after_last-rows.ensures in
    c.append_row.ensures ∙ ap (add (held c.args.reply c.args.out.now))
    (first_there c.args.table.now o rows (subst (λ (v : MibView). AreAllAfter v o rows) c.table.view_is there))

pub returns-in-None : goal.returns-in-None
returns-in-None c =
    let o = c.args.asked.now.name in
    let there = rw (c.name-name.ensures, c.in-None.ensures.none.0) at c.after_last-rows.ensures in
    c.append_end.ensures ∙ ap (λ (o : List ℕ). add (held c.args.reply c.args.out.now) (record { name = o; value = end_of_mib_view })) c.name-name.ensures
    ∙ ap (add (held c.args.reply c.args.out.now))
    (first_there c.args.table.now o [] (subst (λ (v : MibView). AreAllAfter v o []) c.table.view_is there))

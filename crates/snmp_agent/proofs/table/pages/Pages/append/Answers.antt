use Rattle.std.proofs.Common.{◌≡◌, ℕ, List, ◌++◌, ◌∷◌, [], subst, refl, sym, ap, ◌∙◌}
use Rattle.std.specs.FinMap.{entries}
use Rattle.snmp_wire.specs.Message.{Datum}
use Rattle.snmp_agent.specs.{table.Entries.IsAfterAll, table.Entries.entry_of, table.Pages.IsSorted, table.Pages.entries_in}
use Rattle.snmp_agent.proofs.{ChangedEntries.put_after, ChangedEntries.sorted_put, GatheredRows.entries_are, table.pages.Pages.append.Goals.In_ok-append}
use Rattle.snmp_agent.proofs.table.pages.Pages.append.Goals as goal

same : (c : In_ok-append) → entries c.args.self.now ≡ entries_in c.self.inside.list.items
same c = entries_are (entries_in c.self.inside.list.items) c.args.self.now c.self.invariant c.self.view_is

rising : (c : In_ok-append) → IsSorted (entries_in c.append.new.pages.items)
rising c =
    let es = entries_in c.self.inside.list.items in
    let after : IsAfterAll c.args.row.name es =
    subst (λ (fs : List (List ℕ × Datum)). IsAfterAll c.args.row.name fs) (same c) c.requires in
    sorted_put c.args.row.name es _ c.self.invariant c.args.row.value
    (c.in_ok-append.ensures.rows ∙ sym (put_after c.args.row.name c.args.row.value es after))

pub invariant_of-self-2 : goal.invariant_of-self-2
invariant_of-self-2 c = rising (goal.at.invariant_of-self-2 c).In_ok-append

pub returns-clause-appended : goal.returns-clause-appended
returns-clause-appended c =
    let before = (goal.at.returns-clause-appended c).In_ok-append in
    entries_are (entries_in c.append.new.pages.items) _ (rising before) refl
    ∙ c.in_ok-append.ensures.rows
    ∙ ap (λ (es : List (List ℕ × Datum)). es ++ entry_of c.args.row ∷ []) (sym (same before))

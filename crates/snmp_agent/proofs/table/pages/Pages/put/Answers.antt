use Rattle.std.proofs.Common.{arith, ◌≡◌, List, ℕ, slice_set, ◌∙◌, ap, subst, sym}
use Rattle.std.proofs.lemmas.Grind.{common_steps}
use Rattle.std.specs.{Ordering.nat_cmp, Cmp.Lexicographic.slice_cmp, FinMap.from_sorted, FinMap.Entries.put as put_entry}
use Rattle.snmp_wire.specs.Message.{Datum}
use Rattle.snmp_agent.specs.{table.Entries.IsAfterAll, table.Pages.IsPageWithRoom, table.Pages.IsSorted, table.Pages.entries_in, table.Pages.has_name}
use Rattle.snmp_agent.proofs.ChangedEntries.{had_name, if_err, map_put, nothing_after, put_after, sorted_put}
use Rattle.snmp_agent.proofs.Pages.{kept_found, named_found, put_found, rising_found, room_found}
use Rattle.snmp_agent.proofs.table.pages.Pages.put.Goals as goal
use Rattle.snmp_agent.proofs.table.pages.Pages.put.Goals.{In_err-replaced, In_ok-append, In_ok-index, In_ok-replaced}

-- ---- a row after all others

after : (c : In_ok-append) → IsAfterAll c.args.row.name (entries_in c.self.inside.list.items)
after c = rw (c.name-name.ensures, c.as_slice.ensures.value) at (c.ends_before.ensures.before c.if-ends_before.true)

last : (c : In_ok-append) → entries_in c.append.new.pages.items
    ≡ put_entry (slice_cmp nat_cmp) c.args.row.name c.args.row.value (entries_in c.self.inside.list.items)
last c = c.in_ok-append.ensures.rows ∙ sym (put_after c.args.row.name c.args.row.value (entries_in c.self.inside.list.items) (after c))

pub invariant_of-self-then-ends_before : goal.invariant_of-self-then-ends_before
invariant_of-self-then-ends_before c =
    sorted_put c.args.row.name (entries_in c.self.inside.list.items) _ c.self.invariant c.args.row.value
    (last (goal.at.invariant_of-self-then-ends_before c).In_ok-append)

pub returns-then-ends_before-clause-put : goal.returns-then-ends_before-clause-put
returns-then-ends_before-clause-put c =
    rw (← c.self.view_is) (map_put c.args.row.name (entries_in c.self.inside.list.items) _ c.self.invariant c.args.row.value
    (last (goal.at.returns-then-ends_before-clause-put c).In_ok-append))

pub returns-then-ends_before-clause-replaced : goal.returns-then-ends_before-clause-replaced
returns-then-ends_before-clause-replaced c =
    let es = entries_in c.self.inside.list.items in
    rw (← c.self.view_is) (nothing_after c.args.row.name es (after (goal.at.returns-then-ends_before-clause-replaced c).In_ok-append)
    ∙ had_name c.args.row.name es es c.self.invariant)

-- ---- a row on its page

room : (c : In_ok-index) → IsPageWithRoom c.args.row.name c.page_with_room.new.pages.items c.in_ok-index.index
room c = rw c.name-name.ensures at c.in_ok-index.ensures.index

pub put-requires-clause-rising : goal.put-requires-clause-rising
put-requires-clause-rising c =
    rising_found c.args.row.name c.page_with_room.new.pages.items c.in_ok-index.index (room (goal.at.put-requires-clause-rising c).In_ok-index)
    c.index_mut.result.now c.index_mut.ensures.value (subst IsSorted (sym c.in_ok-index.ensures.rows) c.self.invariant)

pub put-requires-clause-room : goal.put-requires-clause-room
put-requires-clause-room c =
    room_found c.args.row.name c.page_with_room.new.pages.items c.in_ok-index.index (room (goal.at.put-requires-clause-room c).In_ok-index)
    c.index_mut.result.now c.index_mut.ensures.value

unchanged : (c : In_err-replaced)
    → entries_in (slice_set c.page_with_room.new.pages.items c.in_ok-index.index c.put.new.self) ≡ entries_in c.self.inside.list.items
unchanged c = grind (arith, common_steps, kept_found)

pub invariant_of-self-in_err-replaced : goal.invariant_of-self-in_err-replaced
invariant_of-self-in_err-replaced c =
    subst IsSorted (sym (unchanged (goal.at.invariant_of-self-in_err-replaced c).In_err-replaced)) c.self.invariant

pub returns-in_err-replaced-clause-unchanged_on_error : goal.returns-in_err-replaced-clause-unchanged_on_error
returns-in_err-replaced-clause-unchanged_on_error c =
    if_err c.from_residual-in_err-replaced.result _
    (ap (λ (es : List (List ℕ × Datum)). from_sorted {R = slice_cmp nat_cmp} es)
    (unchanged (goal.at.returns-in_err-replaced-clause-unchanged_on_error c).In_err-replaced) ∙ c.self.view_is)

changed : (c : In_ok-replaced) → IsPageWithRoom c.args.row.name c.page_with_room.new.pages.items c.in_ok-index.index
    → entries_in (slice_set c.page_with_room.new.pages.items c.in_ok-index.index c.put.new.self)
    ≡ put_entry (slice_cmp nat_cmp) c.args.row.name c.args.row.value (entries_in c.self.inside.list.items)
changed c room = grind (arith, common_steps, put_found, room)

pub invariant_of-self-2 : goal.invariant_of-self-2
invariant_of-self-2 c =
    let before = goal.at.invariant_of-self-2 c in
    sorted_put c.args.row.name (entries_in c.self.inside.list.items) _ c.self.invariant c.args.row.value
    (changed before.In_ok-replaced (room before.In_ok-index))

pub returns-clause-put : goal.returns-clause-put
returns-clause-put c =
    let before = goal.at.returns-clause-put c in
    rw (← c.self.view_is) (map_put c.args.row.name (entries_in c.self.inside.list.items) _ c.self.invariant c.args.row.value
    (changed before.In_ok-replaced (room before.In_ok-index)))

pub returns-clause-replaced : goal.returns-clause-replaced
returns-clause-replaced c =
    let es = entries_in c.self.inside.list.items in
    c.in_ok-replaced.ensures.replaced
    ∙ named_found c.args.row.name c.page_with_room.new.pages.items c.in_ok-index.index (room (goal.at.returns-clause-replaced c).In_ok-index)
    c.index_mut.result.now c.index_mut.ensures.value
    ∙ ap (has_name c.args.row.name) c.in_ok-index.ensures.rows
    ∙ rw (← c.self.view_is) (had_name c.args.row.name es es c.self.invariant)

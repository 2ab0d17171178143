-- The positions of names among the variables of a view, after some rounds of a GetBulk, and what a
-- GetNext returns from them. For contracts of functions that the crate doesn't export.
use Rattle.std.specs.Prelude.{ℕ, Bool, true, false, List, [], ◌∷◌, drop, map, take}
use Rattle.std.specs.FinMap.{entries}
use Rattle.snmp_wire.specs.Message.{Datum, VarBind}
use Rattle.snmp_agent.specs.{table.Table.MibView, table.Listing.first_or_end}
use Rattle.snmp_agent.specs.{table.Pages.entries_after, declared.cursor.Previous.Previous}
use Rattle.snmp_agent.specs.table.Entries.{last_name, var_of}
use Rattle.snmp_agent.specs.declared.cursor.Previous.TheVariants as previous

-- the name of the row that was returned last; the name in the request if no row was returned yet;
-- 0.0 if no name was requested
abbrev pub name_of : Previous → List ℕ
name_of previous.Nothing = 0 ∷ 0 ∷ []
name_of (previous.Asked name) = name
name_of (previous.Row row) = row.now.name

-- a position: a name, and the variables after it
pub record CursorView : Type 0 where
  pub name : List ℕ
  pub rows : List (List ℕ × Datum)

-- the position after a GetNext of the name `o`; the list must have the variables after `o`
abbrev pub cursor_past_first : List ℕ → List (List ℕ × Datum) → CursorView
cursor_past_first o [] = record { name = o; rows = [] }
cursor_past_first o (e ∷ es) = record { name = e.0; rows = es }

-- what a GetNext returns from this position: the first variable after the name, or the name itself
-- with endOfMibView if there is none
abbrev pub next_at : CursorView → VarBind
next_at cursor = first_or_end cursor.name (map var_of cursor.rows)

abbrev pub passed : CursorView → CursorView
passed cursor = cursor_past_first cursor.name cursor.rows

-- whether the list of entries is empty
abbrev pub has_none : List (List ℕ × Datum) → Bool
has_none [] = true
has_none (e ∷ es) = false

-- whether no variable is left at this position
abbrev pub is_over : CursorView → Bool
is_over cursor = has_none cursor.rows

-- the position of the name `o` after `round` rounds. Each round passes a variable, if one is left.
-- The position has the name of the last variable passed, or `o` if none was, and the variables
-- left.
unfoldable pub cursor_of : MibView → ℕ → List ℕ → CursorView
cursor_of view round o =
    let back = entries_after o (entries view.rows) in
    record { name = last_name o (take round back); rows = drop round back }

abbrev pub cursors_of : MibView → ℕ → List VarBind → List CursorView
cursors_of view round names = map (λ (asked : VarBind). cursor_of view round asked.name) names

-- what a GetBulk returns for these names in one round, after `round` earlier rounds
abbrev pub bindings_in_round : MibView → ℕ → List VarBind → List VarBind
bindings_in_round view round names = map next_at (cursors_of view round names)

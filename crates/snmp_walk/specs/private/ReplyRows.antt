-- How the rows at the start of a reply are read, one by one; for private clauses.
use Rattle.std.specs.Prelude.{◌≡◌, ℕ, ◌+◌, List, [], ◌∷◌, if◌then◌else◌, Bool, ◌||◌, nat_lt}
use Rattle.std.specs.Prelude.{Option, Some, None, length, take}
use Rattle.std.specs.List.{list_any}
use Rattle.snmp_wire.specs.Message.{VarBind}
use Rattle.snmp_walk.specs.{declared.walk_core.Ending.Ending}
use Rattle.snmp_walk.specs.{Names.is_inside, Names.is_missing, Names.comes_after, Trail.last_name}
use Rattle.snmp_walk.specs.declared.walk_core.Ending.TheVariants as ending

-- what follows the rows: nothing; a binding that isn't an instance below the root; or an instance
-- below it whose name isn't greater than the name before
pub data After : Type 0 where
  nothing : After
  leaving : After
  falling : (name : List ℕ) → After

-- the rows at the start of a reply, and what follows them
pub record ReplyRows : Type 0 where
  pub rows : List VarBind
  pub after : After

-- `prefix` with b before its rows
abbrev pub before : VarBind → ReplyRows → ReplyRows
before b prefix = record { rows = b ∷ prefix.rows; after = prefix.after }

-- the rows at the start of these bindings, after the name `last`, and what follows them
abbrev pub reply_rows : (root last : List ℕ) → List VarBind → ReplyRows
reply_rows root last [] = record { rows = []; after = nothing }
reply_rows root last (b ∷ more) =
    if is_inside root b
    then (if comes_after last b.name then before b (reply_rows root b.name more)
    else record { rows = []; after = falling b.name })
    else record { rows = []; after = leaving }

-- how the binding b, after the name `last`, continues or ends the rows
abbrev pub ending_at : (root last : List ℕ) → VarBind → Ending
ending_at root last b =
    if is_inside root b
    then (if comes_after last b.name then ending.GoesOn else ending.Falls)
    else ending.Leaves

-- what follows the rows: nothing, or the binding with this name, which ended them in this way
abbrev pub after_of : Ending → List ℕ → After
after_of ending.GoesOn name = nothing
after_of ending.Leaves name = leaving
after_of ending.Falls name = falling name

-- the name, or `other` if there is none
abbrev pub name_or : List ℕ → Option (List ℕ) → List ℕ
name_or other None = other
name_or other (Some name) = name

-- The first `rows` rows of `prefix` were read, and `left` is the rest of `prefix`. `last` is the
-- name of the last row read, or `asked` if none was read.
pub record IsReadTo (asked : List ℕ) (prefix : ReplyRows) (last : List ℕ) (rows : ℕ)
    (left : ReplyRows) : Type 0 where
  pub count : length prefix.rows ≡ rows + length left.rows
  pub name : last_name asked prefix.rows ≡ last_name last left.rows
  pub after : prefix.after ≡ left.after

-- All rows of `prefix` were read: the first `rows` of `bindings`. `last` is the name of the last
-- row, or `asked` if there are no rows. `next` says what follows the rows.
pub record AreRowsRead (asked : List ℕ) (bindings : List VarBind) (prefix : ReplyRows)
    (last : List ℕ)
    (rows : ℕ) (next : After) : Type 0 where
  pub count : length prefix.rows ≡ rows
  pub taken : take rows bindings ≡ prefix.rows
  pub name : last_name asked prefix.rows ≡ last
  pub after : prefix.after ≡ next

-- whether there are more than `room` bindings, or noSuchObject or noSuchInstance among them
abbrev pub is_misplaced : ℕ → List VarBind → Bool
is_misplaced room bindings = nat_lt room (length bindings) || list_any
    (λ p. is_missing p.value) bindings

-- What a walk returns if the agent's table changes: each reply is from one of several tables.
use Rattle.std.specs.Prelude.{◌≡◌, ℕ, ◌+◌, ◌≤◌, ◌⊎◌, List, [], ◌∷◌, ◌++◌, length}
use Rattle.snmp_oid.specs.Identifier.{IsBelow, Precedes}
use Rattle.snmp_wire.specs.Message.{VarBind}
use Rattle.snmp_agent.specs.{table.Table.MibView, table.Table.IsRow, table.Listing.variables}
use Rattle.snmp_walk.specs.declared.mode.Mode.TheVariants as mode
use Rattle.snmp_walk.specs.{Run.IsNameIn, Walk.rest_of, WalkState.WalkState, Room.HasRoomForEach}
use Rattle.snmp_walk.specs.Link.{Agents, OneOf, IsGotFrom}

-- the name is below the walk's root, and comes after the name that the walk begins from
abbrev pub IsBelowRoot : WalkState → List ℕ → Type 0
IsBelowRoot first name = IsBelow name first.root × Precedes first.asked name

-- the walk returns variables with this name: it is below the root (`IsBelowRoot`) or, in a walk
-- that includes the root, the root's own
abbrev pub IsOfWalk : WalkState → List ℕ → Type 0
IsOfWalk first name = IsBelowRoot first name ⊎ ((first.mode ≡ mode.Include) × (name ≡ first.asked))

-- p is a variable of one of the tables, with a name that the walk returns
abbrev pub IsFromTable : Agents → WalkState → VarBind → Type 0
IsFromTable agents first p = (view : MibView) × OneOf agents.tables view × IsRow view p
    × IsOfWalk first p.name

-- Each binding returned is a variable of one of the tables; or a plain walk returned only the
-- result of a Get of the name that it begins from.
abbrev pub AreFromTables : Agents → WalkState → List VarBind → Type 0
AreFromTables agents first given =
    ((p : VarBind) → OneOf given p → IsFromTable agents first p)
    ⊎ ((first.mode ≡ mode.Plain) × (p : VarBind) × (given ≡ p ∷ [])
    × IsGotFrom agents first.asked p)

-- the table has a variable with this name
abbrev pub HasName : MibView → List ℕ → Type 0
HasName view name = (p : VarBind) × IsRow view p × (p.name ≡ name)

-- each of the tables has a variable with this name
abbrev pub IsInEach : Agents → List ℕ → Type 0
IsInEach agents name = (view : MibView) → OneOf agents.tables view → HasName view name

-- exactly one of the bindings has this name
pub record OccursOnce (given : List VarBind) (name : List ℕ) : Type 0 where
  pub before : List VarBind
  pub binding : VarBind
  pub suffix : List VarBind
  pub parts : given ≡ before ++ binding ∷ suffix
  pub named : binding.name ≡ name
  pub not_before : IsNameIn before name → ⊥
  pub not_after_it : IsNameIn suffix name → ⊥

-- `names` has every name of a variable of the tables that is below the root and comes after the
-- name that the walk begins from, and maybe others
abbrev pub HoldsNames : Agents → WalkState → List (List ℕ) → Type 0
HoldsNames agents first names = (view : MibView) → OneOf agents.tables view
    → (p : VarBind) → IsRow view p → IsBelowRoot first p.name → OneOf names p.name

-- In the tables, at most k names are below the root and come after the name that the walk begins
-- from. With one table, k can be the number of the rows with these names. With any tables, k can
-- be the length of a list that has all of these names, and maybe others.
pub data CountsNames (agents : Agents) (first : WalkState) (k : ℕ) : Type 0 where
  of_table : (view : MibView) → agents.tables ≡ view ∷ []
      → k ≡ length (rest_of first.root first.asked (variables view)) → CountsNames agents first k
  of_tables : (names : List (List ℕ)) → HoldsNames agents first names → k ≡ length names
      → CountsNames agents first k

-- the walk's requests have the agents' community, and there is room for each single binding of each
-- table (`HasRoomForEach`)
abbrev pub HasRoomInEach : Agents → WalkState → Type 0
HasRoomInEach agents first = (view : MibView) → OneOf agents.tables view
    → HasRoomForEach agents view first

-- there are enough ids for a request for each of k names, one more, and a Get
abbrev pub HasIdsFor : WalkState → ℕ → Type 0
HasIdsFor first k = first.id + k + 2 ≤ 2147483647

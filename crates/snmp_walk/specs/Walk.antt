-- The rows of a table that a walk returns, in the order of their names.
use Rattle.std.specs.Prelude.{ℕ, List, [], ◌∷◌, ◌++◌, filter}
use Rattle.std.specs.{Bool.nat_eq, Cmp.Lexicographic.pointwise}
use Rattle.snmp_oid.specs.Identifier.{wire}
use Rattle.snmp_wire.specs.Message.{VarBind}
use Rattle.snmp_walk.specs.{declared.mode.Mode.Mode, Names.is_below, Names.comes_after}
use Rattle.snmp_walk.specs.declared.mode.Mode.TheVariants.{Plain, Include, NoLast}

-- the rows below the root
abbrev pub rows_below : List ℕ → List VarBind → List VarBind
rows_below root rows = filter (λ row. is_below row.name root) rows

-- the rows that come after the name o
abbrev pub rows_after : List ℕ → List VarBind → List VarBind
rows_after o rows = filter (λ row. comes_after o row.name) rows

-- the rows with the name o; a table has at most one
abbrev pub rows_named : List ℕ → List VarBind → List VarBind
rows_named o rows = filter (λ row. pointwise nat_eq row.name o) rows

-- the rows, or only `got` if there are none
abbrev pub or_only : VarBind → List VarBind → List VarBind
or_only got [] = got ∷ []
or_only got (row ∷ rows) = row ∷ rows

-- What a walk returns; `got` is the result of a Get of the root. A plain walk: the rows below the
-- root, or only `got` if there are none. A walk that includes the root: the root's own row, if
-- there is one, and then the rows below it. A walk without a Get of its root (`NoLast`): only the
-- rows below the root.
abbrev pub walk_of : Mode → List ℕ → VarBind → List VarBind → List VarBind
walk_of Plain root got rows = or_only got (rows_below root rows)
walk_of Include root got rows = rows_named (wire root) rows ++ rows_below root rows
walk_of NoLast root got rows = rows_below root rows

-- the rows below the root that come after the name o
abbrev pub rest_of : List ℕ → List ℕ → List VarBind → List VarBind
rest_of root o rows = rows_after o (rows_below root rows)

-- What a walk returns if it begins from the name o: the root as it is sent or, if the walk is
-- resumed, the name to resume after. `got` is the result of a Get of o.
abbrev pub walk_from : Mode → List ℕ → List ℕ → VarBind → List VarBind → List VarBind
walk_from Plain root o got rows = or_only got (rest_of root o rows)
walk_from Include root o got rows = rows_named o rows ++ rest_of root o rows
walk_from NoLast root o got rows = rest_of root o rows

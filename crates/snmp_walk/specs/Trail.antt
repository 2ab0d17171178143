-- How a walk goes from row to row: each is what a GetNext of the name before it may return. `Next
-- o p` says that a GetNext of the name o may return the binding p. With one table that doesn't
-- change, there is one such binding for each name; with several tables, there may be one for each
-- table.
use Rattle.std.specs.Prelude.{ℕ, List, [], ◌∷◌}
use Rattle.snmp_wire.specs.Message.{VarBind}
use Rattle.snmp_walk.specs.Instances.{IsInside}

-- the name of the last binding, or o if there is none
abbrev pub last_name : List ℕ → List VarBind → List ℕ
last_name o [] = o
last_name o (p ∷ more) = last_name p.name more

-- A GetNext of o may return the first binding, and a GetNext of each binding's name the next one.
-- Each binding has a name below the root and isn't endOfMibView.
abbrev pub IsTrail : (List ℕ → VarBind → Type 0) → List ℕ → List ℕ → List VarBind → Type 0
IsTrail Next root o [] = Unit {0}
IsTrail Next root o (p ∷ more) = Next o p × IsInside root p × IsTrail Next root p.name more

-- a GetNext of o may return a binding that ends the walk: one that has endOfMibView or isn't below
-- the root
abbrev pub IsAtEnd : (List ℕ → VarBind → Type 0) → List ℕ → List ℕ → Type 0
IsAtEnd Next root o = (p : VarBind) × Next o p × (IsInside root p → ⊥)

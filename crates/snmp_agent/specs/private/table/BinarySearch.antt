-- A search by halves, or from a guess, for clauses of private functions.
use Rattle.std.specs.Prelude.{◌≡◌, ℕ, ◌≤◌, ◌⊎◌, Bool, true, false, List, [], ◌∷◌, ◌++◌, length}
use Rattle.std.specs.List.{AllWithin}
use Rattle.snmp_wire.specs.Message.{VarBind}
use Rattle.snmp_agent.specs.table.Pages.{begins_up_to, is_up_to}

-- the elements before index `passed` pass the test `p`, and those from index `end` on don't
pub record IsHalvedTo {X : Type 0} (p : X → Bool) (xs : List X) (passed end : ℕ) : Type 0 where
  pub order : passed ≤ end
  pub bound : end ≤ length xs
  pub prefix : AllWithin (λ x. p x ≡ true) xs 0 passed
  pub back : AllWithin (λ x. p x ≡ false) xs end (length xs)

-- `prefix` ends with the row of the name `o`; or it ends with a row of a smaller name, and `rows`
-- begins with a row of a greater name
pub record SplitsAt (o : List ℕ) (prefix rows : List VarBind) : Type 0 where
  pub init : List VarBind
  pub row : VarBind
  pub last : prefix ≡ init ++ row ∷ []
  pub up_to : is_up_to o row ≡ true
  pub next : (row.name ≡ o) ⊎ (begins_up_to o rows ≡ false)

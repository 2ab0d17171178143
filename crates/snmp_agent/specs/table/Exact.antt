-- Statements that a property holds of exactly one thing, and results of a search for that thing.
use Rattle.std.specs.Prelude.{◌≡◌, Bool, true, false, Option, Some, None}

-- `P` holds of exactly one thing
abbrev pub HasOne : {X : Type 0} → (X → Type 0) → Type 0
HasOne {X} P = (x : X) × P x × ((y : X) → P y → y ≡ x)

-- the result is `Some x` if `P` holds of `x` and of nothing else, or `None` if it holds of nothing
abbrev pub IsOnly : {X : Type 0} → (X → Type 0) → Option X → Type 0
IsOnly {X} P None = (x : X) → P x → ⊥
IsOnly {X} P (Some x) = P x × ((y : X) → P y → y ≡ x)

-- ---- for private functions

-- if `found`, then `P` holds of `x` and of nothing else; otherwise `P` holds of nothing
abbrev pub IsOnlyThere : {X : Type 0} → (X → Type 0) → (found : Bool) → X → Type 0
IsOnlyThere P true x = IsOnly P (Some x)
IsOnlyThere P false x = IsOnly P None

-- Relations of two lists, item by item.
use Rattle.std.specs.Prelude.{◌≡◌, ℕ, List, length, Some}
use Rattle.std.specs.List.{slice_get}

-- the lists have the same length, and `R p t x` holds of the items `t` and `x` at each index `p`
pub record ArePairwise {A X : Type 0} (R : ℕ → A → X → Type 0) (ts : List A)
    (xs : List X) : Type 0 where
  pub long : length xs ≡ length ts
  pub each : (p : ℕ) (t : A) (x : X) → slice_get ts p ≡ Some t → slice_get xs p ≡ Some x
      → R p t x

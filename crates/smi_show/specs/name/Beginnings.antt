-- The beginnings of an identifier: its first number, its first two numbers, and so on. The label
-- of a number is looked up by the beginning that ends with this number.
use Rattle.std.specs.Prelude.{ℕ, List, [], ◌∷◌, map}

-- all beginnings with at least one number, the shortest first; the last one is the whole
-- identifier
abbrev pub beginnings : List ℕ → List (List ℕ)
beginnings [] = []
beginnings (n ∷ more) = (n ∷ []) ∷ map (λ prefix. n ∷ prefix) (beginnings more)

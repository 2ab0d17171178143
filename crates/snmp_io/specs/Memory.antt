-- What outputs and files in memory store.
use Rattle.std.specs.Prelude.{ℕ, List, Option, find, option_map}
use Rattle.std.specs.{Borrow.Bor, Str.bytes_eq}

-- an output: the octets it took, the number of octets after which it fails, and the number of
-- writes that failed
pub record KeptOutput : Type 0 where
  pub octets : List ℕ
  pub limit : ℕ
  pub faults : ℕ

-- the text of the first file with the path, if there is one
abbrev pub held_at : List (Bor (List ℕ) × Bor (List ℕ)) → List ℕ → Option (List ℕ)
held_at files path = option_map (λ f. f.1.now) (find (λ f. bytes_eq f.0.now path) files)

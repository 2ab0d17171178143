-- What a writing function does to a slice. A message is written from its end to its start, so that
-- each length is known when it is written.
use Rattle.std.specs.Prelude.{◌≡◌, ℕ, ◌+◌, List, ◌++◌, length, take, drop}

-- ---- for private functions

-- `text` is from `start` to `end` of `new`, and the other octets are as in `old`
pub record Writes (old : List ℕ) (start end : ℕ) (text new : List ℕ) : Type 0 where
  pub begins : start + length text ≡ end
  pub before : take start new ≡ take start old
  pub after : drop start new ≡ text ++ drop end old

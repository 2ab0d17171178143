-- How a count of 64 bits increases.
use Rattle.std.specs.Prelude.{◌≡◌, ◌<◌, ℕ, ◌+◌, min}

-- `now` is one more than the count `before`, but at most the greatest number of 64 bits
abbrev pub HasIncreased : ℕ → ℕ → Type 0
HasIncreased before now = now ≡ min (before + 1) 18446744073709551615

-- `now` is the count `before` plus `many`, at most the greatest value; if `many` is 0, it is
-- `before`
abbrev pub HasIncreasedBy : (many before now : ℕ) → Type 0
HasIncreasedBy many before now = (many ≡ 0 → now ≡ before)
    × (0 < many → now ≡ min (before + many) 18446744073709551615)

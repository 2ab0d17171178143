-- Orders of indices: each index comes after the index that it refers to, unless it refers past the
-- end of the list.
use Rattle.std.specs.Prelude.{◌≡◌, ℕ, ◌<◌, List, length, take, slice_index, slice_index_or}
use Rattle.std.specs.Prelude.{Contains, Option, Some, None}

-- the index that index `p` refers to, if it refers to one; `None` if `p` is past the end of `next`
abbrev pub next_at : List (Option ℕ) → ℕ → Option ℕ
next_at next p = slice_index_or next p None

-- what a list has at an index; `None` past its end
abbrev pub option_at : {X : Type 0} → List (Option X) → ℕ → Option X
option_at xs p = slice_index_or xs p None

-- each index of `order` comes after the index that it refers to, if that isn't past the end of
-- `next`
abbrev pub ComeAfterNext : List (Option ℕ) → List ℕ → Type 0
ComeAfterNext next order =
    (i q : ℕ) → i < length order → next_at next (slice_index order i) ≡ Some q → q < length next
    → Contains (take i order) q

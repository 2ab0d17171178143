-- A set of names. Each is stored as a pair: a number that is computed from it, and the name.
use Rattle.std.specs.Prelude.{◌+◌, ◌-◌, ℕ, Bool, List, [], ◌∷◌, get_or, length, nat_lt}
use Rattle.std.specs.Prelude.{if◌then◌else◌}
use Rattle.std.specs.{Int.w64, Int.from_le_bytes, Borrow.Bor, Cmp.Lexicographic.slice_cmp}
use Rattle.std.specs.Ordering.{nat_cmp, ordering_then}
use Rattle.std.specs.BTreeSet.{BTreeSet, contains_by}

-- the eight octets from offset `at` on
abbrev pub eight_from : List ℕ → ℕ → List ℕ
eight_from octets at =
    get_or octets at 0 ∷ get_or octets (at + 1) 0 ∷ get_or octets (at + 2) 0 ∷ get_or octets
    (at + 3) 0 ∷ get_or octets (at + 4) 0 ∷ get_or octets (at + 5) 0 ∷ get_or octets (at + 6) 0
    ∷ get_or octets (at + 7) 0 ∷ []

-- the last eight octets of a name as one number, or 0 if the name is shorter
unfoldable pub last_eight : List ℕ → ℕ
last_eight x = if nat_lt (length x) 8 then 0 else from_le_bytes w64 (eight_from x (length x - 8))

-- whether the name is in the set
abbrev pub has : BTreeSet (ℕ × Bor (List ℕ)) → List ℕ → Bool
has names x = contains_by (λ k. ordering_then (nat_cmp (last_eight x) k.0) (slice_cmp nat_cmp x
    k.1.now)) names

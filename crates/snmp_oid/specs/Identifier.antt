-- Object identifiers and their order (RFC 2578, sections 3.5 and 7.1.3; RFC 3416, section 4.2.2).
-- A contract sees an identifier as the list of its numbers.
use Rattle.std.specs.Prelude.{◌≡◌, ◌≢◌, ℕ, ◌+◌, ◌-◌, ◌*◌, ◌^◌, ◌<◌, ◌≤◌, ◌⊎◌, List, [], ◌∷◌, ◌++◌}
use Rattle.std.specs.Prelude.{length, All}

-- o is below root: it begins with root and is longer
abbrev pub IsBelow : List ℕ → List ℕ → Type 0
IsBelow o root = (rest : List ℕ) × (rest ≢ []) × (o ≡ root ++ rest)

-- o and p have a common prefix (`prefix`), and the number that follows it is smaller in o
pub record PartsBelow (o p : List ℕ) : Type 0 where
  pub prefix : List ℕ
  pub smaller : ℕ
  pub larger : ℕ
  pub after : List ℕ
  pub suffix : List ℕ
  pub this : o ≡ prefix ++ smaller ∷ after
  pub that : p ≡ prefix ++ larger ∷ suffix
  pub is_smaller : smaller < larger

-- o comes before p: o is a proper prefix of p, or o has the smaller number at the first index where
-- the two differ
abbrev pub Precedes : List ℕ → List ℕ → Type 0
Precedes o p = IsBelow p o ⊎ PartsBelow o p

-- o can be an identifier: it has at most 128 numbers, each of 32 bits
pub record IsIdentifier (o : List ℕ) : Type 0 where
  pub short : length o ≤ 128
  pub numbers : All (λ n. n < 2 ^ 32) o

-- the identifier has a BER encoding (X.690, 8.19.4): it has at least two numbers, the first is
-- from 0 to 2, and the second is below 40 if the first is 0 or 1
abbrev pub IsWire : List ℕ → Type 0
IsWire (x ∷ y ∷ _) = (x ≤ 2) × (x < 2 → y < 40)
IsWire (_ ∷ []) = ⊥
IsWire [] = ⊥

-- the identifier, padded with zeros to two numbers if it has fewer
abbrev pub wire : List ℕ → List ℕ
wire [] = 0 ∷ 0 ∷ []
wire (x ∷ []) = x ∷ 0 ∷ []
wire (x ∷ y ∷ rest) = x ∷ y ∷ rest

-- an identifier of at most `digits` numbers, as one number to the base 2^32 + 1: its digits are the
-- identifier's numbers, each plus 1, and then zeros, `digits` digits in all
abbrev pub rank_in : ℕ → List ℕ → ℕ
rank_in digits [] = 0
rank_in digits (n ∷ rest) = (n + 1) * (2 ^ 32 + 1) ^ (digits - 1) + rank_in (digits - 1) rest

-- the rank of an identifier: one identifier comes before another if and only if its rank is smaller
abbrev pub rank : List ℕ → ℕ
rank o = rank_in 128 o

-- Lengths and elements (X.690, 8.1). RFC 3417, section 8 allows only definite lengths. Of those,
-- the short form is accepted here, and the long form with up to four octets after its first.
use Rattle.std.specs.Prelude.{◌≡◌, ℕ, ◌+◌, ◌<◌, ◌≤◌, ◌⊎◌, List, [], ◌∷◌, ◌++◌, length}
use Rattle.snmp_wire.specs.ber.Number.{unsigned}

-- `octets` are the short form of the length `n` (X.690, 8.1.3.4): one octet below 128
pub record IsShortLength (octets : List ℕ) (n : ℕ) : Type 0 where
  pub small : n < 128
  pub one : octets ≡ n ∷ []

-- `octets` are a long form of the length `n` (X.690, 8.1.3.5): 128 plus the number of octets of
-- the length, which is 1 to 4, and then these octets, even if fewer would do
pub record IsLongLength (octets : List ℕ) (n : ℕ) : Type 0 where
  pub digits : List ℕ
  pub some : 1 ≤ length digits
  pub few : length digits ≤ 4
  pub value : unsigned digits ≡ n
  pub parts : octets ≡ (128 + length digits) ∷ digits

-- `octets` are a form of the length `n`
abbrev pub IsLength : List ℕ → ℕ → Type 0
IsLength octets n = IsShortLength octets n ⊎ IsLongLength octets n

-- `octets` are an element (X.690, 8.1.1): a tag, the length of the content in some form, and the
-- content
pub record IsElement (tag : ℕ) (content octets : List ℕ) : Type 0 where
  pub length_octets : List ℕ
  pub is_length : IsLength length_octets (length content)
  pub parts : octets ≡ tag ∷ length_octets ++ content

-- Octets as numbers (X.690, section 8). Octets are numbers below 256.
use Rattle.std.specs.Prelude.{◌≡◌, ℕ, ℤ, pos, ◌-ℤ◌, ◌+◌, ◌*◌, ◌^◌, ◌<◌, ◌≤◌, ◌⊎◌, List, [], ◌∷◌}
use Rattle.std.specs.Prelude.{length, slice_index, nat_lt, if◌then◌else◌, All}

-- each of the numbers is an octet
abbrev pub AreOctets : List ℕ → Type 0
AreOctets octets = All (λ octet. octet < 256) octets

-- the number with these digits to the base `base`, the most significant first
abbrev pub number_of : ℕ → List ℕ → ℕ
number_of base [] = 0
number_of base (digit ∷ rest) = digit * base ^ length rest + number_of base rest

-- the octets as an unsigned number
abbrev pub unsigned : List ℕ → ℕ
unsigned octets = number_of 256 octets

-- the octets as a number in two's complement (X.690, 8.3.3): the unsigned number, less 256 ^
-- length if the high bit of the first octet is set
abbrev pub twos_complement : List ℕ → ℤ
twos_complement octets =
    if nat_lt (slice_index octets 0) 128
    then pos (unsigned octets)
    else pos (unsigned octets) -ℤ pos (256 ^ length octets)

-- `content` encodes the INTEGER `z` of 32 bits: it is 1 to 4 octets in two's complement, minimal
-- or not
pub record IsInteger (content : List ℕ) (z : ℤ) : Type 0 where
  pub some : 1 ≤ length content
  pub few : length content ≤ 4
  pub value : twos_complement content ≡ z

-- the contents that an unsigned number may have: all that are accepted (`lenient`), or only those
-- in two's complement (X.690, 8.3.3), minimal or not (`strict`)
pub data Form : Type 0 where
  lenient : Form
  strict : Form

-- the form allows `content`: `lenient` allows any; `strict` requires that the high bit of the
-- first octet is clear, as in two's complement
abbrev pub Admits : Form → List ℕ → Type 0
Admits lenient content = Unit {0}
Admits strict content = slice_index content 0 < 128

-- `content` encodes the unsigned number `n` in this form: it has 1 to `width` octets, or
-- `width + 1` octets that begin with a zero
pub record IsUnsigned (form : Form) (width : ℕ) (content : List ℕ) (n : ℕ) : Type 0 where
  pub some : 1 ≤ length content
  pub few : (length content ≤ width) ⊎ ((length content ≡ width + 1) × (slice_index content 0 ≡ 0))
  pub value : unsigned content ≡ n
  pub allowed : Admits form content

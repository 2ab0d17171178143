-- A text that is being appended to the octets of a `Vec<u8>`.
use Rattle.std.specs.Prelude.{◌≡◌, ℕ, ◌+◌, ◌/◌, ◌%◌, nat_lt, if◌then◌else◌, List, [], ◌∷◌, ◌++◌}
use Rattle.std.specs.Prelude.{Option, Some}

-- the octets before the text, and the text appended so far: None if memory ran out
pub record Written : Type 0 where
  pub before : List ℕ
  pub added : Option (List ℕ)

-- the empty text after the octets `before`
abbrev pub empty_text_after : List ℕ → Written
empty_text_after before = record { before = before; added = Some [] }

-- `last` is the state `first` with the text appended, unless memory ran out
pub record Grows (first : Written) (text : List ℕ) (last : Written) : Type 0 where
  pub before : last.before ≡ first.before
  pub added : (whole : List ℕ) → last.added ≡ Some whole
      → (prefix : List ℕ) × (first.added ≡ Some prefix) × (whole ≡ prefix ++ text)

-- `new` is the state `old` with the octets appended, unless memory ran out (`grows`). Whatever
-- text was appended between an earlier state `first` and `old`, the octets follow it (`goes_on`).
pub record Adds (old : Written) (octets : List ℕ) (new : Written) : Type 0 where
  pub grows : Grows old octets new
  pub goes_on : (first : Written) (text : List ℕ)
      → Grows first text old → Grows first (text ++ octets) new

-- the upper-case hexadecimal digit of n, which is below 16
abbrev pub upper_digit : ℕ → ℕ
upper_digit n = if nat_lt n 10 then 48 + n else 55 + n

-- an octet as two upper-case hexadecimal digits
abbrev pub hexadecimal_octet : ℕ → List ℕ
hexadecimal_octet octet = upper_digit (octet / 16) ∷ upper_digit (octet % 16) ∷ []

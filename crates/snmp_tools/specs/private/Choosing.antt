-- The letters in a text, computed, and what one letter of -C chooses, for private functions.
use Rattle.std.specs.Prelude.{◌≡◌, ◌⊎◌, ℕ, false, ◌||◌, ◌==◌, if◌then◌else◌, List, [], ◌∷◌}
use Rattle.std.specs.{Char.is_ascii_digit}
use Rattle.snmp_tools.specs.Letters.{AreRepetitions, Choices}

-- the parts (`letter_parts`) of a text that begins with `octet`; `parts` are the parts of what
-- follows the octet
abbrev pub put : ℕ → List ℕ × List (ℕ × List ℕ) → List ℕ × List (ℕ × List ℕ)
put octet parts = if is_ascii_digit octet then (octet ∷ parts.0, parts.1)
    else ([], (octet, parts.0) ∷ parts.1)

-- the parts of a text: the digits that it begins with, and its letters, each with the digits after
-- it
abbrev pub letter_parts : List ℕ → List ℕ × List (ℕ × List ℕ)
letter_parts [] = ([], [])
letter_parts (octet ∷ text) = put octet (letter_parts text)

-- if some letters chose `old`, then these letters and `part`, one letter more, choose `new`
pub record OneMore (part : ℕ × List ℕ) (old new : Choices) : Type 0 where
  pub includes_root : new.includes_root ≡ ((part.0 == 105) || old.includes_root)
  pub counts : new.counts ≡ ((part.0 == 112) || old.counts)
  pub leaves_last_get : new.leaves_last_get ≡ ((part.0 == 73) || old.leaves_last_get)
  pub repetitions : ((part.0 ≡ 114) × AreRepetitions part.1 new.repetitions)
      ⊎ (((part.0 == 114) ≡ false) × (new.repetitions ≡ old.repetitions))

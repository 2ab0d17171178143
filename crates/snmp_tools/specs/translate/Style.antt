-- How each name is printed, by the letters of `-O` and of `-T`.
use Rattle.std.specs.Prelude.{◌≡◌, ◌==◌, ℕ, List, Option, None, find, not}
use Rattle.smi_value.specs.Letters.{AreLetters, first_other, has_letter}
use Rattle.snmp_words.specs.Words.{TranslateWords}
use Rattle.snmp_tools.specs.declared.translate.Style.{Style}

-- the first octet that isn't `d`, the only letter of -T, if there is such an octet
abbrev pub first_other_of_t : List ℕ → Option ℕ
first_other_of_t text = find (λ octet. not (octet == 100)) text

-- all octets of -O and -T are letters with a meaning, and `style` is what they say; if -T has `d`,
-- the details of a name are printed
pub record IsStyleOf (words : TranslateWords) (style : Style) : Type 0 where
  pub known : first_other words.letters ≡ None
  pub letters : AreLetters words.letters style.letters
  pub known_of_t : first_other_of_t words.details ≡ None
  pub details : style.details ≡ has_letter 100 words.details

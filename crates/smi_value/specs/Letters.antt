-- The letters of `-O`, which say how names and values are shown.
use Rattle.std.specs.Prelude.{◌≡◌, ℕ, Bool, true, not, ◌==◌, if◌then◌else◌, List, reverse}
use Rattle.std.specs.Prelude.{codes, Option, Some, None, find}
use Rattle.std.specs.List.{list_any}
use Rattle.smi_value.specs.declared.letters.NameForm.{NameForm}
use Rattle.smi_value.specs.declared.letters.NameForm.TheVariants as names
use Rattle.smi_value.specs.declared.letters.TypeForm.{TypeForm}
use Rattle.smi_value.specs.declared.letters.TypeForm.TheVariants as types
use Rattle.smi_value.specs.declared.letters.StringForm.{StringForm}
use Rattle.smi_value.specs.declared.letters.StringForm.TheVariants as strings
use Rattle.smi_value.specs.declared.letters.Letters.{Letters}

-- whether `octet` is one of `letters`
abbrev pub is_one_of : List ℕ → ℕ → Bool
is_one_of letters octet = list_any (λ letter. letter == octet) letters

-- all letters of `-O`
abbrev pub all_letters : List ℕ
all_letters = codes "nfsSqQvetbUxa"

-- the first octet of `text` that isn't a letter of `-O`, if there is one
abbrev pub first_other : List ℕ → Option ℕ
first_other text = find (λ octet. not (is_one_of all_letters octet)) text

-- the last octet of `text` that is one of `letters`, if there is one
abbrev pub last_of : List ℕ → List ℕ → Option ℕ
last_of letters text = find (is_one_of letters) (reverse text)

-- whether `text` contains `letter`
abbrev pub has_letter : ℕ → List ℕ → Bool
has_letter letter text = list_any (λ octet. octet == letter) text

-- how names are shown, by the last of n, f, s and S; S is the default
abbrev pub name_form : Option ℕ → NameForm
name_form None = names.ModuleLabel
name_form (Some octet) =
    if octet == 110 then names.Numeric else
    (if octet == 102 then names.Full else
    (if octet == 115 then names.Label else names.ModuleLabel))

-- whether types are shown, by the last of q and Q; without either they are
abbrev pub type_form : Option ℕ → TypeForm
type_form None = types.Typed
type_form (Some octet) = if octet == 113 then types.Quick else types.Untyped

-- how strings without a hint are shown, by the last of x and a
abbrev pub string_form : Option ℕ → StringForm
string_form None = strings.Plain
string_form (Some octet) = if octet == 120 then strings.Hexadecimal else strings.Text

-- `letters` is how names and values are shown after `-O` with the letters in `text`
pub record AreLetters (text : List ℕ) (letters : Letters) : Type 0 where
  pub n_f_s_S : letters.names ≡ name_form (last_of (codes "nfsS") text)
  pub q_Q : letters.types ≡ type_form (last_of (codes "qQ") text)
  pub x_a : letters.strings ≡ string_form (last_of (codes "xa") text)
  pub v : letters.value_alone ≡ has_letter 118 text
  pub e : letters.numeric_enumerations ≡ has_letter 101 text
  pub t : letters.raw_ticks ≡ has_letter 116 text
  pub b : letters.numeric_index ≡ has_letter 98 text
  pub U : letters.no_units ≡ has_letter 85 text

-- ---- for private functions

-- `new` is how names and values are shown if the letter `octet` follows the letters of `old`
pub record IsWith (old : Letters) (octet : ℕ) (new : Letters) : Type 0 where
  pub n_f_s_S : new.names
      ≡ (if is_one_of (codes "nfsS") octet then name_form (Some octet) else old.names)
  pub q_Q : new.types
      ≡ (if is_one_of (codes "qQ") octet then type_form (Some octet) else old.types)
  pub x_a : new.strings
      ≡ (if is_one_of (codes "xa") octet then string_form (Some octet) else old.strings)
  pub v : new.value_alone ≡ (if octet == 118 then true else old.value_alone)
  pub e : new.numeric_enumerations ≡ (if octet == 101 then true else old.numeric_enumerations)
  pub t : new.raw_ticks ≡ (if octet == 116 then true else old.raw_ticks)
  pub b : new.numeric_index ≡ (if octet == 98 then true else old.numeric_index)
  pub U : new.no_units ≡ (if octet == 85 then true else old.no_units)

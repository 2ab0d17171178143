-- The pieces of a value's text, as the letters of `-O` say.
use Rattle.std.specs.Prelude.{◌≡◌, ◌<◌, ℕ, pos, ◌+◌, ◌-◌, ◌*◌, ◌/◌, ◌%◌, ◌^◌, Bool, true, false}
use Rattle.std.specs.Prelude.{◌==◌, ◌≤◌, ◌&&◌, ◌||◌, not, if◌then◌else◌, Contains, length}
use Rattle.std.specs.Prelude.{slice_index, List, [], ◌∷◌, ◌++◌, Option, Some, None, codes, decimal}
use Rattle.std.specs.List.{flat_map, list_all}
use Rattle.smi_value.specs.{declared.letters.Letters.Letters, Syntax.name_of_number}
use Rattle.smi_value.specs.declared.letters.TypeForm.{TypeForm}
use Rattle.smi_value.specs.declared.letters.TypeForm.TheVariants as types
use Rattle.smi_value.specs.declared.letters.StringForm.{StringForm}
use Rattle.smi_value.specs.declared.letters.StringForm.TheVariants as strings
use Rattle.smi_text.specs.declared.trees.tree.NamedNumber.{NamedNumber}
use Rattle.smi_value.specs.Texts.{clock_text, days_text, escape_octet, hexadecimal_text}
use Rattle.smi_value.specs.Texts.{is_printable}

-- whether the word of its type is shown before a value: it is, unless with the letters q or Q
abbrev pub is_typed : TypeForm → Bool
is_typed types.Typed = true
is_typed _ = false

-- `word`, a type with a colon and a blank, such as `INTEGER: `; nothing with the letters q or Q
abbrev pub type_word : Letters → List ℕ → List ℕ
type_word letters word = if is_typed letters.types then word else []

-- a blank and the units; nothing if there are none, or with the letter U
abbrev pub units_text : Letters → Option (List ℕ) → List ℕ
units_text letters None = []
units_text letters (Some units) = if letters.no_units then [] else 32 ∷ units

-- the octet, or a dot if it isn't printable
abbrev pub printable_or_dot : ℕ → ℕ
printable_or_dot octet = if is_printable octet then octet else 46

-- the octets as characters between double quotes
abbrev pub quoted : List ℕ → List ℕ
quoted octets =
    codes "\"" ++ flat_map (λ octet. escape_octet (printable_or_dot octet)) octets ++ codes "\""

-- whether a string that isn't empty is shown as text. The last of x and a decides: with x it
-- isn't, with a it is; without either, it is if each octet is printable.
abbrev pub is_text : StringForm → List ℕ → Bool
is_text strings.Plain octets = list_all is_printable octets
is_text strings.Hexadecimal octets = false
is_text strings.Text octets = true

-- a string without a hint: two quotes if it is empty, otherwise as text or in hexadecimal
abbrev pub string_text : Letters → List ℕ → List ℕ
string_text letters [] = codes "\"\""
string_text letters (octet ∷ more) =
    if is_text letters.strings (octet ∷ more)
    then type_word letters (codes "STRING: ") ++ quoted (octet ∷ more)
    else type_word letters (codes "Hex-STRING: ") ++ hexadecimal_text (octet ∷ more)

-- TimeTicks: their number and the time; with t only the number, otherwise with q or Q only the time
abbrev pub ticks_text : Letters → ℕ → List ℕ
ticks_text letters ticks =
    if letters.raw_ticks then decimal ticks else
    (if is_typed letters.types
    then codes "Timeticks: (" ++ decimal ticks ++ codes ") "
    ++ days_text (ticks / 8640000) ++ clock_text ticks
    else decimal (ticks / 8640000) ++ codes ":" ++ clock_text ticks)

-- a value of an enumeration: its name and number; with e only the number, otherwise with q or Q
-- only the name
abbrev pub named_text : Letters → List ℕ → List ℕ → List ℕ
named_text letters name number =
    if letters.numeric_enumerations then number else
    (if is_typed letters.types then name ++ codes "(" ++ number ++ codes ")" else name)

-- a bit that is set: its name and number, or only its number if it has no name, or with e
abbrev pub bit_name : Letters → Option (List ℕ) → List ℕ → List ℕ
bit_name letters None number = number ++ codes " "
bit_name letters (Some name) number =
    if letters.numeric_enumerations then number ++ codes " "
    else name ++ codes "(" ++ number ++ codes ") "

-- bit `n` of a value of BITS is set: with `n` = 8 * `k` + `j`, this is the bit of the weight
-- 128 / 2 ^ `j` in octet `k` (RFC 2578, section 7.1.4)
pub record IsBitSet (octets : List ℕ) (n : ℕ) : Type 0 where
  pub k : ℕ
  pub j : ℕ
  pub index : n ≡ 8 * k + j
  pub octet : k < length octets
  pub within : j < 8
  pub set : slice_index octets k / 2 ^ (7 - j) % 2 ≡ 1

-- `bits` are the numbers of the bits that are set in `octets`, in increasing order
pub record AreSetBits (octets bits : List ℕ) : Type 0 where
  pub rising : (i j : ℕ) → i < j → j < length bits → slice_index bits i < slice_index bits j
  pub set : (n : ℕ) → Contains bits n → IsBitSet octets n
  pub all : (n : ℕ) → IsBitSet octets n → Contains bits n

-- the text of the bit with the number `bit`, which is set: what `bit_name` returns for its name in
-- `names`, if it has one, and its number
abbrev pub set_bit_text : Letters → List NamedNumber → ℕ → List ℕ
set_bit_text letters names bit = bit_name letters (name_of_number names (pos bit)) (decimal bit)

-- `text` shows a value of BITS: the word of its type, unless with q or Q, its octets in
-- hexadecimal, then the bits that are set
pub record IsBitsText (letters : Letters) (names : List NamedNumber) (octets text : List ℕ)
    : Type 0 where
  pub bits : List ℕ
  pub are : AreSetBits octets bits
  pub whole : text ≡ type_word letters (codes "BITS: ") ++ hexadecimal_text octets
      ++ flat_map (set_bit_text letters names) bits

-- ---- for private functions

-- whether an octet is shown unchanged between quotes: printable, and neither `"` nor a backslash
abbrev pub is_plain : ℕ → Bool
is_plain octet = is_printable octet && not ((octet == 34) || (octet == 92))

-- each octet from offset `from` on and before offset `to` is plain
abbrev pub ArePlain : List ℕ → ℕ → ℕ → Type 0
ArePlain octets from to =
    (k : ℕ) → from ≤ k → k < to → is_plain (slice_index octets k) ≡ true

-- the string `octets` is shown as text, with each octet unchanged
pub record IsShownPlain (form : StringForm) (octets : List ℕ) : Type 0 where
  pub text : is_text form octets ≡ true
  pub same : flat_map (λ octet. escape_octet (printable_or_dot octet)) octets ≡ octets

-- the text of the bit with the number `bit` if `set` is 1, otherwise nothing
abbrev pub bit_text : Letters → List NamedNumber → ℕ → ℕ → List ℕ
bit_text letters names bit set = if set == 1 then set_bit_text letters names bit else []

-- the text of the bits that are set in the octet at index `index`, the most significant first
abbrev pub octet_bits : Letters → List NamedNumber → ℕ × ℕ → List ℕ
octet_bits letters names (index, octet) =
    bit_text letters names (8 * index) (octet / 128 % 2)
    ++ bit_text letters names (8 * index + 1) (octet / 64 % 2)
    ++ bit_text letters names (8 * index + 2) (octet / 32 % 2)
    ++ bit_text letters names (8 * index + 3) (octet / 16 % 2)
    ++ bit_text letters names (8 * index + 4) (octet / 8 % 2)
    ++ bit_text letters names (8 * index + 5) (octet / 4 % 2)
    ++ bit_text letters names (8 * index + 6) (octet / 2 % 2)
    ++ bit_text letters names (8 * index + 7) (octet % 2)

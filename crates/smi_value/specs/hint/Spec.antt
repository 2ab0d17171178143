-- Display hints of octets (RFC 2579, section 3.1): how a text is read as specs.
use Rattle.std.specs.Prelude.{◌≡◌, ◌≢◌, ℕ, ◌≤◌, nat_lt, Bool, true, false, ◌&&◌, ◌||◌, ◌==◌}
use Rattle.std.specs.Prelude.{if◌then◌else◌, List, [], ◌∷◌, length, drop, Option, Some, None}
use Rattle.std.specs.Prelude.{is_some, slice_get, option_and_then, option_to_list}
use Rattle.std.specs.{Char.is_ascii_digit, Str.Parse.digits_value}
use Rattle.smi_value.specs.hint.Number.{leading_digits, after_digits}
use Rattle.smi_value.specs.declared.hint.spec.OctetFormat.{OctetFormat}
use Rattle.smi_value.specs.declared.hint.spec.OctetFormat.TheVariants as octet_format
use Rattle.smi_value.specs.declared.hint.spec.Spec.{Spec}

-- the format with this letter: x, d, o, and a or t; None for any other octet
abbrev pub format_of : ℕ → Option OctetFormat
format_of letter =
    if letter == 120 then Some octet_format.Hexadecimal else
    (if letter == 100 then Some octet_format.Decimal else
    (if letter == 111 then Some octet_format.Octal else
    (if (letter == 97) || (letter == 116) then Some octet_format.Text else None)))

-- the most octets that one application may take: 8 in the formats that show them as one number,
-- which then has at most 64 bits
abbrev pub most_octets : OctetFormat → ℕ
most_octets octet_format.Text = 65535
most_octets _ = 8

-- whether the text begins with a star
abbrev pub has_star : List ℕ → Bool
has_star [] = false
has_star (octet ∷ _) = octet == 42

abbrev pub after_star : List ℕ → List ℕ
after_star text = if has_star text then drop 1 text else text

-- whether a spec can begin with the octet: it is a star or a digit
abbrev pub begins_spec : ℕ → Bool
begins_spec octet = (octet == 42) || is_ascii_digit octet

-- the mark (a separator or a terminator) that the text begins with: its first octet, unless a spec
-- can begin with that octet
abbrev pub mark_of : List ℕ → Option ℕ
mark_of [] = None
mark_of (octet ∷ _) = if begins_spec octet then None else Some octet

abbrev pub after_mark : List ℕ → List ℕ
after_mark text = drop (length (option_to_list (mark_of text))) text

-- the part of `text` from the format letter of its first spec to the end
abbrev pub at_letter : List ℕ → List ℕ
at_letter text = after_digits (after_star text)

-- the part of `text` after the format letter of its first spec
abbrev pub after_format_letter : List ℕ → List ℕ
after_format_letter text = drop 1 (at_letter text)

-- whether a spec may have a terminator: it has a star and a separator
abbrev pub may_end : Spec → Bool
may_end spec = spec.is_counted && is_some spec.separator

-- `text` begins with `spec`, in the form [*] length format [separator [terminator]], and `rest`
-- follows
pub record IsFirstSpec (text : List ℕ) (spec : Spec) (rest : List ℕ) : Type 0 where
  pub star : spec.is_counted ≡ has_star text
  pub digits : leading_digits (after_star text) ≢ []
  pub length_is : spec.length ≡ digits_value 10 (leading_digits (after_star text))
  pub format : option_and_then format_of (slice_get (at_letter text) 0) ≡ Some spec.format
  pub fits : spec.length ≤ most_octets spec.format
  pub separator : spec.separator ≡ mark_of (after_format_letter text)
  pub terminator : spec.terminator
      ≡ (if may_end spec then mark_of (after_mark (after_format_letter text)) else None)
  pub after : rest
      ≡ (if may_end spec then after_mark (after_mark (after_format_letter text))
      else after_mark (after_format_letter text))

-- `text` consists of `specs`, one after the other
abbrev pub AreSpecs : List ℕ → List Spec → Type 0
AreSpecs text [] = text ≡ []
AreSpecs text (spec ∷ specs) = (rest : List ℕ) × IsFirstSpec text spec rest × AreSpecs rest specs

-- whether each use of the spec takes at least one octet: it has a star, so it takes the count, or
-- its length isn't 0
abbrev pub takes_octets : Spec → Bool
takes_octets spec = spec.is_counted || nat_lt 0 spec.length

-- the list isn't empty, and each use of its last spec, which is repeated, takes octets
abbrev pub LastTakesOctets : List Spec → Type 0
LastTakesOctets [] = ⊥
LastTakesOctets (spec ∷ []) = takes_octets spec ≡ true
LastTakesOctets (_ ∷ next ∷ more) = LastTakesOctets (next ∷ more)

-- `text` is a hint of octets, which consists of `specs`
pub record IsOctetHint (text : List ℕ) (specs : List Spec) : Type 0 where
  pub read : AreSpecs text specs
  pub ends : LastTakesOctets specs

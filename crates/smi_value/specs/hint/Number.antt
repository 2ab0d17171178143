-- Display hints of integers, and how they show numbers (RFC 2579, section 3.1).
use Rattle.std.specs.Prelude.{◌≡◌, ◌≢◌, ℕ, ℤ, pos, negsuc, suc, zero, ◌+◌, ◌-◌, ◌≤◌, ◌⊎◌, List, []}
use Rattle.std.specs.Prelude.{◌∷◌, ◌++◌, length, take, drop, replicate, codes, decimal, false, Bool}
use Rattle.std.specs.{List.take_while, Char.is_ascii_digit, Fmt.digits, Str.Parse.digits_value}
use Rattle.smi_value.specs.declared.hint.number.NumberForm.{NumberForm}
use Rattle.smi_value.specs.declared.hint.number.NumberForm.TheVariants as form

-- the decimal digits that a text begins with
abbrev pub leading_digits : List ℕ → List ℕ
leading_digits text = take_while is_ascii_digit text

-- the text after the decimal digits that it begins with
abbrev pub after_digits : List ℕ → List ℕ
after_digits text = drop (length (leading_digits text)) text

-- `text` begins with one or more digits, perhaps with leading zeros, whose value is `number`, and
-- `rest` follows them
pub record StartsWithNumber (text : List ℕ) (number : ℕ) (rest : List ℕ) : Type 0 where
  pub some : leading_digits text ≢ []
  pub value : number ≡ digits_value 10 (leading_digits text)
  pub after : rest ≡ after_digits text

-- `text` is `d-` followed by `indices` in decimal digits, which is at most 20: the number of digits
-- that the hint shows after the point
pub record HasPlaces (text : List ℕ) (indices : ℕ) : Type 0 where
  pub after_hyphen : List ℕ
  pub whole : text ≡ 100 ∷ 45 ∷ after_hyphen
  pub number : StartsWithNumber after_hyphen indices []
  pub at_most : indices ≤ 20

-- `text` is the hint of integers for this form
abbrev pub IsNumberHint : List ℕ → NumberForm → Type 0
IsNumberHint text (form.Decimal indices) =
    ((text ≡ codes "d") × (indices ≡ 0)) ⊎ HasPlaces text indices
IsNumberHint text form.Hexadecimal = text ≡ codes "x"
IsNumberHint text form.Octal = text ≡ codes "o"
IsNumberHint text form.Binary = text ≡ codes "b"

-- the digits `number` with a point before the last `indices` of them, or unchanged if `indices` is
-- 0; if there are too few digits, leading zeros are added so that one digit precedes the point
abbrev pub with_point : ℕ → List ℕ → List ℕ
with_point zero number = number
with_point (suc indices) number =
    let padded = replicate (suc indices + 1 - length number) 48 ++ number in
    take (length padded - suc indices) padded ++ 46 ∷ drop (length padded - suc indices) padded

-- a magnitude in this form, in lower case; it has leading zeros only if a point needs them
abbrev pub magnitude_text : NumberForm → ℕ → List ℕ
magnitude_text (form.Decimal indices) n = with_point indices (decimal n)
magnitude_text form.Hexadecimal n = digits 16 false n
magnitude_text form.Octal n = digits 8 false n
magnitude_text form.Binary n = digits 2 false n

-- a number as a hint of integers shows it: `-` if it is negative, and its magnitude
abbrev pub number_text : NumberForm → ℤ → List ℕ
number_text form (pos n) = magnitude_text form n
number_text form (negsuc n) = 45 ∷ magnitude_text form (suc n)

-- ---- for private functions

-- whether the text begins with a decimal digit
abbrev pub begins_with_digit : List ℕ → Bool
begins_with_digit [] = false
begins_with_digit (octet ∷ _) = is_ascii_digit octet

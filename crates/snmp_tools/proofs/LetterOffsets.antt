-- For functions that read letters by offsets: which octets are after an offset of a text (`at_index`, `no_digit_at`), and the value of digits (`weight_at`,
-- `grows`).
use Rattle.std.proofs.{lemmas.Grind.common_steps, lemmas.Bool.Decides.nat_tests, lemmas.Str.digit_value_digit}
use Rattle.std.proofs.Common.{◌≡◌, ◌+◌, ◌*◌, ◌<◌, ◌≤◌, ℕ, true, false, List, [], ◌∷◌, zero, suc, length, drop, slice_index_or, refl, drop-cons}
use Rattle.std.proofs.Common.{add-one, arith, drop_of_length-le}
use Rattle.std.proofs.lemmas.Bool.{and_parts, cases_lt}
use Rattle.std.specs.{Char.digit_value, Char.is_ascii_digit, List.list_all, Str.Parse.digits_value_after}

pub at_index : (letters : List ℕ) (index : ℕ) → index < length letters → drop index letters ≡ slice_index_or letters index 0 ∷ drop (index + 1) letters
at_index letters index low = rw (add-one, drop-cons letters index 0) refl

-- the text doesn't begin with a digit
abbrev pub NoDigitFirst : List ℕ → Type 0
NoDigitFirst [] = Unit {0}
NoDigitFirst (octet ∷ more) = is_ascii_digit octet ≡ false

pub no_digit_at : (rest : List ℕ) (n : ℕ) → (n < length rest → is_ascii_digit (slice_index_or rest n 0) ≡ false) → NoDigitFirst (drop n rest)
no_digit_at rest n maximal = grind (arith, common_steps, cases_lt, at_index, drop_of_length-le)

digit_weight : (c : ℕ) → is_ascii_digit c ≡ true → digit_value c + 48 ≡ c
digit_weight c e = grind (arith, common_steps, nat_tests, digit_value_digit)

pub weight_at : (digits : List ℕ) (i : ℕ) → list_all is_ascii_digit digits ≡ true → i < length digits
    → digit_value (slice_index_or digits i 0) + 48 ≡ slice_index_or digits i 0
weight_at [] i all low = absurd (omega (arith, low))
weight_at (c ∷ more) zero all low = digit_weight c (and_parts (is_ascii_digit c) (list_all is_ascii_digit more) all).0
weight_at (c ∷ more) (suc i) all low = weight_at more i (and_parts (is_ascii_digit c) (list_all is_ascii_digit more) all).1 (omega (arith, low))

-- more digits never make a number smaller
pub grows : (n : ℕ) (digits : List ℕ) → n ≤ digits_value_after 10 n digits
grows n [] = omega arith
grows n (d ∷ digits) = omega (arith, grows (n * 10 + digit_value d) digits)

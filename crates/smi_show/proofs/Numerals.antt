-- A number below 2^32 that is written in decimal digits is read back, and nothing else is read as a number.
use Rattle.std.proofs.{lemmas.Grind.common_steps, lemmas.Bool.ltb-true, lemmas.Bool.lt-ltb}
use Rattle.std.proofs.Common.{◌≡◌, ◌≢◌, ℕ, ◌<◌, ◌^◌, Bool, true, false, ◌&&◌, cond, ltb, List, [], IfSome, IfNone, Option, Some, None, refl, sym, ap}
use Rattle.std.proofs.Common.{arith, decimal, length}
use Rattle.std.specs.Str.{all_ascii_digits}
use Rattle.std.proofs.lemmas.Fmt.{decimal_nonempty, digits_decimal, digits_value-decimal}
use Rattle.std.proofs.lemmas.Str.Parse.{IsNumeralModel, numerals_by_weight, tells_all_ascii_digits}
use Rattle.snmp_oid.specs.Numeric.{IsNumeral, decimal_value}
use Rattle.smi_show.specs.name.Word.{numeral_of}

own : IsNumeralModel (λ ds. all_ascii_digits ds ≡ true) decimal_value
own = numerals_by_weight (λ ds. all_ascii_digits ds ≡ true) tells_all_ascii_digits decimal_value record { empty = refl; more = λ digit rest range. refl }

pub written_numeral : (n : ℕ) → n < 2 ^ 32 → IsNumeral (decimal n) n
written_numeral n small =
    let wide : n < 2 ^ 64 = omega arith in
    let some = decimal_nonempty n wide in
    record {
      some = λ none. omega (arith, some, ap length none);
      digits = digits_decimal own n wide;
      value = digits_value-decimal own n wide;
      fits = small;
    }

pub numeral_is : (part : List ℕ) (n : ℕ) → IsNumeral part n → numeral_of part ≡ Some n
numeral_is part n h = grind (arith, common_steps, lt-ltb)

at_tests : (part : List ℕ) (digits small : Bool) → all_ascii_digits part ≡ digits → ltb (decimal_value part) 4294967296 ≡ small → part ≢ []
    → ((n : ℕ) → IsNumeral part n → ⊥) → cond (digits && small) (Some (decimal_value part)) None ≡ None
at_tests part true true digits small some none =
    absurd (none (decimal_value part) (record { some = some; digits = digits; value = refl; fits = ltb-true (decimal_value part) 4294967296 small }))
at_tests part true false digits small some none = refl
at_tests part false small digits is some none = refl

pub no_numeral : (part : List ℕ) → part ≢ [] → ((n : ℕ) → IsNumeral part n → ⊥) → numeral_of part ≡ None
no_numeral part some none = at_tests part (all_ascii_digits part) (ltb (decimal_value part) 4294967296) refl refl some none

-- if `part` isn't empty, and `read` is the number that `part` writes in digits, or None if `part` isn't a number in digits, then `read` is `numeral_of part`
pub numeral_read : (part : List ℕ) (read : Option ℕ) → part ≢ [] → IfSome read (IsNumeral part) → IfNone read ((n : ℕ) → IsNumeral part n → ⊥)
    → read ≡ numeral_of part
numeral_read part (Some n) some found none = sym (numeral_is part n found)
numeral_read part None some found none = sym (no_numeral part some none)

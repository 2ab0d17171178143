-- One decimal number: how its digits are read, and that a written number reads back.
use Rattle.std.proofs.{lemmas.Grind.common_steps, Math.Seq.take-suc, lemmas.List.append-nil, lemmas.List.length-take-le, Math.Nat.pow-suc}
use Rattle.std.proofs.{Math.Nat.one-le-pow, Math.Nat.le-mul_of_pos_right, lemmas.Bool.and_parts, lemmas.Bool.leb-true}
use Rattle.std.proofs.Common.{decimal, ◌≡◌, ◌≢◌, ℕ, ◌+◌, ◌-◌, ◌*◌, ◌^◌, ◌≤◌, ◌<◌, true, List, [], ◌∷◌, length, drop, get_or, refl, ◌∙◌, ap}
use Rattle.std.proofs.Common.{subst, arith, drop-cons, add-one, take, ◌++◌, append_assoc, leb}
use Rattle.std.proofs.lemmas.Fmt.{decimal_nonempty, digits_decimal, digits_value-decimal}
use Rattle.std.proofs.lemmas.Str.Parse.{IsNumeralModel, numerals_by_weight, tells_all_ascii_digits}
use Rattle.std.specs.{Char.is_ascii_digit, Str.all_ascii_digits}
use Rattle.snmp_oid.specs.Numeric.{decimal_value, IsNumeral}

-- `part` is read up to `left`: `number`, of 32 bits, and then the digits of `left` write the value of `part`; `left` consists of digits if and only if
-- `part` does
pub record IsReadTo (part left : List ℕ) (number : ℕ) : Type 0 where
  pub value : number * 10 ^ length left + decimal_value left ≡ decimal_value part
  pub digits : all_ascii_digits left ≡ all_ascii_digits part
  pub fits : number < 2 ^ 32

-- the next digit may be counted with the number before it or with the digits after it: the value is the same
shifted : (number digit power rest : ℕ) → (number * 10 + digit) * power + rest ≡ number * (power * 10) + (digit * power + rest)
shifted number digit power rest = omega arith

value_more : (part rest : List ℕ) (digit number : ℕ) → IsReadTo part (digit ∷ rest) number
    → (number * 10 + (digit - 48)) * 10 ^ length rest + decimal_value rest ≡ decimal_value part
value_more part rest digit number h =
    shifted number (digit - 48) (10 ^ length rest) (decimal_value rest) ∙ rw (pow-suc 10 (length rest)) at h.value

-- if the number stays below 2^32 with the next digit appended, then the part is read up to the octet after this digit
pub read_more : (part rest : List ℕ) (digit number : ℕ) → is_ascii_digit digit ≡ true → number * 10 + (digit - 48) < 2 ^ 32
    → IsReadTo part (digit ∷ rest) number → IsReadTo part rest (number * 10 + (digit - 48))
read_more part rest digit number is_digit small h = grind (arith, common_steps, value_more)

-- if a part isn't empty and all its digits are read, then it is a numeral of the number
pub read_all : (part : List ℕ) (number : ℕ) → part ≢ [] → IsReadTo part [] number → IsNumeral part number
read_all part number some h = grind (arith, common_steps)

-- if the next digit takes the number to 2^32 or above, then the part isn't a numeral
pub read_large : (part rest : List ℕ) (digit number : ℕ) → 2 ^ 32 ≤ number * 10 + (digit - 48) → IsReadTo part (digit ∷ rest) number → (n : ℕ)
    → IsNumeral part n → ⊥
read_large part rest digit number large h n numeral = grind (arith, common_steps, le-mul_of_pos_right, one-le-pow, value_more)

-- what follows the first `count` octets of `part` is the octet at offset `count`, and then the octets from offset `count + 1` on
prefix_at : (part : List ℕ) (count : ℕ) → count < length part → drop count part ≡ get_or part count 0 ∷ drop (count + 1) part
prefix_at part count low = rw (add-one, drop-cons part count 0) refl

pub read_more_at : (part : List ℕ) (count number : ℕ) → count < length part → is_ascii_digit (get_or part count 0) ≡ true
    → number * 10 + (get_or part count 0 - 48) < 2 ^ 32 → IsReadTo part (drop count part) number
    → IsReadTo part (drop (count + 1) part) (number * 10 + (get_or part count 0 - 48))
read_more_at part count number low is_digit small h = grind (arith, common_steps, read_more, prefix_at)

pub read_large_at : (part : List ℕ) (count number : ℕ) → count < length part → 2 ^ 32 ≤ number * 10 + (get_or part count 0 - 48)
    → IsReadTo part (drop count part) number
    → (n : ℕ) → IsNumeral part n → ⊥
read_large_at part count number low large h =
    read_large part (drop (count + 1) part) (get_or part count 0) number large
    (rw (prefix_at part count low) at h)

-- the first `count` octets of the text are digits that write `number`, of 32 bits, whatever follows them
pub record IsLeadingNumber (text : List ℕ) (count number : ℕ) : Type 0 where
  pub within : count ≤ length text
  pub read : (rest : List ℕ) → IsReadTo (take count text ++ rest) rest number

pub prefix_more : (text : List ℕ) (count number : ℕ) → count < length text → is_ascii_digit (get_or text count 0) ≡ true
    → number * 10 + (get_or text count 0 - 48) < 2 ^ 32 → IsLeadingNumber text count number
    → IsLeadingNumber text (count + 1) (number * 10 + (get_or text count 0 - 48))
prefix_more text count number low is_digit small h = grind (arith, common_steps, add-one, take-suc, append_assoc, read_more)

pub prefix_numeral : (text : List ℕ) (count number : ℕ) → 0 < count → IsLeadingNumber text count number → IsNumeral (take count text) number
prefix_numeral text count number some h =
    let full : length (take count text) ≡ count = length-take-le count text h.within in
    read_all (take count text) number (λ none. omega (arith, ap length none, full))
    (subst (λ (t : List ℕ). IsReadTo t [] number) (append-nil (take count text)) (h.read []))

-- texts of decimal digits, and their value `decimal_value`, satisfy `IsNumeralModel`
own : IsNumeralModel (λ ds. all_ascii_digits ds ≡ true) decimal_value
own = numerals_by_weight (λ ds. all_ascii_digits ds ≡ true) tells_all_ascii_digits decimal_value record { empty = refl; more = λ digit rest range. refl }

pub decimal_is_numeral : (n : ℕ) → n < 2 ^ 32 → IsNumeral (decimal n) n
decimal_is_numeral n small =
    let wide : n < 2 ^ 64 = omega arith in
    record {
      some = λ none. omega (arith, decimal_nonempty n wide, ap length none);
      digits = digits_decimal own n wide;
      value = digits_value-decimal own n wide;
      fits = small;
    }

-- no digit is above the octet of `9`
pub digit_small : (digit : ℕ) → is_ascii_digit digit ≡ true → digit ≤ 57
digit_small digit is_digit = leb-true digit 57 (and_parts (leb 48 digit) (leb digit 57) is_digit).1

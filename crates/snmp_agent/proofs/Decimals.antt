-- If the digits of a text are read one at a time, then the number is their value (`read_more`, `read_all`); a text has at most one value (`same_decimal`).
use Rattle.std.proofs.{lemmas.Grind.common_steps, Math.Nat.pow-suc, Math.Nat.one-le-pow, Math.Nat.le-mul_of_pos_right}
use Rattle.std.proofs.Common.{◌≡◌, ◌≢◌, ℕ, ◌+◌, ◌-◌, ◌*◌, ◌^◌, ◌≤◌, ◌<◌, true, List, [], ◌∷◌, ◌++◌, length, drop, get_or, refl, sym, ◌∙◌}
use Rattle.std.proofs.Common.{arith, drop-cons, add-one}
use Rattle.std.specs.{Char.is_ascii_digit, Str.all_ascii_digits}
use Rattle.snmp_oid.specs.Numeric.{decimal_value, IsNumeral, IsDotted}
use Rattle.snmp_agent.specs.table.Text.{IsDecimal}

-- `number` was read from `text`, and `left` is still to be read: `number` followed by the digits of `left` is the value of `text`, and `left` has only digits
-- if and only if `text` has only digits
pub record IsReadTo (text left : List ℕ) (number : ℕ) : Type 0 where
  pub value : number * 10 ^ length left + decimal_value left ≡ decimal_value text
  pub digits : all_ascii_digits left ≡ all_ascii_digits text

-- the next digit may be counted with the number before it or with the digits after it: the value is the same
shifted : (number digit power rest : ℕ) → (number * 10 + digit) * power + rest ≡ number * (power * 10) + (digit * power + rest)
shifted number digit power rest = omega arith

value_more : (text rest : List ℕ) (digit number : ℕ) → IsReadTo text (digit ∷ rest) number
    → (number * 10 + (digit - 48)) * 10 ^ length rest + decimal_value rest ≡ decimal_value text
value_more text rest digit number h =
    let e : number * (10 ^ length rest * 10) + ((digit - 48) * 10 ^ length rest + decimal_value rest) ≡ decimal_value text = rw (pow-suc 10
    (length rest)) at h.value in
    shifted number (digit - 48) (10 ^ length rest) (decimal_value rest) ∙ e

prefix_at : (text : List ℕ) (count : ℕ) → count < length text → drop count text ≡ get_or text count 0 ∷ drop (count + 1) text
prefix_at text count low = rw (add-one, drop-cons text count 0) refl

at_prefix : (text : List ℕ) (count number : ℕ) → count < length text → IsReadTo text (drop count text) number
    → IsReadTo text (get_or text count 0 ∷ drop (count + 1) text) number
at_prefix text count number low h = rw (← prefix_at text count low) h

-- if a text is read up to a digit, then it is read up to the octet after it, with the digit appended to the number
pub read_more : (text : List ℕ) (count number : ℕ) → count < length text → is_ascii_digit (get_or text count 0) ≡ true → IsReadTo text (drop count text) number
    → IsReadTo text (drop (count + 1) text) (number * 10 + (get_or text count 0 - 48))
read_more text count number low is_digit h = grind (arith, common_steps, at_prefix, value_more)

-- if a text that isn't empty is read to its end, then it is decimal digits of the number
pub read_all : (text : List ℕ) (number : ℕ) → text ≢ [] → IsReadTo text [] number → IsDecimal text number
read_all text number some h = record { some = some; digits = sym h.digits; value = let e : number * 1 + 0 ≡ decimal_value text = h.value in omega arith }

-- if the next digit takes the number to 2^64 or above, then the text isn't a number of 64 bits
pub read_large : (text : List ℕ) (count number : ℕ) → count < length text → 2 ^ 64 ≤ number * 10 + (get_or text count 0 - 48)
    → IsReadTo text (drop count text) number → (n : ℕ) → IsDecimal text n → n < 2 ^ 64 → ⊥
read_large text count number low large h n decimal small = grind (arith, common_steps, at_prefix, le-mul_of_pos_right, one-le-pow, value_more)

-- a string is the digits of at most one number
pub same_decimal : (text : List ℕ) (n m : ℕ) → IsDecimal text n → IsDecimal text m → m ≡ n
same_decimal text n m one other = sym other.value ∙ one.value

-- ---- dotted numerals

digit_first : (text : List ℕ) (n : ℕ) → IsNumeral text n → get_or text 0 0 ≡ 46 → ⊥
digit_first text n h first = grind (arith, common_steps)

prefix_first : (prefix rest : List ℕ) → prefix ≢ [] → get_or (prefix ++ rest) 0 0 ≡ get_or prefix 0 0
prefix_first prefix rest some = grind (arith, common_steps)

-- dotted numerals don't begin with a dot
pub no_dot_first : (text o : List ℕ) → IsDotted text o → get_or text 0 0 ≡ 46 → ⊥
no_dot_first text [] h first = h
no_dot_first text (n ∷ []) h first = digit_first text n h first
no_dot_first text (n ∷ m ∷ o) h first = grind (arith, common_steps, digit_first, prefix_first)

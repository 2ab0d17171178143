-- For two loops: `long_number` reads digits from the first to the last (`value_more`), and `put_digits` writes them from the last to the first
-- (`written_before`, `written_last`).
use Rattle.std.proofs.{lemmas.Grind.common_steps, Math.ListN.set, lemmas.List.drop-set, lemmas.List.get_or-take, lemmas.List.take_more}
use Rattle.std.proofs.{lemmas.List.Sums.prefix_len_passes, lemmas.List.Folds.length-prefix_len, lemmas.Int.Digits.digits_value_more}
use Rattle.std.proofs.{lemmas.Int.Digits.number_after_append, lemmas.Str.digit_value_digit, lemmas.Str.Parse.digits_value-take-le, Math.Pow.pow_mono}
use Rattle.std.proofs.{lemmas.Nat.pow-add, lemmas.Fmt.decimal_digit, lemmas.Fmt.decimal_step}
use Rattle.std.proofs.Common.{◌≡◌, ℕ, suc, ◌+◌, ◌-◌, ◌*◌, ◌/◌, ◌%◌, ◌<◌, ◌≤◌, true, false, List, [], ◌∷◌, length, take, drop, get_or, refl, sym, ◌∙◌}
use Rattle.std.proofs.Common.{ap, arith, rules, tests, add-one, ◌^◌, inl, inr}
use Rattle.std.specs.{Fmt.digits, Fmt.digits_onto, Fmt.digit_glyph, Fmt.decimal, Int.IsInRange, Str.Parse.digits_value, Bool.◌==◌}
use Rattle.smi_value.specs.hint.Number.{leading_digits, StartsWithNumber, IsNumberHint}
use Rattle.smi_value.specs.{hint.Pieces.number_of_octets, declared.hint.number.NumberForm.NumberForm}
use Rattle.smi_value.specs.declared.hint.number.NumberForm.TheVariants as form

-- the digits of `left` in base `base`, at most `at` of them, followed by the digits `written`, are the digits of `n`
pub record AreLeft (at base left : ℕ) (written : List ℕ) (n : ℕ) : Type 0 where
  pub same : digits_onto at base false left written ≡ digits base false n

pub all_left : (base n : ℕ) (written : List ℕ) → written ≡ [] → AreLeft 64 base n written n
unfolding digits
all_left base n written e = record { same = ap (λ (w : List ℕ). digits_onto 64 base false n w) e }

pub one_written : (at base left n : ℕ) (written : List ℕ) → AreLeft (suc at) base left written n → (left / base == 0) ≡ false
    → AreLeft at base (left / base) (digit_glyph false (left % base) ∷ written) n
one_written at base left n written h e = record { same = rw e at h.same }

pub last_written : (at base left n : ℕ) (written : List ℕ) → AreLeft (suc at) base left written n → (left / base == 0) ≡ true
    → digit_glyph false (left % base) ∷ written ≡ digits base false n
last_written at base left n written h e = rw e at h.same

pub prefix_is_digits : (text : List ℕ) (k : ℕ) → k < length (leading_digits text) → IsInRange 48 57 (get_or (leading_digits text) k 0)
prefix_is_digits text k low = grind (arith, common_steps, length-prefix_len, get_or-take, prefix_len_passes)

-- if another digit is written, and it isn't the last one, then the digits of `left / base` are still to be written
pub written_before : (at base left n digit : ℕ) (text : List ℕ) → 0 < at → at ≤ length text → AreLeft at base left (drop at text) n
    → digit ≡ digit_glyph false (left % base)
    → (left / base == 0) ≡ false → AreLeft (at - 1) base (left / base) (drop (at - 1) (set text (at - 1) digit)) n
written_before at base left n digit text some within h is_digit more = grind (arith, common_steps, drop-set, add-one, one_written)

pub written_last : (at base left n digit : ℕ) (text : List ℕ) → 0 < at → at ≤ length text → AreLeft at base left (drop at text) n
    → digit ≡ digit_glyph false (left % base)
    → (left / base == 0) ≡ true → drop (at - 1) (set text (at - 1) digit) ≡ digits base false n
written_last at base left n digit text some within h is_digit no_more = grind (arith, common_steps, drop-set, add-one, last_written)

-- if n is the value of the first i digits, and d is the value of the next digit, then n * 10 + d is the value of the first i + 1
pub value_more : (digits : List ℕ) (i n d : ℕ) → i < length digits → IsInRange 48 57 (get_or digits i 0) → n ≡ digits_value 10 (take i digits)
    → d ≡ get_or digits i 0 - 48
    → n * 10 + d ≡ digits_value 10 (take (i + 1) digits)
value_more digits i n d low digit e f = grind (arith, common_steps, digits_value_more, digit_value_digit)

pub value_above : (text : List ℕ) (i n most : ℕ) → n ≡ digits_value 10 (take (i + 1) (leading_digits text)) → most < n
    → (number : ℕ) (rest : List ℕ) → StartsWithNumber text number rest → most < number
value_above text i n most e above number rest h = grind (arith, common_steps, digits_value-take-le)

-- the number of the first i + 1 octets is 256 times the number of the first i, plus the next octet
pub number_more : (octets : List ℕ) (i : ℕ) → i < length octets → number_of_octets (take (i + 1) octets)
    ≡ number_of_octets (take i octets) * 256 + get_or octets i 0
number_more octets i low = grind (arith, common_steps, take_more, number_after_append)

pub below_more : (n o i : ℕ) → n < 2 ^ (8 * i) → o < 256 → n * 256 + o < 2 ^ (8 * (i + 1))
below_more n o i low small =
    let e : 8 * (i + 1) ≡ 8 * i + 8 = omega arith in
    let f : 2 ^ (8 * i + 8) ≡ 2 ^ (8 * i) * 2 ^ 8 = pow-add 2 (8 * i) 8 in
    rw e (rw f (omega arith))

pub below_56_bits : (n i : ℕ) → n < 2 ^ (8 * i) → i ≤ 7 → n < 2 ^ 56
below_56_bits n i low short =
    let le : 2 ^ (8 * i) ≤ 2 ^ 56 = pow_mono {i = 8 * i} {j = 56} (omega arith) in
    omega (arith, le, low)

-- if `text` isn't a decimal number up to 20, then `d-` followed by `text` isn't a hint of integers
pub no_places : (text : List ℕ) → ((indices : ℕ) → StartsWithNumber text indices [] → indices ≤ 20 → ⊥) → (form : NumberForm)
    → IsNumberHint (100 ∷ 45 ∷ text) form → ⊥
no_places text none (form.Decimal indices) (inl h) = absurd (cc h.0)
no_places text none (form.Decimal indices) (inr h) =
    let same : h.after_hyphen ≡ text = cc h.whole in
    none indices (rw same at h.number) h.at_most
no_places text none _ h = absurd (cc h)

-- ---- one or two octets, in two to four digits

-- the number of the two octets `a` and `b` in base 16: if the two digits of `b` are written, and `a` isn't 0, then the digits of `a` are still to be written
low_two : (a b : ℕ) → 0 < a → b < 256
    → AreLeft 62 16 a (digit_glyph false (b / 16) ∷ digit_glyph false (b % 16) ∷ []) (a * 256 + b)
low_two a b some within =
    let n : ℕ = a * 256 + b in
    let one : (n / 16 == 0) ≡ false = search (rules, tests) in
    let two : (n / 16 / 16 == 0) ≡ false = search (rules, tests) in
    let h = one_written 62 16 (n / 16) n (digit_glyph false (n % 16) ∷ []) (one_written 63 16 n n [] (all_left 16 n [] refl) one) two in
    let x : a ≡ n / 16 / 16 = omega arith in
    let y : b / 16 ≡ n / 16 % 16 = omega arith in
    let z : b % 16 ≡ n % 16 = omega arith in
    record { same = (λ i. digits_onto 62 16 false (x i) (digit_glyph false (y i) ∷ digit_glyph false (z i) ∷ [])) ∙ h.same }

pub hexadecimal_three : (a b : ℕ) → 0 < a → a < 16 → b < 256 → digits 16 false (a * 256 + b)
    ≡ digit_glyph false a ∷ digit_glyph false (b / 16) ∷ digit_glyph false (b % 16) ∷ []
hexadecimal_three a b some low within =
    let none : (a / 16 == 0) ≡ true = search (rules, tests) in
    let same : a % 16 ≡ a = omega arith in
    sym (last_written 61 16 a (a * 256 + b) _ (low_two a b some within) none)
    ∙ ap (λ (d : ℕ). digit_glyph false d ∷ digit_glyph false (b / 16) ∷ digit_glyph false (b % 16) ∷ []) same

pub hexadecimal_four : (a b : ℕ) → 16 ≤ a → a < 256 → b < 256 → digits 16 false (a * 256 + b)
    ≡ digit_glyph false (a / 16) ∷ digit_glyph false (a % 16) ∷ digit_glyph false (b / 16) ∷ digit_glyph false (b % 16) ∷ []
hexadecimal_four a b some low within =
    let more : (a / 16 == 0) ≡ false = search (rules, tests) in
    let none : (a / 16 / 16 == 0) ≡ true = search (rules, tests) in
    let same : a / 16 % 16 ≡ a / 16 = omega arith in
    sym (last_written 60 16 (a / 16) (a * 256 + b) _ (one_written 61 16 a (a * 256 + b) _ (low_two a b (omega arith) within) more) none)
    ∙ ap (λ (d : ℕ). digit_glyph false d ∷ digit_glyph false (a % 16) ∷ digit_glyph false (b / 16) ∷ digit_glyph false (b % 16) ∷ []) same

pub decimal_two : (n : ℕ) → 10 ≤ n → n < 100 → decimal n ≡ (48 + n / 10) ∷ (48 + n % 10) ∷ []
decimal_two n some low = rw (decimal_step n some (omega arith), decimal_digit (n / 10) (omega arith))

pub decimal_three : (n : ℕ) → 100 ≤ n → n < 1000 → decimal n ≡ (48 + n / 100) ∷ (48 + n / 10 % 10) ∷ (48 + n % 10) ∷ []
decimal_three n some low = grind (arith, common_steps, decimal_step, decimal_two)

-- Numbers as octets: how many octets a number takes, by its digits and by its highest bit, and the
-- lengths of encodings.
use Rattle.std.proofs.{lemmas.Grind.common_steps, lemmas.Bool.Decides.nat_tests, lemmas.Bool.cases_lt, lemmas.Bool.le-ltb, lemmas.Bool.lt-ltb}
use Rattle.std.proofs.Common.{true, false, ◌≡◌, ℕ, ◌+◌, ◌-◌, ◌*◌, ◌^◌, ◌<◌, ◌≤◌, ℤ, pos, negsuc, lit<, suc, zero, ◌∷◌, length, refl, sym, ap, ◌∙◌}
use Rattle.std.proofs.Common.{sub-one, pow-add, ⊎_elim, arith, ◌/◌, ◌%◌, List, []}
use Rattle.std.proofs.Math.Nat.{mul-suc, pow-suc, pow-zero, div-one, pow-le-pow_right}
use Rattle.std.specs.Int.{to_be_bytes}
use lib.Signed.{lt_z, le_z}
use mir.Val.{SFits}
use mir.Syntax.{w32}
use lib.IntN.{nat_abs}
use Rattle.snmp_wire.specs.ber.Value.{integer_value}
use Rattle.snmp_wire.specs.ber.Canon.{canon_length, canon_number, canon_value, digit_count, length_size, magnitude_of, number_size, octets, digits}
use Rattle.snmp_wire.proofs.ElementLaws.{content_number, length-canon_element, length-canon_header, sizes_value}
use Rattle.snmp_wire.proofs.{ElementLaws.canon_length_short, ElementLaws.header_short, WritingLaws.writes_same, WritingLaws.writes_then}
use Rattle.snmp_wire.specs.ber.Writing.{Writes}
use Rattle.snmp_wire.proofs.Digits.{digits-add, length-digits, digits-suc}

pub count_taken : (base limit more n : ℕ) → n < limit → digit_count base limit (suc more) n ≡ 1
count_taken base limit more n h = rw (lt-ltb n limit h) refl

pub count_left : (base limit more n : ℕ) → limit ≤ n → digit_count base limit (suc more) n ≡ 1 + digit_count base (limit * base) more n
count_left base limit more n h = rw (le-ltb n limit h) refl

-- `digit_count` is at least 1
pub digit_some : (base limit more n : ℕ) → 1 ≤ digit_count base limit more n
digit_some base limit zero n = omega arith
digit_some base limit (suc more) n = grind (arith, common_steps, ⊎_elim, count_taken, count_left, cases_lt)

-- `digit_count` is at most `1 + more`
pub digit_most : (base limit more n : ℕ) → digit_count base limit more n ≤ 1 + more
digit_most base limit zero n = omega arith
digit_most base limit (suc more) n = grind (arith, common_steps, digit_most base (limit * base) more n, ⊎_elim, count_taken, count_left, cases_lt)

-- a greater number doesn't have fewer digits
pub count_rises : (base limit more m n : ℕ) → m ≤ n → digit_count base limit more m ≤ digit_count base limit more n
count_rises base limit zero m n h = omega arith
count_rises base limit (suc more) m n h =
    grind (arith, common_steps, count_rises base (limit * base) more m n h, ⊎_elim, count_taken, digit_some, count_left, cases_lt)

times_power : (limit base k : ℕ) → limit * base ^ suc k ≡ limit * base * base ^ k
times_power limit base k = omega (arith, ap (λ p. limit * p) (pow-suc base k))

times_one : (limit base : ℕ) → limit * base ^ 0 ≡ limit
times_one limit base = omega (arith, ap (λ p. limit * p) (pow-zero base))

-- `n` takes `less + 1` digits and is below `limit * base ^ less`, for some `less`
pub record Sized (base limit more n : ℕ) : Type 0 where
  pub less : ℕ
  pub size : digit_count base limit more n ≡ suc less
  pub below : n < limit * base ^ less

pub sized : (base limit more n : ℕ) → n < limit * base ^ more → Sized base limit more n
sized base limit zero n h = record { less = 0; size = refl; below = h }
sized base limit (suc more) n h = ⊎_elim
    (λ below. record { less = 0; size = count_taken base limit more n below; below = omega (arith, times_one limit base) })
    (λ above. let s = sized base (limit * base) more n (omega (arith, times_power limit base more)) in record {
      less = suc s.less;
      size = omega (arith, count_left base limit more n above, s.size);
      below = omega (arith, s.below, times_power limit base s.less);
    })
    (cases_lt n limit)

-- a number below `limit * base ^ most` has at most `1 + most` digits
pub digits_small : (base limit more n most : ℕ) → n < limit * base ^ most → digit_count base limit more n ≤ 1 + most
digits_small base limit zero n most h = omega arith
digits_small base limit (suc more) n zero h = grind (arith, common_steps, ⊎_elim, count_taken, times_one, cases_lt)
digits_small base limit (suc more) n (suc most) h = ⊎_elim
    (λ below. omega (arith, count_taken base limit more n below))
    (λ above. let fewer = digits_small base (limit * base) more n most (omega (arith, times_power limit base most)) in
    omega (arith, count_left base limit more n above, fewer))
    (cases_lt n limit)

-- a number with `k + 2` digits is at least `limit * base ^ k`
pub digits_needed : (base limit more n k : ℕ) → digit_count base limit more n ≡ suc (suc k) → limit * base ^ k ≤ n
digits_needed base limit more n k e = grind (arith, common_steps, ⊎_elim, digits_small, cases_lt)

-- two's complement of `number_size n` octets can hold `n`, a number of 64 bits
pub number_fits : (n : ℕ) → n < 2 ^ 64 → 2 * n < 256 ^ number_size n
unfolding number_size
number_fits n h = grind (arith, common_steps, sized, pow-suc)

pub number_some : (n : ℕ) → 1 ≤ number_size n
unfolding number_size
number_some n = digit_some 256 128 8 n

pub number_small : (n most : ℕ) → n < 128 * 256 ^ most → number_size n ≤ 1 + most
unfolding number_size
number_small n most h = digits_small 256 128 8 n most h

complement : (n low high : ℕ) → 2 * n < low → low * high ≡ 18446744073709551616 → 18446744073709551615 - n ≡ (low - (n + 1)) + low * (high - 1)
complement n low zero fits e = omega arith
complement n low (suc high) fits e = grind (arith, common_steps, mul-suc, sub-one)

-- the octets that are written of a negative number of 32 bits are the lowest octets of the number extended to 64 bits
pub octets_below_zero : (n : ℕ) → n < 2 ^ 31 → octets (number_size n) (18446744073709551615 - n) ≡ canon_number (negsuc n)
unfolding canon_number
octets_below_zero n h =
    let count : ℕ = number_size n in
    let few : count ≤ 4 = number_small n 3 (omega arith) in
    let more : ℕ = 256 ^ (8 - count) - 1 in
    let fits : 2 * n < 256 ^ count = number_fits n (omega arith) in
    let positions : count + (8 - count) ≡ 8 = omega arith in
    let power : 256 ^ count * 256 ^ (8 - count) ≡ 18446744073709551616 = sym (pow-add 256 count (8 - count)) ∙ ap (λ k. 256 ^ k) positions in
    let whole : 18446744073709551615 - n ≡ (256 ^ count - (n + 1)) + 256 ^ count * more = complement n (256 ^ count) (256 ^ (8 - count)) fits power in
    ap (octets count) whole ∙ digits-add 256 count (256 ^ count - (n + 1)) more (lit< tt)

pub length-canon_number : (z : ℤ) → length (canon_number z) ≡ number_size (magnitude_of z)
unfolding canon_number
length-canon_number (pos n) = length-digits 256 (number_size n) n
length-canon_number (negsuc n) = length-digits 256 (number_size n) (256 ^ number_size n - (n + 1))

pub magnitude_small : (z : ℤ) → SFits w32 z → magnitude_of z < 2 ^ 31
magnitude_small (pos n) fits = omega (arith, fits)
magnitude_small (negsuc n) fits = omega (arith, fits)

-- an INTEGER of 32 bits has at most four octets
pub number_few : (z : ℤ) → SFits w32 z → length (canon_number z) ≤ 4
number_few z fits = omega (arith, length-canon_number z, number_small (magnitude_of z) 3 (omega (arith, magnitude_small z fits)))

pub integer_most : (z : ℤ) → SFits w32 z → length (canon_value (integer_value z)) ≤ 6
integer_most z fits =
    let few : length (canon_number z) ≤ 4 = number_few z fits in
    let header = header_short (length (canon_number z)) (omega (arith, few)) in
    let whole = sizes_value 2 (length (canon_number z)) (integer_value z) (sym (ap length (content_number z))) (sym header) in
    omega (arith, few, whole)

pub octets_from_zero : (n : ℕ) → octets (number_size n) n ≡ canon_number (pos n)
unfolding canon_number
octets_from_zero n = refl

pub octets_from_below : (n : ℕ) → octets (number_size n) (256 ^ number_size n - (n + 1)) ≡ canon_number (negsuc n)
unfolding canon_number
octets_from_below n = refl

pub canon_length_long : (n : ℕ) → 128 ≤ n → canon_length n ≡ (128 + length_size n) ∷ octets (length_size n) n
unfolding canon_length
canon_length_long n h = rw (le-ltb n 128 h) refl

pub length-canon_length_short : (n : ℕ) → n < 128 → length (canon_length n) ≡ 1
length-canon_length_short n h = ap length (canon_length_short n h)

pub length-canon_length_long : (n : ℕ) → 128 ≤ n → length (canon_length n) ≡ 1 + length_size n
length-canon_length_long n h = grind (arith, common_steps, canon_length_long, length-digits)

pub header_long : (n : ℕ) → 128 ≤ n → 1 + length (canon_length n) ≡ 2 + length_size n
header_long n h = omega (arith, length-canon_length_long n h)

pub ruleset number_lengths = (length-canon_number, length-digits, octets_from_zero)

pub ruleset header_lengths = (header_short, header_long)

pub ruleset length_forms = (canon_length_short, canon_length_long, length-canon_length_short, length-canon_length_long, length-digits)

-- a longer content doesn't have a shorter length field
pub length_rises : (m n : ℕ) → m ≤ n → length (canon_length m) ≤ length (canon_length n)
unfolding length_size
length_rises m n h = grind (arith, common_steps, ⊎_elim, length-canon_length_short, length-canon_length_long, cases_lt, count_rises)

-- the encoding of a negative number of 32 bits is the lowest octets of the number extended to 64 bits
pub extended_below : (z : ℤ) (m : ℕ) → SFits w32 z → lt_z z (pos 0) ≡ true → m ≡ magnitude_of z
    → octets (length (canon_number z)) (18446744073709551615 - m) ≡ canon_number z
extended_below (pos n) m fits below e = absurd (grind (arith, nat_tests))
extended_below (negsuc n) m fits below e = grind (arith, common_steps, length-canon_number, octets_below_zero)

-- the encoding of a number from zero on is the lowest octets of its magnitude, which is the number
pub extended_above : (z : ℤ) (m : ℕ) → lt_z z (pos 0) ≡ false → m ≡ magnitude_of z → octets (length (canon_number z)) m ≡ canon_number z
extended_above (pos n) m above e = ap (λ k. octets k m) (length-canon_number (pos n)) ∙ ap (octets (number_size n)) e ∙ octets_from_zero n
extended_above (negsuc n) m above e = absurd (cc)

pub length-from_zero : (n : ℕ) → length (canon_number (pos n)) ≡ number_size n
length-from_zero n = length-canon_number (pos n)

-- ---- the octets of a number by its highest bit, and four octets at once

-- `128 * 256 ^ m`, the least number that takes `m + 2` octets in two's complement, is 2 to the power `8 * m + 7`
octet_limit : (m : ℕ) → 2 ^ (8 * m + 7) ≡ 128 * 256 ^ m
octet_limit zero = refl
octet_limit (suc m) =
    let more : 8 * suc m + 7 ≡ (8 * m + 7) + 8 = omega arith in
    let split : 2 ^ (8 * suc m + 7) ≡ 2 ^ (8 * m + 7) * 256 = ap (λ k. 2 ^ k) more ∙ pow-add 2 (8 * m + 7) 8 in
    omega (arith, split, octet_limit m, pow-suc 256 m)

pub number_large : (n least : ℕ) → n < 2 ^ 64 → 128 * 256 ^ least ≤ n → suc (suc least) ≤ number_size n
unfolding number_size
number_large n least all h =
    let s = sized 256 128 8 n (omega (arith, all)) in
    ⊎_elim
    (λ above. omega (arith, s.size, above))
    (λ below.
    let fewer : 256 ^ s.less ≤ 256 ^ least = pow-le-pow_right {n = 256} (lit< tt) (omega (arith, below)) in
    absurd (omega (arith, s.below, fewer, h)))
    (cases_lt least s.less)

octets_least : (n k m : ℕ) → 8 * m ≤ suc k → 2 ^ k ≤ n → n < 2 ^ 64 → 1 + m ≤ number_size n
octets_least n k zero fits low all = number_some n
octets_least n k (suc m) fits low all =
    let limit : 2 ^ (8 * m + 7) ≤ 2 ^ k = pow-le-pow_right {n = 2} (lit< tt) (omega (arith, fits)) in
    omega (arith, number_large n m all (omega (arith, limit, octet_limit m, low)))

-- a number of 64 bits whose highest set bit is bit `k` takes `(k + 9) / 8` octets
pub size_of_bits : (n k : ℕ) → 2 ^ k ≤ n → n < 2 * 2 ^ k → n < 2 ^ 64 → number_size n ≡ (k + 9) / 8
size_of_bits n k low high all =
    let m : ℕ = (k + 1) / 8 in
    let limit : 2 ^ suc k ≤ 2 ^ (8 * m + 7) = pow-le-pow_right {n = 2} (lit< tt) (omega arith) in
    let most : number_size n ≤ 1 + m = number_small n m (omega (arith, limit, octet_limit m, high, pow-suc 2 k)) in
    let least : 1 + m ≤ number_size n = octets_least n k m (omega arith) low all in
    omega (arith, most, least)

pub size_one : (n : ℕ) → n < 128 → 1 ≡ number_size n
size_one n h = let one : number_size n ≤ 1 = number_small n 0 (omega (arith, h)) in omega (arith, one, number_some n)

size_is : (n less : ℕ) → n < 2 ^ 64 → 128 * 256 ^ less ≤ n → n < 128 * 256 ^ suc less → number_size n ≡ suc (suc less)
size_is n less all low high = let most = number_small n (suc less) high in omega (arith, most, number_large n less all low)

pub size_four : (n : ℕ) → 8388608 ≤ n → n < 2147483648 → number_size n ≡ 4
size_four n low high = size_is n 2 (omega arith) (omega arith) (omega arith)

pub size_five : (n : ℕ) → 2147483648 ≤ n → n < 2 ^ 32 → number_size n ≡ 5
size_five n low high = size_is n 3 (omega arith) (omega arith) (omega arith)

-- the big-endian octets of a number of 32 bits are its four lowest ones
pub four_octets : (n : ℕ) → to_be_bytes w32 n ≡ octets 4 n
unfolding digits
four_octets n = ap (λ m. (n / 256 ^ 3 % 256) ∷ (n / 256 ^ 2 % 256) ∷ (n / 256 ^ 1 % 256) ∷ (m % 256) ∷ []) (sym (div-one n))

pub writes_four_octets : {old new : List ℕ} {start end : ℕ} (n : ℕ) → 8388608 ≤ n → n < 2147483648 → Writes old start end (octets 4 n) new
    → Writes old start end (canon_number (pos n)) new
writes_four_octets n low high w = writes_same w (ap (λ k. octets k n) (sym (size_four n low high)) ∙ octets_from_zero n)

-- the five lowest octets of a number of 32 bits begin with a zero octet
five_octets : (n : ℕ) → n < 2 ^ 32 → 0 ∷ octets 4 n ≡ octets 5 n
five_octets n h = let zero_octet : n / 256 ^ 4 % 256 ≡ 0 = omega (arith, h) in sym (digits-suc 256 4 n ∙ ap (λ d. d ∷ octets 4 n) zero_octet)

pub writes_five_octets : {old mid new : List ℕ} {start middle end : ℕ} (n : ℕ) → 2147483648 ≤ n → n < 2 ^ 32 → Writes old middle end (octets 4 n) mid
    → Writes mid start middle (0 ∷ []) new → Writes old start end (canon_number (pos n)) new
writes_five_octets n low high w v = writes_same (writes_then w v) (five_octets n high ∙ ap (λ k. octets k n) (sym (size_five n low high)) ∙ octets_from_zero n)

-- the remainder by 256 is the lowest octet of a number
pub one_octet : (n : ℕ) → (n % 256) ∷ [] ≡ octets 1 n
unfolding digits
one_octet n = ap (λ m. (m % 256) ∷ []) (sym (div-one n))

pub two_octets : (n : ℕ) → (n / 256 % 256) ∷ (n % 256) ∷ [] ≡ octets 2 n
unfolding digits
two_octets n = ap (λ m. (n / 256 % 256) ∷ (m % 256) ∷ []) (sym (div-one n))

-- a number from 0 to 127 is encoded as one octet, itself
pub short_number : (z : ℤ) → le_z (pos 0) z ≡ true → lt_z z (pos 128) ≡ true → nat_abs z ∷ [] ≡ canon_number z
short_number (pos n) low high =
    let below : n < 128 = grind (arith, nat_tests) in
    let small : n % 256 ≡ n = omega (arith, below) in
    ap (λ m. m ∷ []) (sym small) ∙ one_octet n ∙ ap (λ k. octets k n) (size_one n below) ∙ octets_from_zero n
short_number (negsuc n) low high = absurd (cc)

pub ruleset element_lengths = (
  length-canon_length_short,
  length-canon_length_long,
  digit_some,
  length-from_zero,
  integer_most,
  length-canon_header,
  length-canon_element,
  count_rises,
  length_rises,
)

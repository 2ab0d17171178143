-- Numbers and their digits: `number_of` and `digits` are inverse to each other, for numbers that
-- the digits can write and for digits below the base (`digits_value`, `digits_are`).
use Rattle.std.proofs.{lemmas.Grind.common_steps, Math.Arith.mod-mul, lemmas.Nat.mul-add-lt, lemmas.List.length_push, lemmas.List.take_more}
use Rattle.std.proofs.Common.{◌≡◌, ℕ, zero, suc, ◌+◌, ◌*◌, ◌/◌, ◌%◌, ◌^◌, ◌<◌, List, [], ◌∷◌, ◌++◌, length, get_or, take, refl, sym, ap, ◌∙◌, add-one}
use Rattle.std.proofs.Common.{lit<, arith}
use Rattle.std.proofs.Math.Nat.{add-mul-div_left, add-mul-mod_self_left, div-eq_of_lt, mod-eq_of_lt, mod-lt, mod-one, mul_assoc, one-le-pow}
use Rattle.std.proofs.Math.Nat.{pow-le-pow_right, pow-suc, pow-succ', pow-zero}
use Rattle.std.proofs.lemmas.List.Elements.{All-from_recursion, recursion_from_All}
use Rattle.std.specs.List.{AllByRecursion}
use Rattle.snmp_wire.specs.{ber.Canon.digits, ber.Number.AreOctets, ber.Number.number_of}

-- one more digit at the end makes the value `base` times as large, plus the digit
pub number_of-push : (base : ℕ) (xs : List ℕ) (digit : ℕ) → number_of base (xs ++ digit ∷ []) ≡ number_of base xs * base + digit
number_of-push base [] digit = rw pow-zero (omega arith)
number_of-push base (first ∷ rest) digit = grind (arith, common_steps, number_of-push base rest digit, length_push, add-one, pow-suc)

-- the value of the first `i + 1` digits is `base` times the value of the first `i`, plus the digit at `i`
pub number_of-more : (base : ℕ) (xs : List ℕ) (i : ℕ) → i < length xs
    → number_of base (take (i + 1) xs) ≡ number_of base (take i xs) * base + get_or xs i 0
number_of-more base xs i lt = ap (number_of base) (take_more xs i 0 lt) ∙ number_of-push base (take i xs) (get_or xs i 0)

-- if a number is below 256 ^ i, then with one more octet it is below 256 ^ (i + 1)
pub octet_more : (i sum octet : ℕ) → sum < 256 ^ i → octet < 256 → sum * 256 + octet < 256 ^ (i + 1)
octet_more i sum octet below small = rw (add-one, pow-suc) (omega arith)

-- if a number has fewer than eight octets, then with one more octet it fits into 64 bits
pub octet_fits : (i sum : ℕ) → i < 8 → sum < 256 ^ i → sum * 256 + 255 < 2 ^ 64
octet_fits i sum lt below = omega (arith, pow-le-pow_right {n = 256} (lit< tt) {i = i} {j = 7} (omega arith))

-- ---- the digits of a number

-- `xs` are digits to the base `base`
abbrev pub AreDigits : ℕ → List ℕ → Type 0
AreDigits base xs = AllByRecursion (λ digit. digit < base) xs

pub below_power : (base : ℕ) (xs : List ℕ) → AreDigits base xs → number_of base xs < base ^ length xs
below_power base [] h = omega (arith, pow-zero base)
below_power base (digit ∷ rest) h =
    omega (arith, mul-add-lt digit (base ^ length rest) (number_of base rest) base h.0 (below_power base rest h.1), pow-suc base (length rest))

pub length-digits : (base count n : ℕ) → length (digits base count n) ≡ count
unfolding digits
length-digits base zero n = refl
length-digits base (suc count) n = ap suc (length-digits base count n)

pub digits-suc : (base count n : ℕ) → digits base (suc count) n ≡ (n / base ^ count % base) ∷ digits base count n
unfolding digits
digits-suc base count n = refl

pub are_digits : (base count n : ℕ) → 0 < base → AreDigits base (digits base count n)
unfolding digits
are_digits base zero n some = tt
are_digits base (suc count) n some = (mod-lt (n / base ^ count) some, are_digits base count n some)

-- if the base isn't 0, then the lowest `count` digits of `n` write the number `n % base ^ count`
pub number_of-digits : (base count n : ℕ) → 0 < base → number_of base (digits base count n) ≡ n % base ^ count
unfolding digits
number_of-digits base zero n some = rw pow-zero (sym (mod-one n))
number_of-digits base (suc count) n some = grind (arith, common_steps, number_of-digits base count n some, length-digits, mod-mul, one-le-pow, pow-succ')

pub digits_value : (base count n : ℕ) → 0 < base → n < base ^ count → number_of base (digits base count n) ≡ n
digits_value base count n some h = number_of-digits base count n some ∙ mod-eq_of_lt h

-- if the base isn't 0, then adding a multiple of `base ^ count` to a number doesn't change its lowest `count` digits
pub digits-add : (base count a b : ℕ) → 0 < base → digits base count (a + base ^ count * b) ≡ digits base count a
unfolding digits
digits-add base zero a b some = refl
digits-add base (suc count) a b some =
    grind (arith, common_steps, digits-add base count a (base * b) some, pow-suc, mul_assoc, add-mul-div_left, one-le-pow, add-mul-mod_self_left)

-- if the base isn't 0, then digits `xs` are the lowest digits of the number that they write
pub digits_are : (base : ℕ) (xs : List ℕ) → 0 < base → AreDigits base xs → xs ≡ digits base (length xs) (number_of base xs)
unfolding digits
digits_are base [] some h = refl
digits_are base (x ∷ xs) some h =
    let rest : ℕ = number_of base xs in
    let power : ℕ = base ^ length xs in
    let turned : x * power + rest ≡ rest + power * x = omega arith in
    let quotient : (rest + power * x) / power ≡ x =
    omega (arith, add-mul-div_left rest x (one-le-pow (length xs) base some), div-eq_of_lt (below_power base xs h.1)) in
    let digit : (x * power + rest) / power % base ≡ x = ap (λ m. m / power % base) turned ∙ ap (λ q. q % base) quotient ∙ mod-eq_of_lt h.0 in
    let others = ap (digits base (length xs)) turned ∙ digits-add base (length xs) rest x some ∙ sym (digits_are base xs some h.1) in
    sym (ap (λ d. d ∷ digits base (length xs) (x * power + rest)) digit ∙ ap (λ ds. x ∷ ds) others)

-- ---- octets

abbrev pub Octets : List ℕ → Type 0
Octets text = AreDigits 256 text

pub both_octets : (xs ys : List ℕ) → Octets xs → Octets ys → Octets (xs ++ ys)
both_octets [] ys h k = k
both_octets (x ∷ xs) ys h k = (h.0, both_octets xs ys h.1 k)

pub prefix_octets : (xs ys : List ℕ) → Octets (xs ++ ys) → Octets xs
prefix_octets [] ys h = tt
prefix_octets (x ∷ xs) ys h = (h.0, prefix_octets xs ys h.1)

pub back_octets : (xs ys : List ℕ) → Octets (xs ++ ys) → Octets ys
back_octets [] ys h = h
back_octets (x ∷ xs) ys h = back_octets xs ys h.1

pub octets_by : (text : List ℕ) → AreOctets text → Octets text
octets_by text all = recursion_from_All (λ octet. octet < 256) text all

pub by_octets : (text : List ℕ) → Octets text → AreOctets text
by_octets text all = All-from_recursion (λ octet. octet < 256) text all

-- What is written of numbers, lengths, elements and values in range encodes them strictly (`spells_value`).
-- No strict encoding of a value is shorter, and one of the same length is the same
-- (`value_least`).
use Rattle.std.proofs.{lemmas.Grind.common_steps, lemmas.Int.ints, lemmas.Bool.cases_lt, lemmas.Bool.Decides.nat_tests, lemmas.Nat.mul-add-lt}
use Rattle.std.proofs.Common.{◌≡◌, ℕ, ℤ, pos, negsuc, ◌+◌, ◌-◌, ◌-ℤ◌, ◌*◌, ◌/◌, ◌%◌, ◌^◌, ◌<◌, ◌≤◌, suc, List, ◌∷◌, length, get_or, sym, ap, subst}
use Rattle.std.proofs.Common.{◌∙◌, inl, inr, ⊎_elim, lit<, arith, refl, lit≤, [], ◌++◌, length-append}
use Rattle.std.proofs.Math.Nat.{div-eq_of_lt, div-lt_iff_lt-mul, le-div_iff_mul-le, one-le-pow, pow-le-pow_right, pow-suc, mul-le-mul_right}
use mir.Val.{SFits}
use mir.Syntax.{w32}
use Rattle.snmp_wire.specs.ber.Canon.{canon_length, canon_number, length_size, magnitude_of, number_size, octets, canon_content, canon_element}
use Rattle.snmp_wire.specs.ber.Canon.{canon_header, canon_value}
use Rattle.snmp_wire.specs.{ber.Length.IsLength, ber.Length.IsElement, ber.Length.IsLongLength, ber.Range.IsInRange}
use Rattle.snmp_wire.specs.ber.Number.{IsInteger, IsUnsigned, strict, twos_complement, unsigned, number_of}
use Rattle.snmp_wire.proofs.{ElementLaws.canon_length_short, ElementLaws.length-canon_element, NameOrder.canonical}
use Rattle.snmp_wire.specs.ber.Value.{Datum, integer_value, octet_string, null_value, object_id, ip_address, counter32, gauge32, time_ticks}
use Rattle.snmp_wire.specs.ber.Value.{opaque_octets, counter64}
use Rattle.snmp_wire.specs.ber.Spelling.{IsContent, SpellsValue, value_tag}
use Rattle.snmp_wire.proofs.NumberSizes.{canon_length_long, digit_most, digit_some, length-canon_length_long, length-canon_length_short}
use Rattle.snmp_wire.proofs.NumberSizes.{length-canon_number, number_small, number_some, octets_from_below, octets_from_zero, sized, digits_small}
use Rattle.snmp_wire.proofs.NumberSizes.{length_rises, number_few}
use Rattle.snmp_wire.proofs.Digits.{Octets, are_digits, digits_value, digits-suc, length-digits, both_octets, octets_by, back_octets, below_power}
use Rattle.snmp_wire.proofs.Digits.{digits_are, prefix_octets}
use Rattle.snmp_wire.proofs.WrittenIdentifiers.{is_object_id, length-name, name_octets}

-- ---- numbers

-- the first of `count + 1` octets of a number is the digit of 256 to the power `count`
first_octet : (count n : ℕ) → get_or (octets (suc count) n) 0 0 ≡ n / 256 ^ count % 256
first_octet count n = ap (λ ds. get_or ds 0 0) (digits-suc 256 count n)

first_below : (count n : ℕ) → n < 128 * 256 ^ count → get_or (octets (suc count) n) 0 0 < 128
first_below count n h = grind (arith, common_steps, div-lt_iff_lt-mul, one-le-pow, first_octet)

first_above : (count n : ℕ) → 128 * 256 ^ count ≤ n → n < 256 ^ suc count → 128 ≤ get_or (octets (suc count) n) 0 0
first_above count n low high = grind (arith, common_steps, le-div_iff_mul-le, one-le-pow, div-lt_iff_lt-mul, pow-suc, first_octet)

-- if `n` is below 2 ^ 64, then it takes `less + 1` octets in two's complement and is below `128 * 256 ^ less`, for some `less`
sized_number : (n : ℕ) → n < 2 ^ 64 → (less : ℕ) × (number_size n ≡ suc less) × (n < 128 * 256 ^ less)
unfolding number_size
sized_number n h = let s = sized 256 128 8 n (omega arith) in (s.less, s.size, s.below)

pub positive : (content : List ℕ) → get_or content 0 0 < 128 → twos_complement content ≡ pos (unsigned content)
positive content h = grind (arith, nat_tests)

pub negative : (content : List ℕ) → 128 ≤ get_or content 0 0 → twos_complement content ≡ pos (unsigned content) -ℤ pos (256 ^ length content)
negative content h = grind (arith, nat_tests)

pub minus : (u n power : ℕ) → u + (n + 1) ≡ power → pos u -ℤ pos power ≡ negsuc n
minus u n power e = omega (arith, ints)

-- the octets written of a number from zero to 2^64 - 1 begin with a bit 0, and are the number as unsigned octets
unsigned_is_strict : (n : ℕ) → n < 2 ^ 64 → (get_or (canon_number (pos n)) 0 0 < 128) × (unsigned (canon_number (pos n)) ≡ n)
unsigned_is_strict n h =
    let s = sized_number n h in
    let text : octets (suc s.0) n ≡ canon_number (pos n) = ap (λ k. octets k n) (sym s.1) ∙ octets_from_zero n in (
      subst (λ (content : List ℕ). get_or content 0 0 < 128) text (first_below s.0 n s.2),
      sym (ap unsigned text) ∙ digits_value 256 (suc s.0) n (lit< tt) (omega (arith, s.2, pow-suc 256 s.0)),
    )

-- the octets written of a negative number of 32 bits are the number in two's complement
negative_value : (n : ℕ) → n < 2 ^ 31 → twos_complement (canon_number (negsuc n)) ≡ negsuc n
negative_value n small =
    let s = sized_number n (omega arith) in
    let size : ℕ = suc s.0 in
    let u : ℕ = 256 ^ size - (n + 1) in
    let text : octets size u ≡ canon_number (negsuc n) = ap (λ k. octets k (256 ^ k - (n + 1))) (sym s.1) ∙ octets_from_below n in
    let power : 256 ^ size ≡ 256 ^ s.0 * 256 = pow-suc 256 s.0 in
    let fits : u < 256 ^ size = omega (arith, s.2, power, one-le-pow s.0 256 (lit< tt)) in
    let large : 128 * 256 ^ s.0 ≤ u = omega (arith, s.2, power) in
    let below = negative (octets size u) (first_above s.0 u large fits) in
    cc (below, digits_value 256 size u (lit< tt) fits, length-digits 256 size u, minus u n (256 ^ size) (omega (arith, s.2, power)))

pub is_integer : (z : ℤ) → SFits w32 z → IsInteger (canon_number z) z
is_integer z fits = record {
  some = omega (arith, length-canon_number z, number_some (magnitude_of z));
  few = number_few z fits;
  value = value z fits;
}
  where
    value : (z : ℤ) → SFits w32 z → twos_complement (canon_number z) ≡ z
    value (pos n) fits = let u = unsigned_is_strict n (omega (arith, fits)) in positive (canon_number (pos n)) u.0 ∙ ap pos u.1
    value (negsuc n) fits = negative_value n (omega (arith, fits))

-- if `width` is at most 8, what is written of a number below `256 ^ width` encodes it strictly: at most `width` octets, or a zero octet and `width` more
pub is_unsigned_of : (width n : ℕ) → width ≤ 8 → n < 256 ^ width → IsUnsigned strict width (canon_number (pos n)) n
is_unsigned_of width n narrow h =
    let wide : 256 ^ width ≤ 256 ^ 8 = pow-le-pow_right (lit< tt) narrow in
    let size : length (canon_number (pos n)) ≡ number_size n = length-canon_number (pos n) in
    let u = unsigned_is_strict n (omega (arith, h, wide)) in
    let most : number_size n ≤ 1 + width = number_small n width (omega (arith, h)) in
    record {
      some = omega (arith, size, number_some n);
      few = ⊎_elim (λ short. inl (omega (arith, size, short))) (λ long. inr
          (omega (arith, size, long, most), zero_first width n h (omega (arith, long, most)))) (cases_lt (number_size n) (width + 1));
      value = u.1;
      allowed = u.0;
    }
  where
    zero_first : (width n : ℕ) → n < 256 ^ width → number_size n ≡ suc width → get_or (canon_number (pos n)) 0 0 ≡ 0
    zero_first width n h e =
        let text : octets (suc width) n ≡ canon_number (pos n) = ap (λ k. octets k n) (sym e) ∙ octets_from_zero n in
        sym (ap (λ content. get_or content 0 0) text) ∙ first_octet width n ∙ ap (λ d. d % 256) (div-eq_of_lt h)

pub number_octets : (z : ℤ) → Octets (canon_number z)
number_octets (pos n) = subst Octets (octets_from_zero n) (are_digits 256 (number_size n) n (lit< tt))
number_octets (negsuc n) = subst Octets (octets_from_below n) (are_digits 256 (number_size n) (256 ^ number_size n - (n + 1)) (lit< tt))

-- ---- lengths

length_fits : (n : ℕ) → n < 2 ^ 32 → n < 256 ^ length_size n
unfolding length_size
length_fits n h = grind (arith, common_steps, sized, pow-suc)

pub is_length : (n : ℕ) → n < 2 ^ 32 → IsLength (canon_length n) n
unfolding length_size
is_length n h = ⊎_elim
    (λ short. inl (record { small = short; one = canon_length_short n short }))
    (λ long. let size = length-digits 256 (length_size n) n in inr (record {
      digits = octets (length_size n) n;
      some = omega (arith, size, digit_some 256 256 3 n);
      few = omega (arith, size, digit_most 256 256 3 n);
      value = digits_value 256 (length_size n) n (lit< tt) (length_fits n h);
      parts = canon_length_long n long ∙ ap (λ k. (128 + k) ∷ octets (length_size n) n) (sym size);
    }))
    (cases_lt n 128)

pub length_octets : (n : ℕ) → Octets (canon_length n)
unfolding length_size
length_octets n = grind (arith, common_steps, ⊎_elim, canon_length_short, canon_length_long, digit_most, are_digits, cases_lt)

pub length-canon_length : (n : ℕ) → length (canon_length n) ≤ 5
unfolding length_size
length-canon_length n = grind (arith, common_steps, ⊎_elim, length-canon_length_short, length-canon_length_long, digit_most, cases_lt)

-- ---- elements

pub is_element : (tag : ℕ) (content : List ℕ) → length content < 2 ^ 32 → IsElement tag content (canon_element tag content)
unfolding canon_element canon_header
is_element tag content h = record { length_octets = canon_length (length content); is_length = is_length (length content) h; parts = refl }

pub element_octets : (tag : ℕ) (content : List ℕ) → tag < 256 → Octets content → Octets (canon_element tag content)
unfolding canon_element canon_header
element_octets tag content h all = (h, both_octets (canon_length (length content)) content (length_octets (length content)) all)

pub element_most : (tag : ℕ) (content : List ℕ) → length (canon_element tag content) ≤ 6 + length content
element_most tag content = omega (arith, length-canon_element tag content, length-canon_length (length content))

-- ---- values

pub length-number : (z : ℤ) → length (canon_number z) ≤ 9
unfolding number_size
length-number z = omega (arith, length-canon_number z, digit_most 256 128 8 (magnitude_of z))

-- the content that is written of a value encodes the value strictly, consists of octets, and has at most 65535 of them
pub record IsGood (value : Datum) : Type 0 where
  pub is_content : IsContent strict value (canon_content value)
  pub are_octets : Octets (canon_content value)
  pub short : length (canon_content value) ≤ 65535

good_number : {value : Datum} (z : ℤ) → canon_content value ≡ canon_number z → IsContent strict value (canon_number z) → IsGood value
good_number {value} z e is = grind (arith, common_steps, number_octets, length-number)

pub good : (value : Datum) → IsInRange value → IsGood value
unfolding canon_content
good (integer_value z) h = good_number z refl (is_integer z h)
good (octet_string text) h = record { is_content = refl; are_octets = octets_by text h.0; short = h.1 }
good (object_id name) h = record { is_content = is_object_id name h.0 h.1; are_octets = name_octets name; short = omega (arith, length-name name, h.1.short) }
good (ip_address address) h = record { is_content = (refl, h.1); are_octets = octets_by address h.0; short = omega (arith, h.1) }
good (counter32 n) h = good_number (pos n) refl (is_unsigned_of 4 n (lit≤ tt) h)
good (gauge32 n) h = good_number (pos n) refl (is_unsigned_of 4 n (lit≤ tt) h)
good (time_ticks n) h = good_number (pos n) refl (is_unsigned_of 4 n (lit≤ tt) h)
good (opaque_octets text) h = record { is_content = refl; are_octets = octets_by text h.0; short = h.1 }
good (counter64 n) h = good_number (pos n) refl (is_unsigned_of 8 n (lit≤ tt) h)
good value h = record { is_content = refl; are_octets = tt; short = omega arith }

tag_fits : (value : Datum) → value_tag value < 256
tag_fits null_value = lit< tt
tag_fits value = lit< tt

-- what is written of a value in range is a strict encoding
pub spells_value : (value : Datum) → IsInRange value → SpellsValue strict value (canon_value value)
unfolding canon_value
spells_value value h =
    let g : IsGood value = good value h in
    record { content = canon_content value; is_content = g.is_content; element = is_element (value_tag value) (canon_content value) (omega (arith, g.short)) }

pub value_octets : (value : Datum) → IsInRange value → Octets (canon_value value)
unfolding canon_value
value_octets value h = element_octets (value_tag value) (canon_content value) (tag_fits value) (good value h).are_octets

pub value_short : (value : Datum) → IsInRange value → length (canon_value value) ≤ 65541
unfolding canon_value
value_short value h = omega (arith, element_most (value_tag value) (canon_content value), (good value h).short)

-- ---- a strict encoding isn't shorter than the one that is written, and is the same if it is as
-- long

-- `text` isn't shorter than `made`, and if it isn't longer either, they are the same
pub record IsNoShorter (made text : List ℕ) : Type 0 where
  pub least : length made ≤ length text
  pub one : length text ≤ length made → text ≡ made

pub same_text : {made text : List ℕ} → text ≡ made → IsNoShorter made text
same_text e = record { least = omega (arith, ap length e); one = λ short. e }

-- if `IsNoShorter` holds of `a` and `c`, and of `b` and `d`, then it holds of `a ++ b` and `c ++ d`
pub both_texts : {a b c d : List ℕ} → IsNoShorter a c → IsNoShorter b d → IsNoShorter (a ++ b) (c ++ d)
both_texts {a} {b} {c} {d} this that = grind (arith, common_steps, length-append)

-- ---- numbers

-- if octets are the number `z` in two's complement, then `z` fits in that many octets; and if they
-- are as many as `number_size` says, then they are the octets that are written of `z`
number_is : (first : ℕ) (rest : List ℕ) (z : ℤ) → Octets (first ∷ rest) → twos_complement (first ∷ rest) ≡ z
    → (magnitude_of z < 128 * 256 ^ length rest) × (suc (length rest) ≡ number_size (magnitude_of z) → first ∷ rest ≡ canon_number z)
number_is first rest z h e =
    let power : ℕ = 256 ^ length rest in
    let u : ℕ = unsigned (first ∷ rest) in
    let low : number_of 256 rest < power = below_power 256 rest h.1 in
    let are : first ∷ rest ≡ octets (suc (length rest)) u = digits_are 256 (first ∷ rest) (lit< tt) h in
    ⊎_elim
    (λ small.
    let bound : first * power + number_of 256 rest < power * 128 = mul-add-lt first power (number_of 256 rest) 128 small low in
    rw (← e, positive (first ∷ rest) small) (omega (arith, bound), λ same. are ∙ ap (λ k. octets k u) same ∙ octets_from_zero u))
    (λ large.
    let n : ℕ = 256 ^ suc (length rest) - u - 1 in
    let whole : 256 ^ suc (length rest) ≡ power * 256 = pow-suc 256 (length rest) in
    let high : first * power + number_of 256 rest < power * 256 = mul-add-lt first power (number_of 256 rest) 256 h.0 low in
    let least : 128 * power ≤ first * power = mul-le-mul_right power large in
    let back : u ≡ 256 ^ suc (length rest) - (n + 1) = omega (arith, high, whole) in
    rw (← e, negative (first ∷ rest) large, minus u n (256 ^ suc (length rest)) (omega (arith, high, whole))) (
      omega (arith, least, whole, high),
      λ same. are ∙ ap (octets (suc (length rest))) back ∙ ap (λ k. octets k (256 ^ k - (n + 1))) same ∙ octets_from_below n,
    ))
    (cases_lt first 128)

number_least : (content : List ℕ) (z : ℤ) → Octets content → 1 ≤ length content → twos_complement content ≡ z → IsNoShorter (canon_number z) content
number_least [] z h some e = absurd (omega (arith, some))
number_least (first ∷ rest) z h some e = grind (arith, common_steps, number_is, number_small, length-canon_number)

-- an INTEGER of at most four octets fits 32 bits
pub signed_fits : (content : List ℕ) (z : ℤ) → Octets content → IsInteger content z → SFits w32 z
signed_fits [] z h is = absurd (omega (arith, is.some))
signed_fits (first ∷ rest) z h is = grind (arith, common_steps, pow-le-pow_right, number_is)

unsigned_least : (content : List ℕ) (n : ℕ) → Octets content → 1 ≤ length content → get_or content 0 0 < 128 → unsigned content ≡ n
    → IsNoShorter (canon_number (pos n)) content
unsigned_least content n h some first e = number_least content (pos n) h some (positive content first ∙ ap pos e)

-- ---- lengths

long_least : (length_field : List ℕ) (n : ℕ) → Octets length_field → IsLongLength length_field n → 128 ≤ n → IsNoShorter (canon_length n) length_field
unfolding length_size
long_least length_field n h l above =
    let all : Octets ((128 + length l.digits) ∷ l.digits) = subst Octets l.parts h in
    let size : length length_field ≡ suc (length l.digits) = ap length l.parts in
    let bound : n < 256 ^ length l.digits = subst (λ (v : ℕ). v < 256 ^ length l.digits) l.value (below_power 256 l.digits all.1) in
    let less : length l.digits ≡ suc (length l.digits - 1) = omega (arith, l.some) in
    let few : length_size n ≤ length l.digits =
    omega (arith, digits_small 256 256 3 n (length l.digits - 1) (omega (arith, bound, ap (λ k. 256 ^ k) less, pow-suc 256 (length l.digits - 1))), l.some) in
    record {
      least = omega (arith, size, length-canon_length_long n above, few);
      one = λ short.
          let same : length l.digits ≡ length_size n = omega (arith, size, length-canon_length_long n above, few, short) in
          cc (digits_are 256 l.digits (lit< tt) all.1, canon_length_long n above);
    }

length_least : (length_field : List ℕ) (n : ℕ) → Octets length_field → IsLength length_field n → IsNoShorter (canon_length n) length_field
length_least length_field n h (inl s) = same_text (s.one ∙ sym (canon_length_short n s.small))
length_least length_field n h (inr l) = ⊎_elim
    (λ below.
    let longer : length (canon_length n) < length length_field = omega (arith, length-canon_length_short n below, ap length l.parts, l.some) in
    record { least = omega arith; one = λ short. absurd (omega (arith, longer, short)) })
    (λ above. long_least length_field n h l above)
    (cases_lt n 128)

-- ---- values

content_least : (value : Datum) (content : List ℕ) → Octets content → IsContent strict value content → IsNoShorter (canon_content value) content
unfolding canon_content
content_least (integer_value z) content h is = number_least content z h is.some is.value
content_least (object_id name) content h is = same_text (canonical content name h is)
content_least (ip_address address) content h is = same_text is.0
content_least (counter32 n) content h is = unsigned_least content n h is.some is.allowed is.value
content_least (gauge32 n) content h is = unsigned_least content n h is.some is.allowed is.value
content_least (time_ticks n) content h is = unsigned_least content n h is.some is.allowed is.value
content_least (counter64 n) content h is = unsigned_least content n h is.some is.allowed is.value
content_least value content h is = same_text is

-- ---- elements

pub content_octets : {tag : ℕ} {content text : List ℕ} → Octets text → IsElement tag content text → Octets content
content_octets {tag} {content} {text} h is = grind (arith, common_steps, length_octets, back_octets)

pub element_least : {tag : ℕ} {content made text : List ℕ} → Octets text → IsElement tag content text → IsNoShorter made content
    → IsNoShorter (canon_element tag made) text
unfolding canon_element canon_header
element_least {tag} {content} {made} {text} h is inner =
    let all : Octets (tag ∷ is.length_octets ++ content) = subst Octets is.parts h in
    let length_field = length_least is.length_octets (length content) (prefix_octets is.length_octets content all.1) is.is_length in
    let size : length text ≡ suc (length (is.length_octets ++ content)) = ap length is.parts in
    let whole = length-canon_element tag made in
    let rises : length (canon_length (length made)) ≤ length (canon_length (length content)) = length_rises (length made) (length content) inner.least in
    record {
      least = omega (arith, size, length-append is.length_octets content, whole, rises, length_field.least, inner.least);
      one = λ short.
          let few : length content ≤ length made = omega (arith, size, length-append is.length_octets content, whole, rises, length_field.least, short) in
          let same : content ≡ made = inner.one few in
          let first : is.length_octets ≡ canon_length (length content) = length_field.one
          (omega (
            arith,
            size,
            length-append is.length_octets content,
            whole,
            ap (λ (o : List ℕ). length (canon_length (length o))) same,
            short,
            inner.least,
          )) in
          is.parts ∙ ap (λ (o : List ℕ). tag ∷ o ++ content) first ∙ ap (λ (o : List ℕ). tag ∷ canon_length (length o) ++ o) same;
    }

pub value_least : (value : Datum) (text : List ℕ) → Octets text → SpellsValue strict value text → IsNoShorter (canon_value value) text
unfolding canon_value
value_least value text h is = element_least h is.element (content_least value is.content (content_octets h is.element) is.is_content)

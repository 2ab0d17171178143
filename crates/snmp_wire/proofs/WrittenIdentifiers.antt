-- How identifiers are written: the lengths of their encodings, that these encode them
-- (`is_subidentifier`, `is_object_id`), and that a subidentifier has no other encoding of the same
-- length (`same_subidentifier`).
use Rattle.std.proofs.{lemmas.Grind.common_steps, lemmas.Grind.flat_map-append, lemmas.Nat.le_or_l, lemmas.Nat.le_or_r}
use Rattle.std.proofs.Common.{◌≡◌, ℕ, ◌+◌, ◌-◌, ◌*◌, ◌/◌, ◌%◌, ◌^◌, ◌<◌, ◌≤◌, suc, List, [], ◌∷◌, ◌++◌, length, take, drop, get_or, refl, sym, ap}
use Rattle.std.proofs.Common.{◌∙◌, arith, length-append, take_all, ◌≢◌, zero, map, subst, lit<}
use Rattle.std.proofs.lemmas.List.{append-nil, drop_all, drop_more, length-map, take-append-drop, map-append}
use Rattle.std.proofs.Math.Nat.{div-lt_iff_lt-mul, le-div_iff_mul-le, mod-lt, one-le-pow, pow-suc}
use Rattle.std.proofs.lemmas.List.Elements.{All-from_recursion, recursion_from_All}
use Rattle.std.specs.{Int.Bits.bit_or, List.AllByRecursion, List.flat_map}
use Rattle.snmp_oid.specs.Identifier.{IsWire, IsIdentifier}
use Rattle.snmp_wire.specs.ber.Canon.{AreShort, canon_content, canon_subidentifier, digits, eight_from, septets, subidentifier_size}
use Rattle.snmp_wire.specs.{ber.Value.object_id, ber.Writing.Writes, ber.Number.number_of}
use Rattle.snmp_wire.proofs.WritingLaws.{length-flat_map_drop, writes_same, writes_then}
use Rattle.snmp_wire.specs.ber.Identifier.{AreSubidentifiers, IsObjectId, IsSubidentifier, subidentifiers}
use Rattle.snmp_wire.proofs.NumberSizes.{count_left, count_taken, digit_most, digit_some, digits_needed, sized}
use Rattle.snmp_wire.proofs.Digits.{length-digits, AreDigits, Octets, below_power, both_octets, digits_are, digits_value, prefix_octets}
use Rattle.snmp_wire.proofs.Digits.{number_of-push}

pub length-septets : (count n : ℕ) → length (septets count n) ≡ count
unfolding septets
length-septets count n = length-map (digits 128 count n) (λ digit. 128 + digit) ∙ length-digits 128 count n

pub septets-suc : (count n : ℕ) → septets (suc count) n ≡ (128 + n / 128 ^ count % 128) ∷ septets count n
unfolding septets digits
septets-suc count n = refl

-- a subidentifier of one octet is that octet
pub subidentifier_short : (n : ℕ) → n < 128 → canon_subidentifier n ≡ n ∷ []
unfolding canon_subidentifier subidentifier_size septets digits
subidentifier_short n h = grind (arith, common_steps, count_taken)

pub subidentifier_one : (n : ℕ) → n < 128 → 1 ≡ subidentifier_size n
unfolding subidentifier_size
subidentifier_one n h = sym (count_taken 128 128 3 n h)

pub subidentifier_parts : (n : ℕ) → canon_subidentifier n ≡ septets (subidentifier_size n - 1) (n / 128) ++ (n % 128) ∷ []
unfolding canon_subidentifier
subidentifier_parts n = refl

pub size_some : (n : ℕ) → 1 ≤ subidentifier_size n
unfolding subidentifier_size
size_some n = digit_some 128 128 4 n

pub subidentifier_most : (n : ℕ) → subidentifier_size n ≤ 5
unfolding subidentifier_size
subidentifier_most n = digit_most 128 128 4 n

pub length-canon_subidentifier : (n : ℕ) → length (canon_subidentifier n) ≡ subidentifier_size n
length-canon_subidentifier n = grind (arith, common_steps, subidentifier_parts, length-append, length-septets, size_some)

-- if the last octet of a subidentifier is written, and then the other octets before it, then the subidentifier is written
pub writes_subidentifier : {old mid new : List ℕ} {start middle end : ℕ} (n count : ℕ) → count ≡ subidentifier_size n
    → Writes old middle end ((n % 128) ∷ []) mid → Writes mid start middle (septets (count - 1) (n / 128)) new
    → Writes old start end (canon_subidentifier n) new
writes_subidentifier n count e w v = writes_same (writes_then w v) (ap (λ k. septets (k - 1) (n / 128) ++ (n % 128) ∷ []) e ∙ sym (subidentifier_parts n))

-- a subidentifier from 128 to 16383 has two octets
pub subidentifier_two : (n : ℕ) → 128 ≤ n → n < 16384 → 2 ≡ subidentifier_size n
unfolding subidentifier_size
subidentifier_two n more below = sym (count_left 128 128 3 n more ∙ ap (λ k. 1 + k) (count_taken 128 (128 * 128) 2 n below))

pub subidentifier_three : (n : ℕ) → 16384 ≤ n → n < 2097152 → 3 ≡ subidentifier_size n
unfolding subidentifier_size
subidentifier_three n more below = grind (arith, common_steps, count_left, count_taken)

pub one_septet : (n : ℕ) → n < 128 → (128 + n) ∷ [] ≡ septets 1 n
unfolding septets digits
one_septet n below = let same : n / 1 % 128 ≡ n = omega (arith, below) in sym (ap (λ m. (128 + m) ∷ []) same)

pub two_septets : (m : ℕ) → m < 16384 → (128 + m / 128) ∷ (128 + m % 128) ∷ [] ≡ septets 2 m
unfolding septets digits
two_septets m below = grind (arith, common_steps)

-- the content of an identifier is a subidentifier that joins its first two numbers, followed by a subidentifier for each other number
pub content_parts : (name : List ℕ) → IsWire name → canon_content (object_id name) ≡ canon_subidentifier (40 * get_or name 0 0 + get_or name 1 0)
    ++ flat_map canon_subidentifier (take (length name - 2) (drop 2 name))
unfolding canon_content
content_parts [] wire = absurd wire
content_parts (x ∷ []) wire = absurd wire
content_parts (x ∷ y ∷ rest) wire = grind (arith, common_steps, take_all)

-- the numbers from index `i` on take as many octets as the number at `i` and the numbers after it
pub length-numbers_from : (numbers : List ℕ) (i number : ℕ) → i < length numbers → number ≡ get_or numbers i 0
    → length (flat_map canon_subidentifier (drop i numbers)) ≡ subidentifier_size number + length (flat_map canon_subidentifier (drop (i + 1) numbers))
length-numbers_from numbers i number h e = grind (arith, common_steps, length-flat_map_drop, length-canon_subidentifier)

-- if `numbers` are the numbers of `name`, and `first` joins the first two, then the content is the subidentifier `first` and one for each other number
pub content_is : (numbers name : List ℕ) (first : ℕ) → IsWire name → numbers ≡ name → first ≡ 40 * get_or numbers 0 0 + get_or numbers 1 0
    → canon_content (object_id name) ≡ canon_subidentifier first ++ flat_map canon_subidentifier (take (length numbers - 2) (drop 2 numbers))
content_is numbers name first wire same e = rw (e, same) (content_parts name wire)

pub length-content : (numbers name : List ℕ) → IsWire name → numbers ≡ name
    → length (canon_content (object_id name)) ≡ subidentifier_size (40 * get_or numbers 0 0 + get_or numbers 1 0) + length
    (flat_map canon_subidentifier (take (length numbers - 2) (drop 2 numbers)))
length-content numbers name wire same = grind (arith, common_steps, content_is, length-append, length-canon_subidentifier)

-- ---- numbers of one octet each

-- numbers below 128 are written as they are
plain_then : (xs ys : List ℕ) → AllByRecursion (λ n. n < 128) xs → flat_map canon_subidentifier (xs ++ ys) ≡ xs ++ flat_map canon_subidentifier ys
plain_then [] ys h = refl
plain_then (x ∷ xs) ys h = grind (arith, common_steps, plain_then xs ys h.1, subidentifier_short)

-- the numbers from index `i` on are the number at `i` and those after it
number_then : (numbers : List ℕ) (i next : ℕ) → i + 1 ≡ next → next ≤ length numbers → drop i numbers ≡ get_or numbers i 0 ∷ drop next numbers
number_then numbers i next e h = drop_more numbers i 0 (omega (arith, e, h)) ∙ ap (λ k. get_or numbers i 0 ∷ drop k numbers) e

pub eight_then : (numbers : List ℕ) (from : ℕ) → from + 8 ≤ length numbers → drop from numbers ≡ eight_from numbers from ++ drop (from + 8) numbers
eight_then numbers from h = grind (arith, common_steps, number_then)

-- if the bitwise or of four numbers is below 128, so is each of them
pub below_128 : (a b c d : ℕ) → bit_or (bit_or (bit_or a b) c) d < 128 → (a < 128) × (b < 128) × (c < 128) × (d < 128)
below_128 a b c d low = grind (arith, common_steps, le_or_l, le_or_r)

-- if the bitwise or of eight numbers is below 128, so is each of them
pub eight_low : (numbers : List ℕ) (from : ℕ)
    → bit_or (bit_or (bit_or (bit_or (get_or numbers from 0) (get_or numbers (from + 1) 0)) (get_or numbers (from + 2) 0)) (get_or numbers (from + 3) 0))
    (bit_or (bit_or (bit_or (get_or numbers (from + 4) 0) (get_or numbers (from + 5) 0)) (get_or numbers (from + 6) 0)) (get_or numbers (from + 7) 0)) < 128
    → AreShort numbers from
eight_low numbers from h = grind (arith, common_steps, below_128, le_or_l, le_or_r)

-- if the eight numbers before the last are below 128, they are written as they are, between the
-- others and the last
pub nine : (numbers : List ℕ) (number : ℕ) → 9 ≤ length numbers → AreShort numbers (length numbers - 9) → number ≡ get_or numbers (length numbers - 1) 0
    → flat_map canon_subidentifier (take (length numbers - 9) numbers) ++ (eight_from numbers (length numbers - 9) ++ canon_subidentifier number)
    ≡ flat_map canon_subidentifier numbers
nine numbers number h s e =
    let k : ℕ = length numbers - 9 in
    let prefix : List ℕ = take k numbers in
    let eight : List ℕ = eight_from numbers k in
    let position : k + 8 ≡ length numbers - 1 = omega (arith, h) in
    let last : drop (k + 8) numbers ≡ number ∷ [] =
    cc (number_then numbers (k + 8) (length numbers) (omega (arith, h)) (omega arith), drop_all (length numbers) numbers (omega arith)) in
    let parts : numbers ≡ prefix ++ (eight ++ number ∷ []) = cc (eight_then numbers k (omega (arith, h)), take-append-drop k numbers) in
    let short : AllByRecursion (λ n. n < 128) eight = (s.first, (s.second, (s.third, (s.fourth, (s.fifth, (s.sixth, (s.seventh, (s.eighth, tt)))))))) in
    let all : flat_map canon_subidentifier (eight ++ number ∷ []) ≡ eight ++ canon_subidentifier number =
    plain_then eight (number ∷ []) short ∙ ap (λ (more : List ℕ). eight ++ more) (append-nil (canon_subidentifier number)) in
    sym (ap (flat_map canon_subidentifier) parts ∙ flat_map-append canon_subidentifier prefix (eight ++ number ∷ [])
    ∙ ap (λ (more : List ℕ). flat_map canon_subidentifier prefix ++ more) all)

pub nine_counted : (numbers : List ℕ) (number : ℕ) → 9 ≤ length numbers → AreShort numbers (length numbers - 9)
    → number ≡ get_or numbers (length numbers - 1) 0
    → length (flat_map canon_subidentifier numbers)
    ≡ length (flat_map canon_subidentifier (take (length numbers - 9) numbers)) + (8 + subidentifier_size number)
nine_counted numbers number h s e =
    omega (arith, simp (length-append, length-canon_subidentifier) at (ap length (nine numbers number h s e)))

pub none_before : (numbers : List ℕ) → length numbers ≡ 9 → flat_map canon_subidentifier (take (length numbers - 9) numbers) ≡ []
none_before numbers e = let none : length numbers - 9 ≡ 0 = omega (arith, e) in ap (λ k. flat_map canon_subidentifier (take k numbers)) none

pub plain_before : (numbers : List ℕ) (left : ℕ) → 4 ≤ left → left ≤ length numbers → bit_or (bit_or (bit_or (get_or numbers (left - 4) 0)
    (get_or numbers (left - 3) 0)) (get_or numbers (left - 2) 0)) (get_or numbers (left - 1) 0) < 128
    → flat_map canon_subidentifier (drop (left - 4) numbers) ≡ (get_or numbers (left - 4) 0 ∷ get_or numbers (left - 3) 0 ∷ get_or numbers (left - 2) 0
    ∷ get_or numbers (left - 1) 0 ∷ []) ++ flat_map canon_subidentifier (drop left numbers)
plain_before numbers left some within low =
    let small = below_128 _ _ _ _ low in
    let four = get_or numbers (left - 4) 0 ∷ get_or numbers (left - 3) 0 ∷ get_or numbers (left - 2) 0 ∷ get_or numbers (left - 1) 0 ∷ [] in
    let parts : drop (left - 4) numbers ≡ four ++ drop left numbers = grind (arith, common_steps, number_then) in
    ap (flat_map canon_subidentifier) parts ∙ plain_then four (drop left numbers) (small.0, (small.1, (small.2, (small.3, tt))))

-- ---- digits of seven bits

abbrev pub low_bits : List ℕ → List ℕ
low_bits text = map (λ octet. octet % 128) text

pub bits_below : (text : List ℕ) → AreDigits 128 (low_bits text)
bits_below [] = tt
bits_below (x ∷ xs) = (omega arith, bits_below xs)

pub length-low_bits : (text : List ℕ) → length (low_bits text) ≡ length text
length-low_bits text = length-map text (λ octet. octet % 128)

low_septets : (count n : ℕ) → low_bits (septets count n) ≡ digits 128 count n
unfolding septets digits
low_septets zero n = refl
low_septets (suc count) n = grind (arith, common_steps, low_septets count n)

abbrev AreHigh : List ℕ → Type 0
AreHigh text = AllByRecursion (λ octet. 128 ≤ octet) text

high_septets : (count n : ℕ) → AreHigh (septets count n)
unfolding septets digits
high_septets zero n = tt
high_septets (suc count) n = (omega arith, high_septets count n)

septet_octets : (count n : ℕ) → Octets (septets count n)
unfolding septets digits
septet_octets zero n = tt
septet_octets (suc count) n = (omega arith, septet_octets count n)

-- octets with the high bit set are the base-128 digits of their number
septets_are : (prefix : List ℕ) → Octets prefix → AreHigh prefix → prefix ≡ septets (length prefix) (number_of 128 (low_bits prefix))
unfolding septets
septets_are prefix h high = marked prefix h high ∙ ap (map (λ digit. 128 + digit)) (digits_are 128 (low_bits prefix) (lit< tt) (bits_below prefix)
    ∙ ap (λ k. digits 128 k (number_of 128 (low_bits prefix))) (length-low_bits prefix))
  where
    marked : (prefix : List ℕ) → Octets prefix → AreHigh prefix → prefix ≡ map (λ digit. 128 + digit) (low_bits prefix)
    marked [] h high = refl
    marked (x ∷ xs) h high =
        let same : x ≡ 128 + x % 128 = omega (arith, h.0, high.0) in
        ap (λ d. d ∷ xs) same ∙ ap (λ ds. (128 + x % 128) ∷ ds) (marked xs h.1 high.1)

-- ---- subidentifiers

-- a subidentifier has at least one octet
pub subidentifier_some : (text : List ℕ) (n : ℕ) → IsSubidentifier text n → 0 < length text
subidentifier_some text n is = omega (arith, ap length is.parts, length-append is.prefix (is.last ∷ []))

-- a subidentifier of `k` octets is below 128 ^ k
pub subidentifier_bound : (text : List ℕ) (n : ℕ) → IsSubidentifier text n → n < 128 ^ length text
subidentifier_bound text n is = grind (arith, common_steps, length-low_bits, below_power, bits_below)

prefix_value : (prefix : List ℕ) (last : ℕ) → number_of 128 (low_bits (prefix ++ last ∷ [])) ≡ number_of 128 (low_bits prefix) * 128 + last % 128
prefix_value prefix last = grind (arith, common_steps, map-append, number_of-push)

-- the octets of a subidentifier are its base-128 digits
text_is : (text : List ℕ) (n : ℕ) → Octets text → IsSubidentifier text n → text ≡ septets (length text - 1) (n / 128) ++ (n % 128) ∷ []
text_is text n h is =
    let v : ℕ = number_of 128 (low_bits is.prefix) in
    let value : v * 128 + is.last % 128 ≡ n = sym (prefix_value is.prefix is.last) ∙ sym (ap (λ o. number_of 128 (low_bits o)) is.parts) ∙ is.value in
    let size : length is.prefix ≡ length text - 1 = omega (arith, ap length is.parts, length-append is.prefix (is.last ∷ [])) in
    let high : v ≡ n / 128 = omega (arith, value) in
    let low : is.last ≡ n % 128 = omega (arith, value, is.ends) in
    cc (septets_are is.prefix (prefix_octets is.prefix (is.last ∷ []) (subst Octets is.parts h))
    (recursion_from_All (λ octet. 128 ≤ octet) is.prefix is.goes_on))

-- two encodings of a subidentifier with the same length are the same
pub same_subidentifier : (xs ys : List ℕ) (n : ℕ) → Octets xs → Octets ys → length xs ≡ length ys → IsSubidentifier xs n → IsSubidentifier ys n → xs ≡ ys
same_subidentifier xs ys n h k size is are =
    text_is xs n h is ∙ ap (λ count. septets (count - 1) (n / 128) ++ (n % 128) ∷ []) size ∙ sym (text_is ys n k are)

not_padded : (count m last : ℕ) → last < 128 → m < 128 ^ count → ((k : ℕ) → count ≡ suc k → 128 ^ k ≤ m) → get_or (septets count m ++ last ∷ []) 0 0 ≢ 128
unfolding septets digits
not_padded zero m last low high least e = omega (arith, low, e)
not_padded (suc k) m last low high least e =
    let some : 1 ≤ m / 128 ^ k = (le-div_iff_mul-le (one-le-pow k 128 (lit< tt))).1 (omega (arith, least k refl)) in
    let small : m / 128 ^ k < 128 = (div-lt_iff_lt-mul (one-le-pow k 128 (lit< tt))).1 (omega (arith, high, pow-suc 128 k)) in
    omega (arith, e, some, small)

-- what is written of a subidentifier below 2 ^ 35 encodes it: the last octet has the lowest seven
-- bits, the octets before it have the other bits and the high bit set, and the first isn't 128,
-- since there are no more octets than needed
pub is_subidentifier : (n : ℕ) → n < 2 ^ 35 → IsSubidentifier (canon_subidentifier n) n
unfolding subidentifier_size
is_subidentifier n h =
    grind (
      arith,
      common_steps,
      sized,
      subidentifier_parts,
      digits_needed,
      All-from_recursion,
      high_septets,
      mod-lt,
      not_padded,
      prefix_value,
      low_septets,
      digits_value,
    )

pub subidentifier_octets : (n : ℕ) → Octets (canon_subidentifier n)
subidentifier_octets n = grind (arith, common_steps, subidentifier_parts, both_octets, septet_octets)

-- ---- identifiers

are_subidentifiers : (numbers : List ℕ) → AllByRecursion (λ n. n < 2 ^ 35) numbers → AreSubidentifiers (flat_map canon_subidentifier numbers) numbers
are_subidentifiers [] h = refl
are_subidentifiers (n ∷ more) h = (canon_subidentifier n, flat_map canon_subidentifier more, refl, is_subidentifier n h.0, are_subidentifiers more h.1)

all_octets : (numbers : List ℕ) → Octets (flat_map canon_subidentifier numbers)
all_octets [] = tt
all_octets (n ∷ more) = both_octets (canon_subidentifier n) (flat_map canon_subidentifier more) (subidentifier_octets n) (all_octets more)

pub small_subidentifiers : (name : List ℕ) → IsWire name → IsIdentifier name → AllByRecursion (λ n. n < 2 ^ 35) (subidentifiers name)
small_subidentifiers [] wire identifier = tt
small_subidentifiers (x ∷ []) wire identifier = tt
small_subidentifiers (x ∷ y ∷ rest) wire identifier =
    let numbers = recursion_from_All (λ n. n < 2 ^ 32) (x ∷ y ∷ rest) identifier.numbers in
    (omega (arith, wire.0, numbers.1.0), wider rest numbers.1.1)
  where
    wider : (numbers : List ℕ) → AllByRecursion (λ n. n < 2 ^ 32) numbers → AllByRecursion (λ n. n < 2 ^ 35) numbers
    wider [] h = tt
    wider (n ∷ more) h = (omega (arith, h.0), wider more h.1)

pub content_is_subidentifiers : (name : List ℕ) → canon_content (object_id name) ≡ flat_map canon_subidentifier (subidentifiers name)
unfolding canon_content
content_is_subidentifiers name = refl

pub is_object_id : (name : List ℕ) → IsWire name → IsIdentifier name → IsObjectId (canon_content (object_id name)) name
unfolding canon_content
is_object_id name wire identifier = grind (arith, common_steps, are_subidentifiers, small_subidentifiers)

pub name_octets : (name : List ℕ) → Octets (canon_content (object_id name))
unfolding canon_content
name_octets name = all_octets (subidentifiers name)

-- at most five octets are written of each subidentifier
length-subidentifiers : (numbers : List ℕ) → length (flat_map canon_subidentifier numbers) ≤ 5 * length numbers
length-subidentifiers [] = omega arith
length-subidentifiers (n ∷ more) = grind (arith, common_steps, length-subidentifiers more, length-append, length-canon_subidentifier, subidentifier_most)

pub length-name : (name : List ℕ) → length (canon_content (object_id name)) ≤ 5 * length name
unfolding canon_content
length-name [] = omega arith
length-name (x ∷ []) = omega arith
length-name (x ∷ y ∷ rest) = omega (arith, length-subidentifiers ((40 * x + y) ∷ rest))

pub ruleset subidentifier_sizes = (
  common_steps,
  length-numbers_from,
  length-canon_subidentifier,
  size_some,
  nine_counted,
  subidentifier_two,
  subidentifier_three,
)

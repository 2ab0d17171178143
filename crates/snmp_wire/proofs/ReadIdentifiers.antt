-- Decoding of identifiers, a subidentifier or a number at a time. A content that is decoded encodes
-- the identifier that is returned (`identifier_takes`); of any other, the fault is `Content`. A
-- content that encodes an identifier is decoded as this identifier (`identifier_again`).
use Rattle.std.proofs.Common.{◌≡◌, ℕ, ◌+◌, ◌*◌, ◌%◌, ◌^◌, ◌<◌, ◌≤◌, cond, eqb, ltb, List, [], ◌∷◌, length, get_or, drop, Result, Ok, Err, IsOk, refl}
use Rattle.std.proofs.Common.{sym, ◌∙◌, arith, zero, suc, ◌-◌, ◌++◌, take, All, ap, append_assoc, ◌≢◌, map, lit<, ⊎_elim, inl, inr, is_ok, true}
use Rattle.std.proofs.lemmas.Bool.{ltb-true, lt-ltb, le-ltb, ltb-false, eqb-false, ne_eqb, cases_lt}
use Rattle.std.proofs.{lemmas.Grind.common_steps, lemmas.Result.err_from_is_err_and, Math.Nat.pow-suc, Math.Nat.one-le-pow, Math.Nat.mul-le-mul_left}
use Rattle.std.proofs.lemmas.List.Elements.{All-head, All-tail, All-cons, All-nil, All-append, All-from_recursion, recursion_from_All}
use Rattle.std.proofs.lemmas.List.{get_or_append_left, at_drop_more, at_drop_all, length_push, append-nil, nil_from_length}
use Rattle.std.proofs.lemmas.List.{length-append, length-map, take_rest}
use Rattle.std.specs.{Result.result_unwrap_or, List.AllByRecursion}
use Rattle.snmp_wire.specs.{declared.ber.error.BerError.BerError, ber.Number.number_of}
use Rattle.snmp_wire.specs.declared.ber.error.BerError.TheVariants as error
use Rattle.snmp_wire.specs.ber.Decode.{◌>>=◌, subidentifier_from, subidentifier_at, number_at, checked, largest_subidentifier, numbers_of}
use Rattle.snmp_wire.specs.ber.Decode.{numbers_in, IsPlainPrefix, first_number, second_number, identifier_of}
use Rattle.snmp_wire.proofs.ReadingLaws.{done, refused, ok_value, failed, ok_is, checked_err, is_ok_at, Gives, a_fault, a_value, failing}
use Rattle.snmp_wire.proofs.ReadingLaws.{returned, gives_either, gives_so, gives_then, none_left, some_left}
use Rattle.snmp_wire.specs.ber.Identifier.{IsSubidentifier, AreSubidentifiers, IsObjectId}
use Rattle.snmp_wire.proofs.WrittenIdentifiers.{subidentifier_some}

-- if `r` followed by `f` returns a value, so does `r`
pub first_ok : {A B : Type 0} (r : Result A BerError) (f : A → Result B BerError) → IsOk (r >>= f) → IsOk r
first_ok (Ok x) f h = refl
first_ok (Err d) f h = absurd cc

-- ---- subidentifiers

-- what is decoded from `octets`, which begin with a subidentifier, if the subidentifier has one, two or three octets
pub record ReadsShort (octets : List ℕ) : Type 0 where
  pub some : 0 < length octets
  pub one : get_or octets 0 0 < 128 → subidentifier_at octets ≡ Ok (get_or octets 0 0, drop 1 octets)
  pub longer : 128 ≤ get_or octets 0 0 → 1 < length octets
  pub two : 128 ≤ get_or octets 0 0 → get_or octets 1 0 < 128
      → subidentifier_at octets ≡ Ok (get_or octets 0 0 % 128 * 128 + get_or octets 1 0, drop 2 octets)
  pub longest : 128 ≤ get_or octets 0 0 → 128 ≤ get_or octets 1 0 → 2 < length octets
  pub three : 128 ≤ get_or octets 0 0 → 128 ≤ get_or octets 1 0 → get_or octets 2 0 < 128
      → subidentifier_at octets ≡ Ok ((get_or octets 0 0 % 128 * 128 + get_or octets 1 0 % 128) * 128 + get_or octets 2 0, drop 3 octets)

pub reads_short : (octets : List ℕ) → IsOk (subidentifier_at octets) → ReadsShort octets
unfolding subidentifier_at subidentifier_from
reads_short [] h = absurd cc
reads_short (octet ∷ []) h = grind (arith, common_steps, common_steps)
reads_short (octet ∷ low ∷ []) h = grind (arith, common_steps, common_steps)
reads_short (octet ∷ low ∷ last ∷ rest) h = grind (arith, common_steps, common_steps)

pub digits_ok : (octets : List ℕ) → IsOk (subidentifier_at octets) → subidentifier_at octets ≡ subidentifier_from 0 octets
unfolding subidentifier_at
digits_ok [] h = absurd cc
digits_ok (octet ∷ rest) h = grind (arith, common_steps, ok_value, refused)

pub number_subidentifier : (octets : List ℕ) → IsOk (number_at octets) → IsOk (subidentifier_at octets)
unfolding number_at
number_subidentifier octets h = first_ok (subidentifier_at octets) (λ n. cond (ltb n.0 (2 ^ 32)) (Ok n) (Err error.Content)) h

-- if a number can be decoded, it is the subidentifier, and below 2 ^ 32
pub number_is : (octets : List ℕ) (n : ℕ) (rest : List ℕ) → IsOk (number_at octets) → subidentifier_at octets ≡ Ok (n, rest)
    → (n < 2 ^ 32) × (number_at octets ≡ Ok (n, rest))
unfolding number_at
number_is octets n rest h e = elim (cases_lt n (2 ^ 32)) [
  | inl small ↦ (small, rw (e, lt-ltb n (2 ^ 32) small) refl)
  | inr large ↦ let none : is_ok (failed {A = ℕ × List ℕ} error.Content) ≡ true = rw (e, le-ltb n (2 ^ 32) large) at h in absurd cc
]

-- ---- the loop over the octets of a subidentifier

abbrev pub next_of : ℕ → List ℕ → ℕ → ℕ
next_of n octets i = n * 128 + get_or octets i 0 % 128

-- what is decoded from the octet at `i` on: an error if the number is too large with this octet, otherwise the number if the octet ends it, otherwise what is
-- decoded from the next octet on
pub from_step : (n : ℕ) (octets : List ℕ) (i : ℕ) → i < length octets → subidentifier_from n (drop i octets)
    ≡ cond (ltb largest_subidentifier (next_of n octets i)) (Err error.Content)
    (cond (ltb (get_or octets i 0) 128) (Ok (next_of n octets i, drop (i + 1) octets)) (subidentifier_from (next_of n octets i) (drop (i + 1) octets)))
unfolding subidentifier_from
from_step n octets i lt = at_drop_more (subidentifier_from n) octets i 0 lt

pub ruleset digit_steps = (common_steps, from_step, lt-ltb, le-ltb, take_rest)

pub digits_end : (n : ℕ) (octets : List ℕ) (i : ℕ) → length octets ≤ i → subidentifier_from n (drop i octets) ≡ Err error.Content
unfolding subidentifier_from
digits_end n octets i le = at_drop_all (subidentifier_from n) octets i le

-- ---- the loops over numbers

pub numbers_full : (octets : List ℕ) → 0 < length octets → numbers_of 0 octets ≡ Err error.Content
unfolding numbers_of
numbers_full [] some = absurd (omega arith)
numbers_full (octet ∷ rest) some = refl

pub numbers_end : (room : ℕ) (octets : List ℕ) → length octets ≡ 0 → numbers_of room octets ≡ Ok []
unfolding numbers_of
numbers_end room octets none = ap (numbers_of room) (nil_from_length octets none)

pub numbers_step : (room : ℕ) (octets : List ℕ) → 0 < length octets → 0 < room
    → numbers_of room octets ≡ (number_at octets >>= λ n. numbers_of (room - 1) n.1 >>= λ more. Ok (n.0 ∷ more))
unfolding numbers_of
numbers_step room [] some has_room = absurd (omega arith)
numbers_step zero (octet ∷ rest) some has_room = absurd (omega arith)
numbers_step (suc room) (octet ∷ rest) some has_room = grind (arith, common_steps)

forget : (n : ℕ) (read : Result (List ℕ) BerError) → checked (read >>= λ more. Ok (n ∷ more)) ≡ checked read
forget n (Ok more) = refl
forget n (Err e) = refl

pub check_goes_on : (room : ℕ) (octets : List ℕ) (n : ℕ) (after : List ℕ) (total : Result (Unit {0}) BerError) → 0 < length octets → 0 < room
    → number_at octets ≡ Ok (n, after)
    → checked (numbers_of room octets) ≡ total → checked (numbers_of (room - 1) after) ≡ total
check_goes_on room octets n after total some has_room h so_far = grind (arith, common_steps, numbers_step, forget)

-- the numbers `prefix` that are decoded so far, and then the numbers `read`, or the fault of these
abbrev pub with_prefix : List ℕ → Result (List ℕ) BerError → Result (List ℕ) BerError
with_prefix prefix read = read >>= λ more. Ok (prefix ++ more)

pub push_has_room : (prefix octets whole : List ℕ) (room : ℕ) → 0 < length octets → with_prefix prefix (numbers_of room octets) ≡ Ok whole → 0 < room
push_has_room prefix octets whole zero some so_far = grind (arith, common_steps, numbers_full, done, failed)
push_has_room prefix octets whole (suc room) some so_far = omega arith

regroup : (prefix : List ℕ) (n : ℕ) (read : Result (List ℕ) BerError) → with_prefix prefix (read >>= λ more. Ok (n ∷ more)) ≡ with_prefix (prefix
    ++ n ∷ []) read
regroup prefix n (Ok more) = ap done (sym (append_assoc prefix (n ∷ []) more))
regroup prefix n (Err e) = refl

pub push_goes_on : (prefix octets whole : List ℕ) (n : ℕ) (after : List ℕ) → 0 < length octets → number_at octets ≡ Ok (n, after)
    → with_prefix prefix (numbers_of (128 - length prefix) octets) ≡ Ok whole
    → with_prefix (prefix ++ n ∷ []) (numbers_of (128 - length (prefix ++ n ∷ [])) after) ≡ Ok whole
push_goes_on prefix octets whole n after some h so_far = grind (arith, common_steps, push_has_room, numbers_step, length_push, regroup)

pub push_ends : (prefix octets whole : List ℕ) (room : ℕ) → length octets ≡ 0 → with_prefix prefix (numbers_of room octets) ≡ Ok whole → prefix ≡ whole
push_ends prefix octets whole room none so_far = grind (arith, common_steps, numbers_end, done, append-nil, ok_is)

kept : (read : Result (List ℕ) BerError) (prefix : List ℕ) → IsOk read → with_prefix prefix read ≡ Ok (prefix ++ result_unwrap_or read [])
kept (Ok more) prefix h = refl
kept (Err e) prefix h = absurd cc

pub start : (prefix octets : List ℕ) → length prefix ≡ 2 → IsOk (numbers_of 126 octets)
    → with_prefix prefix (numbers_of (128 - length prefix) octets) ≡ Ok (prefix ++ numbers_in octets)
start prefix octets two h = grind (arith, common_steps, kept)

-- ---- numbers of one octet each

pub plain_number : (n : ℕ) (rest : List ℕ) → n < 128 → number_at (n ∷ rest) ≡ Ok (n, rest)
unfolding number_at subidentifier_at subidentifier_from
plain_number n rest lt = grind (arith, common_steps, common_steps)

abbrev is_plain : ℕ → Type 0
is_plain n = n < 128

pub check_skips : (numbers rest : List ℕ) (room : ℕ) → All (λ n. n < 128) numbers → length numbers ≤ room
    → checked (numbers_of (room - length numbers) rest) ≡ checked (numbers_of room (numbers ++ rest))
check_skips [] rest room plain fits = grind (arith, common_steps)
check_skips (n ∷ ns) rest room plain fits =
    let one = check_goes_on room (n ∷ (ns ++ rest)) n (ns ++ rest) _ (omega arith) (omega arith)
    (plain_number n (ns ++ rest) (All-head is_plain n ns plain)) refl in
    let less : room - length (n ∷ ns) ≡ room - 1 - length ns = omega arith in
    rw less (check_skips ns rest (room - 1) (All-tail is_plain n ns plain) (omega arith) ∙ one)

-- if numbers of one octet each are decoded next, then there is room for them, and the others are decoded after them
push_skips : (prefix numbers rest whole : List ℕ) → All (λ n. n < 128) numbers
    → with_prefix prefix (numbers_of (128 - length prefix) (numbers ++ rest)) ≡ Ok whole
    → (length numbers ≤ 128 - length prefix) × (with_prefix (prefix ++ numbers) (numbers_of (128 - length (prefix ++ numbers)) rest) ≡ Ok whole)
push_skips prefix [] rest whole plain so_far = (omega arith, rw (append-nil prefix) so_far)
push_skips prefix (n ∷ ns) rest whole plain so_far =
    let room = push_has_room prefix (n ∷ (ns ++ rest)) whole (128 - length prefix) (omega arith) so_far in
    let more = push_goes_on prefix (n ∷ (ns ++ rest)) whole n (ns ++ rest) (omega arith) (plain_number n (ns ++ rest) (All-head is_plain n ns plain)) so_far in
    let all = push_skips (prefix ++ n ∷ []) ns rest whole (All-tail is_plain n ns plain) more in
    let same : (prefix ++ n ∷ []) ++ ns ≡ prefix ++ (n ∷ ns) = append_assoc prefix (n ∷ []) ns in
    (omega (arith, length_push prefix n, all.0), rw same at all.1)

-- each of the four octets from `i` on is below 128; a missing octet counts as 0
abbrev pub AreLow : List ℕ → ℕ → Type 0
AreLow octets i = (get_or octets i 0 < 128) × (get_or octets (i + 1) 0 < 128) × (get_or octets (i + 2) 0 < 128) × (get_or octets (i + 3) 0 < 128)

pub four_then : (l : List ℕ) → 4 ≤ length l → l ≡ get_or l 0 0 ∷ get_or l 1 0 ∷ get_or l 2 0 ∷ get_or l 3 0 ∷ drop 4 l
four_then [] long = absurd (omega arith)
four_then (a ∷ []) long = absurd (omega arith)
four_then (a ∷ b ∷ []) long = absurd (omega arith)
four_then (a ∷ b ∷ c ∷ []) long = absurd (omega arith)
four_then (a ∷ b ∷ c ∷ d ∷ rest) long = refl

pub plain_prefix : (octets : List ℕ) → 4 ≤ length octets → AreLow octets 0 → IsPlainPrefix 4 (take 4 octets) (drop 4 octets) octets
plain_prefix octets long low = rw (four_then octets long) (grind (arith, common_steps, All-cons, All-nil))

-- if the first four octets are subidentifiers of one octet, and the next four too, then so are the first eight
pub plain_prefixes : (octets : List ℕ) → 8 ≤ length octets → AreLow octets 0 → AreLow octets 4 → IsPlainPrefix 8 (take 8 octets) (drop 8 octets) octets
plain_prefixes [] long low high = absurd (omega arith)
plain_prefixes (a ∷ []) long low high = absurd (omega arith)
plain_prefixes (a ∷ b ∷ []) long low high = absurd (omega arith)
plain_prefixes (a ∷ b ∷ c ∷ []) long low high = absurd (omega arith)
plain_prefixes (a ∷ b ∷ c ∷ d ∷ more) long low high = grind (arith, common_steps, plain_prefix, All-append)

pub check_plain : (count : ℕ) (numbers rest octets : List ℕ) (room : ℕ) → IsPlainPrefix count numbers rest octets → count ≤ room
    → checked (numbers_of (room - count) rest) ≡ checked (numbers_of room octets)
check_plain count numbers rest octets room prefix fits = grind (arith, common_steps, check_skips)

pub plain_fits : (count : ℕ) (prefix numbers rest octets whole : List ℕ) → 0 < length octets → IsPlainPrefix count numbers rest octets
    → with_prefix prefix (numbers_of (128 - length prefix) octets) ≡ Ok whole → length prefix + count ≤ 128
plain_fits count prefix numbers rest octets whole some plain so_far = grind (arith, common_steps, push_has_room, push_skips)

pub push_plain : (count : ℕ) (prefix numbers rest octets whole : List ℕ) → IsPlainPrefix count numbers rest octets
    → with_prefix prefix (numbers_of (128 - length prefix) octets) ≡ Ok whole
    → with_prefix (prefix ++ numbers) (numbers_of (128 - length (prefix ++ numbers)) rest) ≡ Ok whole
push_plain count prefix numbers rest octets whole plain so_far = (push_skips prefix numbers rest whole plain.2 (rw plain.0 at so_far)).1

pub number_ok : (prefix octets whole : List ℕ) → 0 < length octets → with_prefix prefix (numbers_of (128 - length prefix) octets) ≡ Ok whole
    → IsOk (number_at octets)
number_ok prefix octets whole some so_far = grind (arith, common_steps, push_has_room, numbers_step, first_ok, is_ok_at)

-- ---- subidentifiers

abbrev digits : List ℕ → List ℕ
digits octets = map (λ octet. octet % 128) octets

-- the value of a subidentifier whose digits so far make `n`, and whose other octets are `octets`
abbrev value_after : ℕ → List ℕ → ℕ
value_after n octets = n * 128 ^ length octets + number_of 128 (digits octets)

value_after-cons : (n octet : ℕ) (octets : List ℕ) → value_after n (octet ∷ octets) ≡ value_after (n * 128 + octet % 128) octets
value_after-cons n octet octets =
    omega (arith, ap (λ p. n * p) (pow-suc 128 (length octets)), ap (λ k. octet % 128 * 128 ^ k) (length-map octets (λ o. o % 128)))

record TakesDigits (n : ℕ) (octets : List ℕ) (x : ℕ × List ℕ) : Type 0 where
  prefix : List ℕ
  last : ℕ
  parts : octets ≡ (prefix ++ last ∷ []) ++ x.1
  goes_on : AllByRecursion (λ octet. 128 ≤ octet) prefix
  ends : last < 128
  value : value_after n (prefix ++ last ∷ []) ≡ x.0
  small : x.0 ≤ largest_subidentifier

digits_give : (n : ℕ) (octets : List ℕ) → Gives (TakesDigits n octets) (λ e. error.Content ≡ e) (subidentifier_from n octets)
unfolding subidentifier_from
digits_give n [] = a_fault error.Content refl
digits_give n (octet ∷ rest) =
    let next = n * 128 + octet % 128 in
    gives_either (ltb largest_subidentifier next) (λ large. a_fault error.Content refl) (λ fits.
    let small : next ≤ largest_subidentifier = ltb-false largest_subidentifier next fits in
    gives_either (ltb octet 128)
    (λ last. a_value (next, rest)
    (record { prefix = []; last = octet; parts = refl; goes_on = tt; ends = ltb-true octet 128 last; value = omega arith; small = small }))
    (λ high. gives_so (λ x t. record {
      prefix = octet ∷ t.prefix;
      last = t.last;
      parts = ap (λ (tail : List ℕ). octet ∷ tail) t.parts;
      goes_on = (ltb-false octet 128 high, t.goes_on);
      ends = t.ends;
      value = value_after-cons n octet (t.prefix ++ t.last ∷ []) ∙ t.value;
      small = t.small;
    }) (λ e fault. fault) (digits_give next rest)))

-- further digits don't make a number smaller
value_after_grows : (n : ℕ) (octets : List ℕ) → n ≤ value_after n octets
value_after_grows n octets = omega (arith, mul-le-mul_left n (one-le-pow (length octets) 128 (lit< tt)))

digits_again : (n : ℕ) (prefix : List ℕ) (last : ℕ) (rest : List ℕ) → AllByRecursion (λ octet. 128 ≤ octet) prefix → last < 128
    → value_after n (prefix ++ last ∷ []) ≤ largest_subidentifier
    → subidentifier_from n ((prefix ++ last ∷ []) ++ rest) ≡ Ok (value_after n (prefix ++ last ∷ []), rest)
unfolding subidentifier_from
digits_again n [] last rest goes_on ends small = grind (arith, common_steps, le-ltb, lt-ltb, done)
digits_again n (octet ∷ prefix) last rest goes_on ends small =
    let next = n * 128 + octet % 128 in
    let same = value_after-cons n octet (prefix ++ last ∷ []) in
    let grows = value_after_grows next (prefix ++ last ∷ []) in
    let more = digits_again next prefix last rest goes_on.1 ends (omega arith) in
    rw (le-ltb largest_subidentifier next (omega arith), le-ltb octet 128 goes_on.0) (more ∙ ap (λ (v : ℕ). done (v, rest)) (sym same))

-- `octets` begin with a subidentifier of value `x.0`, at most the largest one, and `x.1` follows it
record TakesSubidentifier (octets : List ℕ) (x : ℕ × List ℕ) : Type 0 where
  text : List ℕ
  is_subidentifier : IsSubidentifier text x.0
  parts : octets ≡ text ++ x.1
  small : x.0 ≤ largest_subidentifier

subidentifier_gives : (octets : List ℕ) → Gives (TakesSubidentifier octets) (λ e. error.Content ≡ e) (subidentifier_at octets)
unfolding subidentifier_at
subidentifier_gives [] = a_fault error.Content refl
subidentifier_gives (first ∷ rest) = gives_either (eqb first 128) (λ zero_digit. a_fault error.Content refl) (λ other.
    gives_so (λ x t.
    let at_prefix = get_or_append_left (t.prefix ++ t.last ∷ []) x.1 0 0 (omega (arith, length_push t.prefix t.last)) in
    let is_subidentifier : IsSubidentifier (t.prefix ++ t.last ∷ []) x.0 = record {
      prefix = t.prefix;
      last = t.last;
      parts = refl;
      goes_on = All-from_recursion (λ octet. 128 ≤ octet) t.prefix t.goes_on;
      ends = t.ends;
      minimal = λ h. eqb-false first 128 other (ap (λ (o : List ℕ). get_or o 0 0) t.parts ∙ at_prefix ∙ h);
      value = omega (arith, t.value);
    } in
    record { text = t.prefix ++ t.last ∷ []; is_subidentifier = is_subidentifier; parts = t.parts; small = t.small })
    (λ e fault. fault) (digits_give 0 (first ∷ rest)))

pub subidentifier_small : (octets : List ℕ) (x : ℕ × List ℕ) → subidentifier_at octets ≡ Ok x → x.0 ≤ largest_subidentifier
subidentifier_small octets x e = (returned x (subidentifier_gives octets) e).small

at_prefix : (prefix : List ℕ) (last : ℕ) (rest : List ℕ) → get_or (prefix ++ last ∷ []) 0 0 ≢ 128
    → subidentifier_at ((prefix ++ last ∷ []) ++ rest) ≡ subidentifier_from 0 ((prefix ++ last ∷ []) ++ rest)
unfolding subidentifier_at
at_prefix [] last rest ne = rw (ne_eqb last 128 ne) refl
at_prefix (octet ∷ prefix) last rest ne = rw (ne_eqb octet 128 ne) refl

subidentifier_again : (text : List ℕ) (n : ℕ) (rest : List ℕ) → IsSubidentifier text n → n ≤ largest_subidentifier
    → subidentifier_at (text ++ rest) ≡ Ok (n, rest)
subidentifier_again text n rest h small = grind (arith, common_steps, digits_again, recursion_from_All, at_prefix, done)

-- ---- numbers

number_gives : (octets : List ℕ) → Gives (λ x. TakesSubidentifier octets x × (x.0 < 2 ^ 32)) (λ e. error.Content ≡ e) (number_at octets)
unfolding number_at
number_gives octets = gives_then _ (subidentifier_gives octets) (λ x t.
    gives_either (ltb x.0 (2 ^ 32)) (λ small. a_value x (t, ltb-true x.0 (2 ^ 32) small)) (λ large. a_fault error.Content refl))

pub number_fails : (octets : List ℕ) (e : BerError) → number_at octets ≡ Err e → error.Content ≡ e
number_fails octets e h = failing e (number_gives octets) h

-- if octets begin with a number, then what follows the number is shorter than the octets
pub number_shrinks : (octets : List ℕ) (x : ℕ × List ℕ) → number_at octets ≡ Ok x → 1 + length x.1 ≤ length octets
number_shrinks octets x e =
    let t = (returned x (number_gives octets) e).0 in
    let s = t.is_subidentifier in
    omega (arith, ap length t.parts, ap length s.parts, length-append t.text x.1, length-append s.prefix (s.last ∷ []))

number_again : (text : List ℕ) (n : ℕ) (rest : List ℕ) → IsSubidentifier text n → n < 2 ^ 32 → number_at (text ++ rest) ≡ Ok (n, rest)
unfolding number_at
number_again text n rest h lt = rw (subidentifier_again text n rest h (omega arith), lt-ltb n (2 ^ 32) lt) refl

record AreNumbers (room : ℕ) (octets ns : List ℕ) : Type 0 where
  parts : AreSubidentifiers octets ns
  few : length ns ≤ room
  small : AllByRecursion (λ n. n < 2 ^ 32) ns

numbers_give : (room : ℕ) (octets : List ℕ) → Gives (AreNumbers room octets) (λ e. error.Content ≡ e) (numbers_of room octets)
unfolding numbers_of
numbers_give room [] = a_value [] (record { parts = refl; few = omega arith; small = tt })
numbers_give zero (octet ∷ rest) = a_fault error.Content refl
numbers_give (suc room) (octet ∷ rest) =
    gives_then _ (number_gives (octet ∷ rest)) (λ n t. gives_then _ (numbers_give room n.1) (λ more are. a_value (n.0 ∷ more) (record {
      parts = (t.0.text, n.1, t.0.parts, t.0.is_subidentifier, are.parts);
      few = let fewer = are.few in omega arith;
      small = (t.1, are.small);
    })))

numbers_again : (room : ℕ) (octets ns : List ℕ) → AreSubidentifiers octets ns → length ns ≤ room → AllByRecursion (λ n. n < 2 ^ 32) ns
    → numbers_of room octets ≡ Ok ns
unfolding numbers_of
numbers_again room octets [] parts few small = ap (numbers_of room) parts
numbers_again room octets (n ∷ more) parts few small =
    let text = parts.0 in
    let rest = parts.1 in
    let some : 0 < length (text ++ rest) = omega (arith, subidentifier_some text n parts.3, length-append text rest) in
    let others = numbers_again (room - 1) rest more parts.4 (omega arith) small.1 in
    ap (numbers_of room) parts.2 ∙ numbers_step room (text ++ rest) some (omega arith) ∙ rw (number_again text n rest parts.3 small.0, others) refl

-- ---- identifiers

-- the two numbers that a first subidentifier is split into are within their ranges, and joined they are the subidentifier
splits : (n : ℕ) → n ≤ largest_subidentifier → (first_number n ≤ 2) × (first_number n < 2 → second_number n < 40) × (second_number n < 2 ^ 32)
    × (40 * first_number n + second_number n ≡ n)
splits n small = grind (arith, common_steps, cases_lt, lt-ltb, le-ltb)

pub identifier_gives : (content : List ℕ) → Gives (IsObjectId content) (λ e. error.Content ≡ e) (identifier_of content)
unfolding identifier_of
identifier_gives content = gives_then _ (subidentifier_gives content) (λ first t. gives_then _ (numbers_give 126 first.1) (λ more are.
    let n = first.0 in
    let s = splits n t.small in
    let fewer = are.few in
    let is_first : IsSubidentifier t.text (40 * first_number n + second_number n) =
    rw s.3 t.is_subidentifier in
    a_value (first_number n ∷ second_number n ∷ more) (record {
      wire = (s.0, s.1);
      identifier = record {
        short = omega arith;
        numbers = All-from_recursion (λ m. m < 2 ^ 32) (first_number n ∷ second_number n ∷ more)
            (omega (arith, s.0), (s.2, are.small));
      };
      parts = (t.text, first.1, t.parts, is_first, are.parts);
    })))

pub identifier_takes : (content name : List ℕ) → identifier_of content ≡ Ok name → IsObjectId content name
identifier_takes content name e = returned name (identifier_gives content) e

joins : (x y : ℕ) → x ≤ 2 → (x < 2 → y < 40) → y < 2 ^ 32 → (first_number (40 * x + y) ≡ x) × (second_number (40 * x + y) ≡ y)
    × (40 * x + y ≤ largest_subidentifier)
joins x y first second small = grind (arith, common_steps, cases_lt, lt-ltb, le-ltb)

pub identifier_again : (content name : List ℕ) → IsObjectId content name → identifier_of content ≡ Ok name
unfolding identifier_of
identifier_again content [] h = absurd h.wire
identifier_again content (x ∷ []) h = absurd h.wire
identifier_again content (x ∷ y ∷ more) h =
    let small = recursion_from_All (λ n. n < 2 ^ 32) (x ∷ y ∷ more) h.identifier.numbers in
    let j = joins x y h.wire.0 h.wire.1 small.1.0 in
    let text = h.parts.0 in
    let rest = h.parts.1 in
    let short = h.identifier.short in
    let others = numbers_again 126 rest more h.parts.4 (omega arith) small.1.1 in
    ap identifier_of h.parts.2 ∙ rw (subidentifier_again text (40 * x + y) rest h.parts.3 j.2, others)
    (ap (λ (v : ℕ). done (v ∷ second_number (40 * x + y) ∷ more)) j.0 ∙ ap (λ (v : ℕ). done (x ∷ v ∷ more)) j.1)

-- ---- numbers are checked first; whether there are more than 126 is tested at the end

-- if octets are left and there is no room for a number, then the check fails
pub no_room : (octets : List ℕ) (room : ℕ) → 0 < length octets → room < 1 → checked (numbers_of room octets) ≡ Err error.Content
no_room octets zero some less = checked_err (numbers_of 0 octets) error.Content (numbers_full octets some)
no_room octets (suc room) some less = absurd (omega arith)

-- without room for all of these numbers of one octet each, the check fails
skips_full : (numbers rest : List ℕ) (room : ℕ) → All (λ n. n < 128) numbers → room < length numbers
    → checked (numbers_of room (numbers ++ rest)) ≡ Err error.Content
skips_full [] rest room plain less = absurd (omega arith)
skips_full (n ∷ ns) rest zero plain less = no_room (n ∷ (ns ++ rest)) 0 (omega arith) (omega arith)
skips_full (n ∷ ns) rest (suc room) plain less =
    let one = check_goes_on (suc room) (n ∷ (ns ++ rest)) n (ns ++ rest) _ (omega arith) (omega arith)
    (plain_number n (ns ++ rest) (All-head (λ n. n < 128) n ns plain)) refl in
    let room_left : suc room - 1 ≡ room = omega arith in
    sym one ∙ ap (λ k. checked (numbers_of k (ns ++ rest))) room_left ∙ skips_full ns rest room (All-tail (λ n. n < 128) n ns plain) (omega arith)

pub plain_full : (count : ℕ) (numbers rest octets : List ℕ) → IsPlainPrefix count numbers rest octets → (room : ℕ) → room < count
    → checked (numbers_of room octets) ≡ Err error.Content
plain_full count numbers rest octets prefix room less = grind (arith, common_steps, skips_full)

pub plain_length : (count : ℕ) (numbers rest octets : List ℕ) → IsPlainPrefix count numbers rest octets → count + length rest ≤ length octets
plain_length count numbers rest octets prefix = omega (arith, ap length prefix.0, length-append numbers rest, prefix.1)

pub number_refused : (octets : List ℕ) (e : BerError) → 0 < length octets → number_at octets ≡ Err e → (room : ℕ)
    → checked (numbers_of room octets) ≡ Err e
number_refused octets e some h zero = no_room octets 0 some (omega arith) ∙ ap (λ (d : BerError). failed d) (number_fails octets e h)
number_refused octets e some h (suc room) = checked_err (numbers_of (suc room) octets) e (numbers_step (suc room) octets some (omega arith) ∙ rw h refl)

-- ---- the loop

-- what the check returns if it has counted `count` numbers and `octets` are left
abbrev pub counted : ℕ → List ℕ → Result (Unit {0}) BerError
counted count octets = cond (ltb 126 count) (Err error.Content) (checked (numbers_of (126 - count) octets))

too_many : (count : ℕ) (octets : List ℕ) → 126 < count → counted count octets ≡ Err error.Content
too_many count octets h = rw (lt-ltb 126 count h) refl

not_many : (count : ℕ) (octets : List ℕ) → count ≤ 126 → counted count octets ≡ checked (numbers_of (126 - count) octets)
not_many count octets h = rw (le-ltb 126 count h) refl

pub counted_more : (count some : ℕ) (after octets : List ℕ) (total : Result (Unit {0}) BerError)
    → ((room : ℕ) → some ≤ room → checked (numbers_of (room - some) after) ≡ checked (numbers_of room octets))
    → ((room : ℕ) → room < some → checked (numbers_of room octets) ≡ Err error.Content)
    → counted count octets ≡ total → counted (count + some) after ≡ total
counted_more count some after octets total fits full so_far = grind (arith, common_steps, ⊎_elim, too_many, not_many, cases_lt)

pub counted_fails : (count : ℕ) (octets : List ℕ) (e : BerError) (total : Result (Unit {0}) BerError) → 0 < length octets
    → ((room : ℕ) → checked (numbers_of room octets) ≡ Err e) → counted count octets ≡ total → total ≡ Err e
counted_fails count octets e total some read so_far = grind (arith, common_steps, ⊎_elim, too_many, no_room, not_many, cases_lt)

pub counted_ends : (count : ℕ) (octets : List ℕ) (total : Result (Unit {0}) BerError) → count ≤ 126 → length octets ≡ 0
    → counted count octets ≡ total → total ≡ Ok tt
counted_ends count octets total few none so_far = sym so_far ∙ not_many count octets few ∙ ap checked (numbers_end (126 - count) octets none)

pub ruleset checked_numbers = (plain_length, check_plain, plain_full, check_goes_on, number_refused, number_shrinks, no_room, err_from_is_err_and)

pub ruleset counted_numbers = (counted_more, counted_ends, some_left, none_left)

pub ruleset pushed_numbers = (push_has_room, push_goes_on, push_ends, number_ok, plain_fits, some_left, none_left, length_push)

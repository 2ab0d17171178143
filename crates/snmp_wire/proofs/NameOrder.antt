-- The contents of identifiers and their order: where subidentifiers end, which of two is greater,
-- and what the first octets that differ say of two names. For `encoded_names` (`encoded`) and the
-- comparisons of `src/name.rt` (`below_decided`, `ends_decide`, `octets_decide`).
use Rattle.std.proofs.{lemmas.Grind.common_steps, lemmas.Grind.flat_map-append, Math.Nat.mul-le-mul_right, Math.Nat.pow-le-pow_right}
use Rattle.std.proofs.{Math.Seq.get_or-append_seam, Math.Seq.take-append_seam, lemmas.Nat.mul-add-lt, lemmas.Bool.cases_lt, lemmas.Bool.cases_order}
use Rattle.std.proofs.{lemmas.Bool.lt-ltb, lemmas.Bool.le-ltb, lemmas.List.Elements.recursion_from_All, lemmas.List.Elements.All-from_get_or}
use Rattle.std.proofs.lemmas.List.{length_push, append-nil, ext_get_or, get_or_append_left, map-append, append_cancel_left, get_or-take}
use Rattle.std.proofs.lemmas.List.{length-take-le, take-append-drop, drop_more}
use Rattle.std.specs.{List.AllByRecursion, List.flat_map, Cmp.nat_cmp_is, Result.result_unwrap_or, Cmp.Lexicographic.slice_cmp, Ordering.nat_cmp}
use Rattle.std.proofs.Common.{zero, cond, ltb, ◌≡◌, ℕ, ◌+◌, ◌-◌, ◌*◌, ◌%◌, ◌^◌, ◌<◌, ◌≤◌, ◌⊎◌, inl, inr, List, [], ◌∷◌, ◌++◌, length, get_or, refl}
use Rattle.std.proofs.Common.{sym, ap, subst, ◌∙◌, suc, ⊎_elim, arith, lit<, length-append, ◌↔◌, take, drop, Result, IsOk, append_assoc, Ok}
use Rattle.std.proofs.Common.{length-drop, take_all}
use Rattle.std.specs.declared.cmp.Ordering.TheVariants.{Less, Equal, Greater}
use Rattle.snmp_oid.specs.Identifier.{PartsBelow, IsBelow, IsWire, Precedes}
use Rattle.snmp_wire.specs.Name.{ComesFirst, EndsAt, IsAlike, EncodedNames, IsContentOctets, identifier_in}
use Rattle.snmp_wire.specs.{ber.Canon.canon_content, ber.Canon.canon_subidentifier, ber.Number.number_of, ber.Number.AreOctets, ber.Value.object_id}
use Rattle.snmp_wire.specs.{declared.ber.error.BerError.BerError, ber.Decode.identifier_of}
use Rattle.snmp_wire.specs.ber.Identifier.{AreSubidentifiers, IsObjectId, IsSubidentifier, subidentifiers}
use Rattle.snmp_wire.proofs.ReadingLaws.{is_ok_at, ok_is, ok_value}
use Rattle.snmp_wire.proofs.Digits.{AreDigits, Octets, back_octets, below_power, prefix_octets, octets_by}
use Rattle.snmp_wire.proofs.WrittenIdentifiers.{bits_below, is_object_id, length-low_bits, low_bits, name_octets, same_subidentifier}
use Rattle.snmp_wire.proofs.WrittenIdentifiers.{subidentifier_bound, subidentifier_some, length-canon_subidentifier, size_some}
use Rattle.snmp_wire.proofs.WrittenIdentifiers.{content_is_subidentifiers, length-name}
use Rattle.snmp_wire.proofs.ReadIdentifiers.{identifier_again, identifier_takes}

-- ---- where a subidentifier ends

-- how many octets at the start have the high bit set; a subidentifier at the start has one octet more
abbrev pub reach : List ℕ → ℕ
reach [] = 0
reach (octet ∷ rest) = cond (ltb octet 128) 0 (suc (reach rest))

reach_prefix : (prefix : List ℕ) (last : ℕ) (rest : List ℕ) → AllByRecursion (λ octet. 128 ≤ octet) prefix → last < 128
    → reach ((prefix ++ last ∷ []) ++ rest) ≡ length prefix
reach_prefix [] last rest high low = rw (lt-ltb last 128 low) refl
reach_prefix (octet ∷ prefix) last rest high low = rw (le-ltb octet 128 high.0) (ap suc (reach_prefix prefix last rest high.1 low))

-- a subidentifier has one octet more than `reach` counts, whatever follows it
length_is : (text rest : List ℕ) (n : ℕ) → IsSubidentifier text n → length text ≡ suc (reach (text ++ rest))
length_is text rest n is =
    let far = reach_prefix is.prefix is.last rest (recursion_from_All (λ octet. 128 ≤ octet) is.prefix is.goes_on) is.ends in
    rw is.parts (omega (arith, far, length_push is.prefix is.last))

-- if each octet of `prefix` has the high bit set, then the reach of `prefix ++ rest` is the length of `prefix` plus the reach of `rest`
reach_after : (prefix rest : List ℕ) → length prefix ≤ reach (prefix ++ rest) → reach (prefix ++ rest) ≡ length prefix + reach rest
reach_after [] rest h = omega arith
reach_after (octet ∷ prefix) rest h = elim (cases_lt octet 128) [
  | inl low ↦ absurd (omega (arith, rw (lt-ltb octet 128 low) at h))
  | inr high ↦ rw (le-ltb octet 128 high) (omega (arith, reach_after prefix rest (omega (arith, rw (le-ltb octet 128 high) at h))))
]

-- if the octets `more` begin within the subidentifier `text`, after `prefix`, then `text` has one octet more than `prefix` and the reach of `more`
text_length : (prefix more text rest : List ℕ) (n : ℕ) → IsSubidentifier text n → prefix ++ more ≡ text ++ rest → length prefix < length text
    → length text ≡ suc (length prefix + reach more)
text_length prefix more text rest n is parts low =
    let whole : length text ≡ suc (reach (prefix ++ more)) = length_is text rest n is ∙ ap (λ (t : List ℕ). suc (reach t)) (sym parts) in
    omega (arith, whole, reach_after prefix more (omega (arith, whole, low)))

-- the octets from index `at` on, if `at` is below their number
abbrev pub octets_from : List ℕ → ℕ → List ℕ
octets_from content at = get_or content at 0 ∷ drop (at + 1) content

cut_at : (content : List ℕ) (at : ℕ) → at < length content → content ≡ take at content ++ octets_from content at
cut_at content at h = sym (take-append-drop at content) ∙ ap (λ (t : List ℕ). take at content ++ t) (drop_more content at 0 h)

reach_none : (content : List ℕ) (at : ℕ) → get_or content at 0 < 128 → reach (octets_from content at) ≡ 0
reach_none content at low = rw (lt-ltb (get_or content at 0) 128 low) refl

reach_to : (count : ℕ) (content : List ℕ) (at end : ℕ) → at + count ≡ end → EndsAt content at end → reach (octets_from content at) ≡ count
reach_to zero content at end position e = reach_none content at (subst (λ (k : ℕ). get_or content k 0 < 128) (omega (arith, position)) e.ends)
reach_to (suc count) content at end position e =
    let here : EndsAt content (at + 1) end =
    record { suffix = omega (arith, position); within = e.within; goes_on = λ k low less. e.goes_on k (omega (arith, low)) less; ends = e.ends } in
    let high = e.goes_on at (omega arith) (omega (arith, position)) in
    let more = reach_to count content (at + 1) end (omega (arith, position)) here in
    rw (le-ltb (get_or content at 0) 128 high, drop_more content (at + 1) 0 (omega (arith, position, e.within))) (ap suc more)

-- if a subidentifier contains the octet at `at` and ends at `end`, then `end` is `at` plus the reach of the octets from `at` on
pub end_is : (content : List ℕ) (at end : ℕ) → EndsAt content at end → end ≡ at + reach (octets_from content at)
end_is content at end e = omega (arith, e.suffix, reach_to (end - at) content at end (omega (arith, e.suffix)) e)

-- octets begin with at most one subidentifier
one_prefix : (text rest other more : List ℕ) (n m : ℕ) → IsSubidentifier text n → IsSubidentifier other m → text ++ rest ≡ other ++ more
    → (text ≡ other) × (n ≡ m) × (rest ≡ more)
one_prefix text rest other more n m is are e =
    let size : length text ≡ length other = length_is text rest n is ∙ ap (λ (t : List ℕ). suc (reach t)) e ∙ sym (length_is other more m are) in
    let same : text ≡ other = cc (take-append_seam text rest, take-append_seam other more) in
    (same, (cc), append_cancel_left text rest more (cc))

-- if `text` and `prefix` are prefixes of the same octets, and `text` isn't longer, then `text` is
-- a prefix of `prefix`
inside : (text rest prefix more : List ℕ) → text ++ rest ≡ prefix ++ more → length text ≤ length prefix
    → (back : List ℕ) × (prefix ≡ text ++ back) × (rest ≡ back ++ more)
inside [] rest prefix more e short = (prefix, refl, e)
inside (x ∷ text) rest [] more e short = absurd (omega arith)
inside (x ∷ text) rest (y ∷ prefix) more e short =
    let i = inside text rest prefix more (cc) (omega arith) in
    let same : y ∷ prefix ≡ x ∷ (text ++ i.0) = cc (i.1) in
    (i.0, same, i.2)

-- ---- octets that are the same

pub nothing_alike : (content other : List ℕ) → IsAlike content other 0
nothing_alike content other = record { short = omega arith; other_short = omega arith; same = λ k low. absurd (omega (arith, low)) }

-- if the first `count` octets of both are the same, `from` is at most `count`, and the `more` octets
-- from index `from` on are the same, then the first `from + more` octets are the same
pub more_alike : {octets others : List ℕ} {count : ℕ} (from more end : ℕ) → IsAlike octets others count → from ≤ count → from + more ≡ end
    → end ≤ length octets → end ≤ length others → ((k : ℕ) → k < more → get_or octets (from + k) 0 ≡ get_or others (from + k) 0)
    → IsAlike octets others end
more_alike {octets} {others} {count} from more end h near e these those same = record {
  short = these;
  other_short = those;
  same = λ k low. elim (cases_lt k count) [
    | inl before ↦ h.same k before
    | inr after ↦ let position : from + (k - from) ≡ k = omega (arith, near, after) in rw position at (same (k - from) (omega (arith, low, e, near, after)))
  ];
}

pub alike_back : (octets others : List ℕ) (count : ℕ) → IsAlike octets others count → IsAlike others octets count
alike_back octets others count h = record { short = h.other_short; other_short = h.short; same = λ k low. sym (h.same k low) }

same_prefix : (content other : List ℕ) (at : ℕ) → IsAlike content other at → take at content ≡ take at other
same_prefix content other at h = ext_get_or 0 (take at content) (take at other)
    (length-take-le at content h.short ∙ sym (length-take-le at other h.other_short))
    (λ k low. let below : k < at = omega (arith, low, length-take-le at content h.short) in
    get_or-take at content k 0 below ∙ h.same k below ∙ sym (get_or-take at other k 0 below))

-- ---- which of two numbers is greater

-- of two numbers with the same number of digits, the one with the greater digit at the first
-- difference is greater
digits_rise : (base : ℕ) (prefix after suffix : List ℕ) (c d : ℕ) → c < d → length after ≡ length suffix → AreDigits base after
    → number_of base (prefix ++ c ∷ after) < number_of base (prefix ++ d ∷ suffix)
digits_rise base [] after suffix c d less size small =
    let bound = mul-add-lt c (base ^ length after) (number_of base after) d less (below_power base after small) in
    omega (arith, bound, ap (λ k. d * base ^ k) size)
digits_rise base (z ∷ prefix) after suffix c d less size small =
    grind (arith, common_steps, digits_rise base prefix after suffix c d less size small, length-append)

-- a subidentifier of `k + 1` octets, at least two, is at least 128 to the power `k`
least_of_several : (text : List ℕ) (n : ℕ) → Octets text → IsSubidentifier text n → 1 < length text → 128 ^ (length text - 1) ≤ n
least_of_several [] n all is several = absurd (omega arith)
least_of_several (octet ∷ rest) n all is several =
    let size = length_is (octet ∷ rest) [] n is in
    let high : 128 ≤ octet = ⊎_elim (λ low. absurd (omega (arith, several, rw (lt-ltb octet 128 low) at size))) (λ high. high) (cases_lt octet 128) in
    let digit : 1 ≤ octet % 128 =
    ⊎_elim (λ zero_digit. absurd (is.minimal (omega (arith, zero_digit, high, all.0)))) (λ some. some) (cases_lt (octet % 128) 1) in
    let power : 1 * 128 ^ length (low_bits rest) ≤ octet % 128 * 128 ^ length (low_bits rest) = mul-le-mul_right (128 ^ length (low_bits rest)) digit in
    let positions : length (low_bits rest) ≡ length (octet ∷ rest) - 1 = omega (arith, length-low_bits rest) in
    omega (arith, power, ap (λ k. 128 ^ k) positions, is.value)

-- if `x ∷ xs` and `y ∷ ys` have the same reach, then both or neither of `x` and `y` have the high bit set, so the smaller octet has the smaller digit
digit_rises : (x y : ℕ) (xs ys : List ℕ) → reach (x ∷ xs) ≡ reach (y ∷ ys) → x < 256 → y < 256 → x < y → x % 128 < y % 128
digit_rises x y xs ys e small other_small less = elim (cases_lt x 128) [
  | inl low ↦ elim (cases_lt y 128) [
    | inl other_low ↦ omega arith
    | inr high ↦ absurd (omega (arith, rw (lt-ltb x 128 low, le-ltb y 128 high) at e))
  ]
  | inr high ↦ omega arith
]

parts_rise : (prefix after suffix : List ℕ) (x y n m : ℕ) → Octets (prefix ++ x ∷ after) → Octets (prefix ++ y ∷ suffix)
    → IsSubidentifier (prefix ++ x ∷ after) n → IsSubidentifier (prefix ++ y ∷ suffix) m → length after ≡ length suffix → x < y → n < m
parts_rise prefix after suffix x y n m all others is are size less =
    let far : (z k : ℕ) (tail : List ℕ) → IsSubidentifier (prefix ++ z ∷ tail) k → reach (z ∷ tail) ≡ length tail = λ z k tail this.
    let text : List ℕ = prefix ++ z ∷ tail in
    let longer = length-append prefix (z ∷ tail) in
    omega (arith, longer, text_length prefix (z ∷ tail) text [] k this (sym (append-nil text)) (omega (arith, longer))) in
    let digit = digit_rises x y after suffix (omega (arith, far x n after is, far y m suffix are, size)) (back_octets prefix (x ∷ after) all).0
    (back_octets prefix (y ∷ suffix) others).0 less in
    let rises = digits_rise 128 (low_bits prefix) (low_bits after) (low_bits suffix) (x % 128) (y % 128) digit
    (omega (arith, length-low_bits after, length-low_bits suffix, size)) (bits_below after) in
    omega (arith, rises, simp map-append at is.value, simp map-append at are.value)

below_longer : (o p : List ℕ) → IsBelow o p → length p < length o
below_longer o p ([], some, e) = absurd (some refl)
below_longer o p (x ∷ rest, some, e) = omega (arith, ap length e, length-append p (x ∷ rest))

pub first_is_smaller : (text other : List ℕ) (n m : ℕ) → Octets text → Octets other → IsSubidentifier text n → IsSubidentifier other m
    → ComesFirst text other → n < m
first_is_smaller text other n m all others is are (inl shorter) =
    let some = subidentifier_some text n is in
    let least : 128 ^ (length other - 1) ≤ m = least_of_several other m others are (omega (arith, shorter, some)) in
    let fewer : 128 ^ length text ≤ 128 ^ (length other - 1) = pow-le-pow_right {n = 128} (lit< tt) (omega (arith, shorter)) in
    omega (arith, least, fewer, subidentifier_bound text n is)
first_is_smaller text other n m all others is are (inr (size, inl below)) = absurd (omega (arith, size, below_longer other text below))
first_is_smaller text other n m all others is are (inr (size, inr p)) = parts_rise p.prefix p.after p.suffix p.smaller p.larger n m
    (subst Octets p.this all) (subst Octets p.that others) (subst (λ (t : List ℕ). IsSubidentifier t n) p.this is)
    (subst (λ (t : List ℕ). IsSubidentifier t m) p.that are)
    (omega (arith, size, simp length-append at (ap length p.this), simp length-append at (ap length p.that))) p.is_smaller

-- a subidentifier has only one encoding
one_text : (text other : List ℕ) (n : ℕ) → Octets text → Octets other → IsSubidentifier text n → IsSubidentifier other n → text ≡ other
one_text text other n h k is are = elim (cases_order (length text) (length other)) [
  | inl size ↦ same_subidentifier text other n h k size is are
  | inr (inl less) ↦ absurd (omega (arith, first_is_smaller text other n n h k is are (inl less)))
  | inr (inr more) ↦ absurd (omega (arith, first_is_smaller other text n n k h are is (inl more)))
]

-- a list of subidentifiers has only one content
pub one_content_of : (ns content other : List ℕ) → Octets content → Octets other → AreSubidentifiers content ns → AreSubidentifiers other ns → content ≡ other
one_content_of [] content other h k are others = are ∙ sym others
one_content_of (n ∷ ns) content other h k (text, rest, parts, is, are) (text2, rest2, parts2, is2, are2) =
    let all : Octets (text ++ rest) = subst Octets parts h in
    let all2 : Octets (text2 ++ rest2) = subst Octets parts2 k in
    let first : text ≡ text2 = one_text text text2 n (prefix_octets text rest all) (prefix_octets text2 rest2 all2) is is2 in
    let others : rest ≡ rest2 = one_content_of ns rest rest2 (back_octets text rest all) (back_octets text2 rest2 all2) are are2 in
    parts ∙ ap (λ (t : List ℕ). t ++ rest) first ∙ ap (λ (t : List ℕ). text2 ++ t) others ∙ sym parts2

-- the content of a name is the one that is written
pub canonical : (content name : List ℕ) → Octets content → IsObjectId content name → content ≡ canon_content (object_id name)
canonical content name h is = grind (arith, common_steps, one_content_of, name_octets, is_object_id)

-- ---- the order of identifiers

-- lists compare as `Less` if and only if the first precedes the second, as `Equal` if they are the same, and as `Greater` if the second precedes the first
pub record OrderLaw : Type 0 where
  pub less : (o p : List ℕ) → (slice_cmp nat_cmp o p ≡ Less) ↔ Precedes o p
  pub equal : (o p : List ℕ) → (slice_cmp nat_cmp o p ≡ Equal) ↔ (o ≡ p)
  pub greater : (o p : List ℕ) → (slice_cmp nat_cmp o p ≡ Greater) ↔ Precedes p o

pub three_ways : OrderLaw → (o p : List ℕ) → Precedes o p ⊎ ((o ≡ p) ⊎ Precedes p o)
three_ways law o p = grind (arith, common_steps)

-- ---- identifiers and their subidentifiers

-- names that have encodings compare as their subidentifiers do
same_order : (o p : List ℕ) → IsWire o → IsWire p → slice_cmp nat_cmp o p ≡ slice_cmp nat_cmp (subidentifiers o) (subidentifiers p)
same_order [] p wire other = absurd wire
same_order (x ∷ []) p wire other = absurd wire
same_order (x ∷ y ∷ more) [] wire other = absurd other
same_order (x ∷ y ∷ more) (z ∷ []) wire other = absurd other
same_order (x ∷ y ∷ more) (z ∷ w ∷ others) wire other = grind (arith, common_steps, cases_order)

pub names_rise : OrderLaw → (o p : List ℕ) → IsWire o → IsWire p → Precedes o p → Precedes (subidentifiers o) (subidentifiers p)
names_rise law o p wire other h = (law.less (subidentifiers o) (subidentifiers p)).0 (sym (same_order o p wire other) ∙ (law.less o p).1 h)

pub names_fall : OrderLaw → (o p : List ℕ) → IsWire o → IsWire p → Precedes (subidentifiers o) (subidentifiers p) → Precedes o p
names_fall law o p wire other h = (law.less o p).0 (same_order o p wire other ∙ (law.less (subidentifiers o) (subidentifiers p)).1 h)

-- if `p` has an encoding, then the subidentifiers of `p ++ rest` are the subidentifiers of `p`, and then the numbers `rest`
follows : (p rest : List ℕ) → IsWire p → subidentifiers (p ++ rest) ≡ subidentifiers p ++ rest
follows [] rest wire = absurd wire
follows (x ∷ []) rest wire = absurd wire
follows (x ∷ y ∷ more) rest wire = refl

-- if `o` and `p` have encodings, and the subidentifiers of `o` are the subidentifiers of `p` and then `rest`, then `o` is `p` and then `rest`
followed : (o p rest : List ℕ) → IsWire o → IsWire p → subidentifiers o ≡ subidentifiers p ++ rest → o ≡ p ++ rest
followed [] p rest wire other e = absurd wire
followed (x ∷ []) p rest wire other e = absurd wire
followed (x ∷ y ∷ more) [] rest wire other e = absurd other
followed (x ∷ y ∷ more) (z ∷ []) rest wire other e = absurd other
followed (x ∷ y ∷ more) (z ∷ w ∷ others) rest wire other e = grind (arith, common_steps, ⊎_elim, cases_order)

-- ---- contents of subidentifiers

-- only an empty list of numbers has empty content
none_of_none : (rest : List ℕ) → flat_map canon_subidentifier rest ≡ [] → rest ≡ []
none_of_none [] e = refl
none_of_none (n ∷ more) e = absurd (omega (arith, simp (length-append, length-canon_subidentifier) at (ap length e), size_some n))

-- if `content` encodes `ns`, and `content ++ rest` encodes `ms`, then `ms` is `ns` and then what `rest` encodes
goes_on : (ns ms content rest : List ℕ) → AreSubidentifiers content ns → AreSubidentifiers (content ++ rest) ms
    → (more : List ℕ) × (ms ≡ ns ++ more) × AreSubidentifiers rest more
goes_on [] ms content rest are others = (ms, refl, subst (λ (t : List ℕ). AreSubidentifiers (t ++ rest) ms) are others)
goes_on (n ∷ ns) [] content rest (text, back, parts, is, are) others = grind (arith, common_steps, subidentifier_some, length-append)
goes_on (n ∷ ns) (m ∷ ms) content rest (text, back, parts, is, are) (text2, back2, parts2, is2, are2) =
    let s = one_prefix text (back ++ rest) text2 back2 n m is is2 (cc (append_assoc text back rest)) in
    let more = goes_on ns ms back rest are (subst (λ (t : List ℕ). AreSubidentifiers t ms) (sym s.2) are2) in
    (more.0, ap (λ k. k ∷ ms) (sym s.1) ∙ ap (λ (t : List ℕ). n ∷ t) more.1, more.2)

-- a content that isn't empty ends with the last octet of a subidentifier
content_ends : (ns content : List ℕ) → AreSubidentifiers content ns → 0 < length content
    → (prefix : List ℕ) × (last : ℕ) × (last < 128) × (content ≡ prefix ++ last ∷ [])
content_ends [] content are some = absurd (omega (arith, ap length are, some))
content_ends (n ∷ ns) content (text, [], parts, is, are) some = (is.prefix, is.last, is.ends, parts ∙ append-nil text ∙ is.parts)
content_ends (n ∷ ns) content (text, octet ∷ rest, parts, is, are) some =
    let e = content_ends ns (octet ∷ rest) are (omega arith) in
    (text ++ e.0, e.1, e.2, parts ∙ ap (λ (t : List ℕ). text ++ t) e.3 ∙ sym (append_assoc text e.0 (e.1 ∷ [])))

-- an octet with its high bit set isn't the last octet of the content of an identifier
pub more_octets : (content : List ℕ) (at : ℕ) → IsOk (identifier_of content) → at < length content → 128 ≤ get_or content at 0
    → at + 1 < length content
more_octets content at ok within high =
    let read = ok_value (identifier_of content) ok in
    let e = content_ends (subidentifiers read.0) content (identifier_takes content read.0 read.1).parts (omega (arith, within)) in
    let size : length content ≡ length e.0 + 1 = ap length e.3 ∙ length_push e.0 e.1 in
    elim (cases_lt at (length e.0)) [
      | inl less ↦ omega (arith, less, size)
      | inr none ↦
          let here : at ≡ length e.0 = omega (arith, none, within, size) in
          let last : get_or content at 0 ≡ e.1 = cc (get_or-append_seam e.0 e.1 [] 0, e.3) in
          absurd (omega (arith, high, last, e.2))
    ]

-- ---- the first octets that differ

-- the subidentifier at the start of `octets` ends before the one at the start of `others`, or both
-- end together and the first octet of `octets` is smaller than the first octet of `others`
abbrev pub EndsFirst : List ℕ → List ℕ → Type 0
EndsFirst octets others = (reach octets < reach others) ⊎ ((reach octets ≡ reach others) × (get_or octets 0 0 < get_or others 0 0))

-- if two contents have a common prefix that ends within their subidentifiers `text` and `other`,
-- and `EndsFirst` holds of the octets after it, then `text` comes before `other`
text_first : (prefix xs ys text rest other more : List ℕ) (n m : ℕ) → IsSubidentifier text n → IsSubidentifier other m → prefix ++ xs ≡ text ++ rest
    → prefix ++ ys ≡ other ++ more → length prefix < length text → length prefix < length other → EndsFirst xs ys → ComesFirst text other
text_first prefix xs ys text rest other more n m is are parts others low other_low first =
    let this = text_length prefix xs text rest n is parts low in
    let that = text_length prefix ys other more m are others other_low in
    let i = inside prefix xs text rest parts (omega (arith, low)) in
    let j = inside prefix ys other more others (omega (arith, other_low)) in
    elim first [
      | inl less ↦ inl (omega (arith, less, this, that))
      | inr both ↦ inr (omega (arith, both.0, this, that), inr (suffix i.0 j.0 i.1 j.1 i.2 j.2 both.1))
    ]
  where
    suffix : (tail back : List ℕ) → text ≡ prefix ++ tail → other ≡ prefix ++ back → xs ≡ tail ++ rest → ys ≡ back ++ more
        → get_or xs 0 0 < get_or ys 0 0 → PartsBelow text other
    suffix [] back e f g h less = absurd (omega (arith, low, ap length e, length-append prefix []))
    suffix (x ∷ tail) [] e f g h less = absurd (omega (arith, other_low, ap length f, length-append prefix []))
    suffix (x ∷ tail) (y ∷ back) e f g h less =
        let smaller : x < y = omega (arith, less, ap (λ (t : List ℕ). get_or t 0 0) g, ap (λ (t : List ℕ). get_or t 0 0) h) in
        record { prefix = prefix; smaller = x; larger = y; after = tail; suffix = back; this = e; that = f; is_smaller = smaller }

-- if two contents have a common prefix, and `EndsFirst` holds of the octets `xs` and `ys` after it,
-- then the subidentifiers of the first content are less
first_differs : (ns ms prefix xs ys : List ℕ) → Octets (prefix ++ xs) → Octets (prefix ++ ys) → AreSubidentifiers (prefix ++ xs) ns
    → AreSubidentifiers (prefix ++ ys) ms → 0 < length xs → 0 < length ys → EndsFirst xs ys → slice_cmp nat_cmp ns ms ≡ Less
first_differs [] ms prefix xs ys h k are others some some2 first = absurd (omega (arith, ap length are, length-append prefix xs, some))
first_differs (n ∷ ns) [] prefix xs ys h k are others some some2 first = absurd (omega (arith, ap length others, length-append prefix ys, some2))
first_differs (n ∷ ns) (m ∷ ms) prefix xs ys h k (text, rest, parts, is, are) (text2, rest2, parts2, is2, are2) some some2 first =
    let all : Octets (text ++ rest) = subst Octets parts h in
    let all2 : Octets (text2 ++ rest2) = subst Octets parts2 k in
    elim (cases_lt (length prefix) (length text)) [
      | inl low ↦ elim (cases_lt (length prefix) (length text2)) [
        | inl low2 ↦
            let less : n < m = first_is_smaller text text2 n m (prefix_octets text rest all) (prefix_octets text2 rest2 all2) is is2
            (text_first prefix xs ys text rest text2 rest2 n m is is2 parts parts2 low low2 first) in
            rw (← nat_cmp_is n m Less less) refl
        | inr past ↦
            let i = inside text2 rest2 prefix ys (sym parts2) past in
            let s = one_prefix text2 (i.0 ++ xs) text rest m n is2 is (cc (append_assoc text2 i.0 xs, i.1)) in
            absurd (omega (arith, low, past, ap length s.0))
      ]
      | inr past ↦
          let i = inside text rest prefix xs (sym parts) past in
          let s = one_prefix text (i.0 ++ ys) text2 rest2 n m is is2 (cc (append_assoc text i.0 ys, i.1)) in
          let more = first_differs ns ms i.0 xs ys
          (subst Octets i.2 (back_octets text rest all)) (subst Octets (sym s.2) (back_octets text2 rest2 all2))
          (subst (λ (t : List ℕ). AreSubidentifiers t ns) i.2 are) (subst (λ (t : List ℕ). AreSubidentifiers t ms) (sym s.2) are2) some some2 first in
          subst (λ (j : ℕ). slice_cmp nat_cmp (n ∷ ns) (j ∷ ms) ≡ Less) s.1 (rw (← nat_cmp_is n n Equal refl) more)
    ]

-- ---- names

pub one_name : (content o p : List ℕ) → IsObjectId content o → IsObjectId content p → o ≡ p
one_name content o p is are = ok_is o p (sym (identifier_again content o is) ∙ identifier_again content p are)

pub one_content : (content other o : List ℕ) → AreOctets content → AreOctets other → IsObjectId content o → IsObjectId other o → content ≡ other
one_content content other o h k is are = one_content_of (subidentifiers o) content other (octets_by content h) (octets_by other k) is.parts are.parts

-- a content that can be decoded is the content of a name
pub is_name : (content : List ℕ) → IsOk (identifier_of content) → IsObjectId content (identifier_in content)
is_name content ok =
    let read = ok_value (identifier_of content) ok in
    let name : identifier_in content ≡ read.0 = ap (λ (r : Result (List ℕ) BerError). result_unwrap_or r []) read.1 in
    subst (λ (o : List ℕ). IsObjectId content o) (sym name) (identifier_takes content read.0 read.1)

-- if a content encodes `name`, then `identifier_in` is this name
pub identifier_is : (content name : List ℕ) → IsObjectId content name → identifier_in content ≡ name
identifier_is content name is = ap (λ (r : Result (List ℕ) BerError). result_unwrap_or r []) (identifier_again content name is)

-- octets that equal the content of the identifier `name` are its content octets, and are decoded to `name`
pub content_octets : (content octets name : List ℕ) → octets ≡ content → AreOctets content → IsObjectId content name
    → IsContentOctets octets × (identifier_in octets ≡ name)
content_octets content octets name same h is = grind (arith, common_steps, is_ok_at, identifier_again, identifier_is)

pub content_short : (name : List ℕ) → length name ≤ 128 → length (canon_content (object_id name)) ≤ 640
content_short name few = omega (arith, length-name name, few)

-- if a name is below a root, then its content begins with the root's and is longer
pub below_from_names : (content root o p : List ℕ) → AreOctets content → AreOctets root → IsObjectId content o → IsObjectId root p → IsBelow o p
    → IsBelow content root
below_from_names content root o p h k is are (rest, some, e) =
    grind (arith, common_steps, none_of_none, canonical, octets_by, content_is_subidentifiers, follows, flat_map-append)

pub below_from_contents : (content root o p : List ℕ) → IsObjectId content o → IsObjectId root p → IsBelow content root → IsBelow o p
below_from_contents content root o p is are (rest, some, e) = grind (arith, common_steps, goes_on, followed)

-- the smaller of two subidentifiers comes first (`ComesFirst`)
smaller_is_first : OrderLaw → (text other : List ℕ) (n m : ℕ) → AreOctets text → AreOctets other → IsSubidentifier text n → IsSubidentifier other m
    → n < m → ComesFirst text other
smaller_is_first law text other n m h k is are less =
    let no_more : ComesFirst other text → ⊥ = λ first.
    omega (arith, less, first_is_smaller other text m n (octets_by other k) (octets_by text h) are is first) in
    elim (cases_order (length text) (length other)) [
      | inl size ↦ elim (three_ways law text other) [
        | inl first ↦ inr (size, first)
        | inr (inl same) ↦ absurd (omega (arith, less, is.value, are.value, ap (λ (t : List ℕ). number_of 128 (low_bits t)) same))
        | inr (inr last) ↦ absurd (no_more (inr (sym size, last)))
      ]
      | inr (inl shorter) ↦ inl shorter
      | inr (inr longer) ↦ absurd (no_more (inl longer))
    ]

pub encoded : OrderLaw → EncodedNames
encoded law = record {
  one_name = one_name;
  one_content = one_content;
  below = λ content root o p h k is are. (below_from_names content root o p h k is are, below_from_contents content root o p is are);
  names_order = λ o p wire other. (names_rise law o p wire other, names_fall law o p wire other);
  octets_order = λ text other n m h k is are. (
    smaller_is_first law text other n m h k is are,
    first_is_smaller text other n m (octets_by text h) (octets_by other k) is are,
  );
}

-- ---- what the first octets that differ say of two names

-- `content` and `other` encode the names `o` and `p`, and their first `at` octets are the same
pub record Beside (content other o p : List ℕ) (at : ℕ) : Type 0 where
  pub octets : AreOctets content
  pub other_octets : AreOctets other
  pub is : IsObjectId content o
  pub are : IsObjectId other p
  pub alike : IsAlike content other at

pub beside : {content other o p : List ℕ} {at : ℕ} → ((k : ℕ) → get_or content k 0 < 256) → ((k : ℕ) → get_or other k 0 < 256)
    → identifier_of content ≡ Ok o → identifier_of other ≡ Ok p → IsAlike content other at → Beside content other o p at
beside {content} {other} {o} {p} small other_small e f alike = record {
  octets = All-from_get_or (λ octet. octet < 256) content 0 (λ k low. small k);
  other_octets = All-from_get_or (λ octet. octet < 256) other 0 (λ k low. other_small k);
  is = identifier_takes content o e;
  are = identifier_takes other p f;
  alike = alike;
}

turned : {content other o p : List ℕ} {at : ℕ} → Beside content other o p at → Beside other content p o at
turned {content} {other} {o} {p} {at} b = grind (arith, common_steps, alike_back)

-- if `EndsFirst` holds of the octets from `at` on, then `o` precedes `p`
names_differ : OrderLaw → {content other o p : List ℕ} {at : ℕ} → Beside content other o p at → at < length content → at < length other
    → EndsFirst (octets_from content at) (octets_from other at) → Precedes o p
names_differ law {content} {other} {o} {p} {at} b low other_low first =
    let this = cut_at content at low in
    let that = cut_at other at other_low ∙ ap (λ (t : List ℕ). t ++ octets_from other at) (sym (same_prefix content other at b.alike)) in
    (law.less o p).0 (same_order o p b.is.wire b.are.wire ∙ first_differs (subidentifiers o) (subidentifiers p) (take at content)
    (octets_from content at) (octets_from other at) (subst Octets this (octets_by content b.octets))
    (subst Octets that (octets_by other b.other_octets))
    (subst (λ (t : List ℕ). AreSubidentifiers t (subidentifiers o)) this b.is.parts)
    (subst (λ (t : List ℕ). AreSubidentifiers t (subidentifiers p)) that b.are.parts) (omega arith) (omega arith) first)

-- if the order of x and y determines which of two names precedes the other, then the names compare as x and y do
decided : OrderLaw → (o p : List ℕ) (x y : ℕ) → (x < y → Precedes o p) → (x ≡ y → o ≡ p) → (y < x → Precedes p o)
    → nat_cmp x y ≡ slice_cmp nat_cmp o p
decided law o p x y less same more = elim (cases_order x y) [
  | inl e ↦ sym (nat_cmp_is x y Equal e) ∙ sym ((law.equal o p).1 (same e))
  | inr (inl e) ↦ sym (nat_cmp_is x y Less e) ∙ sym ((law.less o p).1 (less e))
  | inr (inr e) ↦ sym (nat_cmp_is x y Greater e) ∙ sym ((law.greater o p).1 (more e))
]

-- ---- one of two contents ends

-- if `content` begins with `other` and is longer, then `content` is below `other`
goes_after : (content other : List ℕ) (at : ℕ) → IsAlike content other at → at ≡ length other → length other < length content → IsBelow content other
goes_after content other at h e longer = (
  drop at content,
  λ none. omega (arith, ap length none, length-drop at content, e, longer),
  sym (take-append-drop at content) ∙ ap (λ (t : List ℕ). t ++ drop at content) (same_prefix content other at h ∙ take_all at other (omega (arith, e))),
)

longer_below : {content other o p : List ℕ} {at : ℕ} → Beside content other o p at → at ≡ length other → length other < length content → IsBelow o p
longer_below {content} {other} {o} {p} {at} b e longer =
    below_from_contents content other o p b.is b.are (goes_after content other at b.alike e longer)

pub one_ends : OrderLaw → {content other o p : List ℕ} {at : ℕ} → Beside content other o p at → (at ≡ length content) ⊎ (at ≡ length other)
    → nat_cmp (length content) (length other) ≡ slice_cmp nat_cmp o p
one_ends law {content} {other} {o} {p} {at} b end = decided law o p (length content) (length other)
    (λ less. inl (longer_below (turned b) (at_end (λ e. e) (λ e. omega (arith, e, less, b.alike.short))) less))
    (λ same. let e : at ≡ length content = at_end (λ e. e) (λ e. omega (arith, e, same)) in
    let equal : content ≡ other =
    sym (take_all at content (omega (arith, e))) ∙ same_prefix content other at b.alike ∙ take_all at other (omega (arith, e, same)) in
    one_name content o p b.is (subst (λ (t : List ℕ). IsObjectId t p) (sym equal) b.are))
    (λ more. inl (longer_below b (at_end (λ e. omega (arith, e, more, b.alike.other_short)) (λ e. e)) more))
  where
    at_end : {n : ℕ} → (at ≡ length content → at ≡ n) → (at ≡ length other → at ≡ n) → at ≡ n
    at_end {n} this that = ⊎_elim this that end

-- a name whose content is longer than the root's is below the root if and only if its content begins
-- with the root's
pub below_decided : (content root o p : List ℕ) (at : ℕ) → Beside content root o p at → length root < length content
    → (at < length content → at < length root → get_or content at 0 ≡ get_or root at 0 → ⊥) → (at ≡ length root) ↔ IsBelow o p
below_decided content root o p at b longer differs = (
  λ e. longer_below b e longer,
  λ below. whole (below_from_names content root o p b.octets b.other_octets b.is b.are below),
)
  where
    whole : IsBelow content root → at ≡ length root
    whole (rest, some, e) = ⊎_elim
        (λ less. absurd (differs (omega (arith, less, longer)) less (ap (λ (t : List ℕ). get_or t at 0) e ∙ get_or_append_left root rest 0 at less)))
        (λ no_less. omega (arith, no_less, b.alike.other_short))
        (cases_lt at (length root))

-- if the content of a name isn't longer than the root's, then the name isn't below the root
pub none_below : {content root o p : List ℕ} {at : ℕ} → Beside content root o p at → length content ≤ length root → IsBelow o p → ⊥
none_below {content} {root} {o} {p} b short below = grind (arith, common_steps, below_longer, below_from_names)

-- ---- two octets differ

-- if `x` and `y` differ, and `EndsFirst` holds of the octets from `at` on, of `content` first if `x`
-- is smaller and of `other` first if `y` is, then the names compare as `x` and `y` do
differ_decide : OrderLaw → {content other o p : List ℕ} {at : ℕ} (x y : ℕ) → Beside content other o p at → at < length content → at < length other
    → (x ≡ y → ⊥) → (x < y → EndsFirst (octets_from content at) (octets_from other at))
    → (y < x → EndsFirst (octets_from other at) (octets_from content at)) → nat_cmp x y ≡ slice_cmp nat_cmp o p
differ_decide law {content} {other} {o} {p} {at} x y b low other_low differ this that = decided law o p x y
    (λ less. names_differ law b low other_low (this less))
    (λ same. absurd (differ same))
    (λ more. names_differ law (turned b) other_low low (that more))

-- if the subidentifiers that contain the octets at `at` end at different indices, then the names compare as these indices do
pub ends_decide : OrderLaw → {content other o p : List ℕ} {at end last : ℕ} → Beside content other o p at → at < length content → at < length other
    → EndsAt content at end → EndsAt other at last → (end ≡ last → ⊥) → nat_cmp end last ≡ slice_cmp nat_cmp o p
ends_decide law {content} {other} {o} {p} {at} {end} {last} b low other_low e f differ =
    let this = end_is content at end e in
    let that = end_is other at last f in
    differ_decide law end last b low other_low differ (λ less. inl (omega (arith, less, this, that))) (λ more. inl (omega (arith, more, this, that)))

-- if the octets of `content` and `other` at `at` differ, then the subidentifier of the smaller octet ends first, or both end together
abbrev pub EndsBy : List ℕ → List ℕ → ℕ → Type 0
EndsBy content other at =
    (get_or content at 0 < get_or other at 0 → EndsFirst (octets_from content at) (octets_from other at))
    × (get_or other at 0 < get_or content at 0 → EndsFirst (octets_from other at) (octets_from content at))

pub octets_decide : OrderLaw → {content other o p : List ℕ} {at : ℕ} → Beside content other o p at → at < length content → at < length other
    → (get_or content at 0 ≡ get_or other at 0 → ⊥) → EndsBy content other at
    → nat_cmp (get_or content at 0) (get_or other at 0) ≡ slice_cmp nat_cmp o p
octets_decide law {content} {other} {o} {p} {at} b low other_low differ way =
    differ_decide law (get_or content at 0) (get_or other at 0) b low other_low differ way.0 way.1

pub both_go_on : {content other : List ℕ} {at end last : ℕ} → EndsAt content at end → EndsAt other at last → end ≡ last → EndsBy content other at
both_go_on {content} {other} {at} {end} {last} e f same =
    let far : reach (octets_from content at) ≡ reach (octets_from other at) = omega (arith, same, end_is content at end e, end_is other at last f) in
    (λ less. inr (far, less), λ more. inr (sym far, more))

-- if the octet of `content` at `at` is the last of its subidentifier, and the smaller one, then its subidentifier ends first, or both end together
last_first : (content other : List ℕ) (at : ℕ) → get_or content at 0 < 128 → get_or content at 0 < get_or other at 0
    → EndsFirst (octets_from content at) (octets_from other at)
last_first content other at last less =
    let here = reach_none content at last in
    ⊎_elim (λ longer. inl (omega (arith, here, longer))) (λ none. inr (omega (arith, here, none), less)) (cases_lt 0 (reach (octets_from other at)))

pub one_is_last : (content other : List ℕ) (at : ℕ) → (get_or content at 0 < 128) ⊎ (get_or other at 0 < 128) → EndsBy content other at
one_is_last content other at last = grind (arith, common_steps, last_first, ⊎_elim)

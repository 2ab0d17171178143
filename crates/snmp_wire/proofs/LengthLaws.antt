-- Lengths and elements, for proofs about values and messages. What decoding returns is encoded by
-- the octets, and a fault that it returns applies to them (`length_gives`, `content_gives`, ..). Octets
-- that begin with an element are decoded as this element (`inner_again`, ..).
use Rattle.std.proofs.lemmas.Grind.{common_steps}
use Rattle.std.proofs.Common.{◌≡◌, ◌≢◌, ℕ, ◌+◌, ◌-◌, ◌<◌, ◌≤◌, false, eqb, ltb, ◌&&◌, List, [], ◌∷◌, ◌++◌, length, take, drop, replicate, Ok, refl}
use Rattle.std.proofs.Common.{sym, ap, subst, append_assoc, arith, ◌⊎◌, inl, inr}
use Rattle.std.proofs.lemmas.Bool.{ltb-true, ltb-false, lt-ltb, le-ltb, eqb-true, eqb-false, eq-eqb, and_cases, and_parts}
use Rattle.std.proofs.lemmas.List.{take_at, drop_at, take-append-drop, length-append, length-replicate, length-take-le}
use Rattle.snmp_wire.specs.{declared.ber.error.BerError.BerError, ber.Number.unsigned, ber.Length.IsLength, ber.Length.IsElement}
use Rattle.snmp_wire.specs.declared.ber.error.BerError.TheVariants as error
use Rattle.snmp_wire.specs.Fault.{BeginsWith, EndsEarly, HasForbiddenLength}
use Rattle.snmp_wire.specs.ber.Decode.{long_length_at, length_at, content_at, inner_at, element_at}
use Rattle.snmp_wire.proofs.ReadingLaws.{Gives, a_fault, a_value, gives_either, gives_so, gives_then}

-- ---- octets that end early

abbrev zeros : ℕ → List ℕ
zeros n = replicate n 0

pub some_octets : (octets : List ℕ) → 0 < length octets → octets ≢ []
some_octets octets lt e = let none : length octets ≡ 0 = ap length e in omega arith

-- a proper prefix of an element ends early
ends_early : {octets : List ℕ} (tag : ℕ) (length_field content missing : List ℕ) → 0 < length missing → IsLength length_field (length content)
    → octets ++ missing ≡ tag ∷ length_field ++ content → EndsEarly octets
ends_early tag length_field content missing some is_length parts = record {
  missing = missing;
  some = some_octets missing some;
  tag = tag;
  content = content;
  whole = record { length_octets = length_field; is_length = is_length; parts = parts };
}

-- a first octet of 129 to 132, and as many digits as it says, are a length in the long form
long_form : (first : ℕ) (digits : List ℕ) → 128 < first → first < 133 → length digits ≡ first - 128 → IsLength (first ∷ digits) (unsigned digits)
long_form first digits low high size = inr (record {
  digits = digits;
  some = omega arith;
  few = omega arith;
  value = refl;
  parts = ap (λ (n : ℕ). n ∷ digits) (omega arith);
})

-- an element ends early if its length is complete and its content isn't
content_short : (tag : ℕ) (length_field after : List ℕ) (n : ℕ)
    → IsLength length_field n → length after < n → EndsEarly (tag ∷ length_field ++ after)
content_short tag length_field after n is_length short =
    let missing = zeros (n - length after) in
    let size = length-replicate {A = ℕ} (n - length after) 0 in
    let whole : n ≡ length (after ++ missing) = omega (arith, length-append after missing, size) in
    ends_early tag length_field (after ++ missing) missing (omega (arith, size)) (subst (IsLength length_field) whole is_length)
    (ap (λ (o : List ℕ). tag ∷ o) (append_assoc length_field after missing))

-- an element ends early if its length has the long form with one to four digits and isn't complete
length_short : (tag first : ℕ) (rest : List ℕ)
    → 128 < first → first < 133 → length rest < first - 128 → EndsEarly (tag ∷ first ∷ rest)
length_short tag first rest low high short =
    let more = zeros (first - 128 - length rest) in
    let size = length-replicate {A = ℕ} (first - 128 - length rest) 0 in
    let digits = rest ++ more in
    let content = zeros (unsigned digits) in
    let is_long = long_form first digits low high (omega (arith, length-append rest more, size)) in
    ends_early tag (first ∷ digits) content (more ++ content) (omega (arith, length-append more content, size))
    (subst (IsLength (first ∷ digits)) (sym (length-replicate {A = ℕ} (unsigned digits) 0)) is_long)
    (ap (λ (o : List ℕ). tag ∷ first ∷ o) (sym (append_assoc rest more content)))

no_length : IsLength (0 ∷ []) 0
no_length = inl (record { small = omega arith; one = refl })

nothing_there : (tag : ℕ) → EndsEarly (tag ∷ [])
nothing_there tag = ends_early tag (0 ∷ []) [] (0 ∷ []) (omega arith) no_length refl

pub no_octets : EndsEarly []
no_octets = ends_early 0 (0 ∷ []) [] (0 ∷ 0 ∷ []) (omega arith) no_length refl

-- ---- lengths

-- `octets` begin with a form of the length `x.0`, and `x.1` follows it
abbrev pub TakesLength : List ℕ → ℕ × List ℕ → Type 0
TakesLength octets x = (length_field : List ℕ) × IsLength length_field x.0 × (octets ≡ length_field ++ x.1)

-- `octets` don't begin with an element, and the fault `e` says why: they end early (then `e` is `cut`), or the length has a forbidden form
abbrev pub IsBadElement : BerError → List ℕ → BerError → Type 0
IsBadElement cut octets e =
    ((cut ≡ e) × EndsEarly octets) ⊎ ((error.Length ≡ e) × HasForbiddenLength octets)

forbidden : (first : ℕ) → 128 ≤ first → (ltb 128 first && ltb first 133) ≡ false
    → (first ≡ 0x80) ⊎ (0x85 ≤ first)
forbidden first le h = grind (arith, common_steps, and_cases, ltb-false)

long_length_gives : (cut : BerError) (tag first : ℕ) (rest : List ℕ) → 128 ≤ first
    → Gives (TakesLength (first ∷ rest)) (IsBadElement cut (tag ∷ first ∷ rest))
    (long_length_at cut first rest)
unfolding long_length_at
long_length_gives cut tag first rest large =
    let width = first - 128 in
    gives_either (ltb 128 first && ltb first 133)
    (λ good.
    let both = and_parts (ltb 128 first) (ltb first 133) good in
    let low : 128 < first = ltb-true 128 first both.0 in
    let high : first < 133 = ltb-true first 133 both.1 in
    gives_either (ltb (length rest) width)
    (λ short. a_fault cut
    (inl (refl, length_short tag first rest low high (ltb-true (length rest) width short))))
    (λ long.
    let size : length (take width rest) ≡ width = length-take-le width rest (ltb-false (length rest) width long) in
    a_value (unsigned (take width rest), drop width rest)
    (first ∷ take width rest, long_form first (take width rest) low high size, ap (λ (o : List ℕ). first ∷ o) (sym (take-append-drop width rest)))))
    (λ bad. a_fault error.Length
    (inr (refl, record { tag = tag; first = first; rest = rest; parts = refl; forbidden = forbidden first large bad })))

length_gives : (cut : BerError) (tag : ℕ) (octets : List ℕ)
    → Gives (TakesLength octets) (IsBadElement cut (tag ∷ octets)) (length_at cut octets)
unfolding length_at
length_gives cut tag [] = a_fault cut (inl (refl, nothing_there tag))
length_gives cut tag (first ∷ rest) =
    gives_either (ltb first 128)
    (λ small. a_value (first, rest)
    (first ∷ [], inl (record { small = ltb-true first 128 small; one = refl }), refl))
    (λ large. long_length_gives cut tag first rest (ltb-false first 128 large))

short_length_again : (cut : BerError) (n : ℕ) (rest : List ℕ)
    → n < 128 → length_at cut (n ∷ rest) ≡ Ok (n, rest)
unfolding length_at
short_length_again cut n rest small = rw (lt-ltb n 128 small) refl

long_length_again : (cut : BerError) (digits rest : List ℕ) → 1 ≤ length digits → length digits ≤ 4
    → length_at cut ((128 + length digits) ∷ (digits ++ rest)) ≡ Ok (unsigned digits, rest)
unfolding length_at long_length_at
long_length_again cut digits rest some few = grind (arith, common_steps, le-ltb, length-append, lt-ltb, take_at, drop_at)

length_again : (cut : BerError) (length_field : List ℕ) (n : ℕ) (rest : List ℕ)
    → IsLength length_field n → length_at cut (length_field ++ rest) ≡ Ok (n, rest)
length_again cut length_field n rest (inl s) = rw s.one (short_length_again cut n rest s.small)
length_again cut length_field n rest (inr s) = grind (arith, common_steps, long_length_again)

-- ---- elements

-- what `content_at` returns is the content of an element with this tag, or its fault says why there isn't one
pub content_gives : (cut : BerError) (tag : ℕ) (octets : List ℕ)
    → Gives (λ x. BeginsWith tag x.0 (tag ∷ octets) x.1) (IsBadElement cut (tag ∷ octets))
    (content_at cut octets)
unfolding content_at
content_gives cut tag octets = gives_then _ (length_gives cut tag octets) (λ x t.
    let n = x.0 in
    let after = x.1 in
    gives_either (ltb (length after) n)
    (λ short. let early = content_short tag t.0 after n t.1 (ltb-true (length after) n short) in
    a_fault cut (inl (refl, subst (λ (o : List ℕ). EndsEarly (tag ∷ o)) (sym t.2) early)))
    (λ long.
    let content = take n after in
    let len : length content ≡ n = length-take-le n after (ltb-false (length after) n long) in
    let is_length = subst (IsLength t.0) (sym len) t.1 in
    let is_element : IsElement tag content (tag ∷ t.0 ++ content) = record { length_octets = t.0; is_length = is_length; parts = refl } in
    let parts : tag ∷ octets ≡ (tag ∷ t.0 ++ content) ++ drop n after = cc (take-append-drop n after, append_assoc t.0 content (drop n after)) in
    a_value (content, drop n after) (record { element = tag ∷ t.0 ++ content; is_element = is_element; parts = parts })))

-- if a content follows its length, then it is decoded, and `rest` is left
pub content_again : (cut : BerError) (length_field content rest : List ℕ) → IsLength length_field (length content)
    → content_at cut (length_field ++ (content ++ rest)) ≡ Ok (content, rest)
unfolding content_at
content_again cut length_field content rest h =
    let room : ltb (length (content ++ rest)) (length content) ≡ false =
    le-ltb _ _ (omega (arith, length-append content rest)) in
    rw (length_again cut length_field (length content) (content ++ rest) h, room, take_at content rest _ refl, drop_at content rest _ refl) refl

-- `octets` don't begin with an inner element with this tag, and the fault `e` says why: no element can be decoded, or they begin with another tag
abbrev pub IsNoInner : ℕ → List ℕ → BerError → Type 0
IsNoInner tag octets e =
    IsBadElement error.Length octets e
    ⊎ ((error.Tag ≡ e) × (found : ℕ) × (after : List ℕ) × (octets ≡ found ∷ after) × (found ≢ tag))

-- what `inner_at` returns is the content of an inner element with this tag, or its fault says why there isn't one
pub inner_gives : (tag : ℕ) (octets : List ℕ)
    → Gives (λ x. BeginsWith tag x.0 octets x.1) (IsNoInner tag octets) (inner_at tag octets)
unfolding inner_at
inner_gives tag [] = a_fault error.Length (inl (inl (refl, no_octets)))
inner_gives tag (found ∷ octets) = gives_either (eqb found tag)
    (λ same. rw (← eqb-true found tag same)
    (gives_so (λ x begins. begins) (λ e bad. inl bad) (content_gives error.Length found octets)))
    (λ other. a_fault error.Tag (inr (refl, found, octets, refl, eqb-false found tag other)))

regrouped : (tag : ℕ) (content element rest : List ℕ) (h : IsElement tag content element)
    → element ++ rest ≡ tag ∷ (h.length_octets ++ (content ++ rest))
regrouped tag content element rest h = grind (arith, common_steps, append_assoc)

-- if octets begin with an element with the expected tag, then its content is decoded, and `rest` is left
pub inner_again : (tag : ℕ) (content element rest : List ℕ)
    → IsElement tag content element → inner_at tag (element ++ rest) ≡ Ok (content, rest)
unfolding inner_at
inner_again tag content element rest h = grind (arith, common_steps, regrouped, eq-eqb, content_again)

-- what `element_at` returns is an element at the start of the octets, or its fault says why there isn't one
pub element_gives : (octets : List ℕ)
    → Gives (λ x. BeginsWith x.0 x.1 octets x.2) (IsBadElement error.Length octets)
    (element_at octets)
unfolding element_at
element_gives [] = a_fault error.Length (inl (refl, no_octets))
element_gives (tag ∷ octets) = gives_then _ (content_gives error.Length tag octets)
    (λ c begins. a_value (tag, c.0, c.1) begins)

-- if octets begin with an element, then its tag and its content are decoded, and `rest` is left
pub element_again : (tag : ℕ) (content element rest : List ℕ)
    → IsElement tag content element → element_at (element ++ rest) ≡ Ok (tag, content, rest)
unfolding element_at
element_again tag content element rest h = grind (arith, common_steps, regrouped, content_again)

-- if octets begin with an element, then what follows the element is shorter than the octets
pub element_shrinks : {tag : ℕ} {octets content rest : List ℕ}
    → BeginsWith tag content octets rest → length rest < length octets
element_shrinks {tag} {octets} {content} {rest} begins = grind (arith, common_steps, length-append)

-- A text is dotted with some numbers (`IsDotted`) if and only if the parts between its dots are numerals of these numbers.
use Rattle.std.proofs.{lemmas.Grind.common_steps, lemmas.Bool.and_parts, lemmas.Bool.ne_eqb, lemmas.List.append-nil, lemmas.List.Sums.take_while-cons}
use Rattle.std.proofs.Common.{◌≡◌, ◌≢◌, ℕ, true, false, not, ◌==◌, List, [], ◌∷◌, ◌++◌, length, All, Option, Some, None, MatchOption, refl, sym, ◌∙◌}
use Rattle.std.proofs.Common.{ap, subst, arith}
use Rattle.std.proofs.lemmas.List.Elements.{All-head, All-tail, All-cons, All-nil, All-weaker}
use Rattle.std.proofs.lemmas.List.Splits.{slice_split_at, slice_split_none, join_with_byte-slice_split, length-slice_split}
use Rattle.std.specs.{Char.is_ascii_digit, List.slice_split, List.take_while, List.join_with_byte, Str.all_ascii_digits}
use Rattle.snmp_oid.specs.Numeric.{dot, IsNumeral, IsDotted}

-- the parts of a text between its dots
abbrev pub parts : List ℕ → List (List ℕ)
parts text = slice_split (λ octet. octet == dot) text

-- the parts of the text that is left, or no parts if nothing is left
abbrev pub parts_left : Option (List ℕ) → List (List ℕ)
parts_left None = []
parts_left (Some here) = parts here

-- each part is a numeral of the number at its index, and there are as many parts as numbers
abbrev pub AreNumerals : List (List ℕ) → List ℕ → Type 0
AreNumerals [] [] = Unit {0}
AreNumerals [] (n ∷ ns) = ⊥
AreNumerals (p ∷ ps) [] = ⊥
AreNumerals (p ∷ ps) (n ∷ ns) = IsNumeral p n × AreNumerals ps ns

-- no octet of the part is a dot
abbrev pub HasNoDot : List ℕ → Type 0
HasNoDot part = All (λ octet. octet ≢ dot) part

digit_is_no_dot : (octet : ℕ) → is_ascii_digit octet ≡ true → octet ≢ dot
digit_is_no_dot octet yes_digit same = let P : ℕ → Type 0 = λ n. is_ascii_digit n ≡ true in let no : false ≡ true = subst P same yes_digit in cc

pub digits_have_no_dot : (part : List ℕ) → all_ascii_digits part ≡ true → HasNoDot part
digits_have_no_dot [] e = All-nil (λ octet. octet ≢ dot)
digits_have_no_dot (octet ∷ rest) e =
    let both = and_parts (is_ascii_digit octet) (all_ascii_digits rest) e in
    All-cons (λ octet. octet ≢ dot) octet rest (digit_is_no_dot octet both.0) (digits_have_no_dot rest both.1)

tests_false : (part : List ℕ) → HasNoDot part → All (λ octet. (octet == dot) ≡ false) part
tests_false part free = All-weaker (λ octet. octet ≢ dot) (λ octet. (octet == dot) ≡ false) (λ octet other. ne_eqb octet dot other) part free

-- if `part` has no dot, then the parts of `part ++ dot ∷ rest` are `part` and then the parts of `rest`
pub parts_of_first : (part rest : List ℕ) → HasNoDot part → parts (part ++ dot ∷ rest) ≡ part ∷ parts rest
parts_of_first part rest free = slice_split_at (λ octet. octet == dot) part dot rest (tests_false part free) refl

-- a text without dots is its only part
pub parts_of_last : (part : List ℕ) → HasNoDot part → parts part ≡ part ∷ []
parts_of_last part free = slice_split_none (λ octet. octet == dot) part (tests_false part free)

some_part : (text : List ℕ) → parts text ≢ []
some_part text none = omega (arith, length-slice_split (λ octet. octet == dot) text, ap length none)

-- if a text is dotted with the numbers `o`, then its parts are numerals of these numbers
pub numerals_from_dotted : (o text : List ℕ) → IsDotted text o → AreNumerals (parts text) o
numerals_from_dotted [] text h = absurd h
numerals_from_dotted (n ∷ []) text h = rw (parts_of_last text (digits_have_no_dot text h.digits)) (h, tt)
numerals_from_dotted (n ∷ m ∷ more) text h =
    let first : parts text ≡ h.0 ∷ parts h.1 = ap parts h.2 ∙ parts_of_first h.0 h.1 (digits_have_no_dot h.0 h.3.digits) in
    rw first (h.3, numerals_from_dotted (m ∷ more) h.1 h.4)

joined_is_dotted : (ps : List (List ℕ)) (o : List ℕ) → ps ≢ [] → AreNumerals ps o → IsDotted (join_with_byte dot ps) o
joined_is_dotted [] o some h = absurd (some refl)
joined_is_dotted (p ∷ []) [] some h = absurd h
joined_is_dotted (p ∷ []) (n ∷ []) some h = h.0
joined_is_dotted (p ∷ []) (n ∷ m ∷ more) some h = absurd h.1
joined_is_dotted (p ∷ q ∷ ps) [] some h = absurd h
joined_is_dotted (p ∷ q ∷ ps) (n ∷ []) some h = absurd h.1
joined_is_dotted (p ∷ q ∷ ps) (n ∷ m ∷ more) some h = (p, join_with_byte dot (q ∷ ps), refl, h.0, joined_is_dotted (q ∷ ps) (m ∷ more) (λ none. cc) h.1)

-- if the parts of a text are numerals of the numbers `o`, then the text is dotted with these numbers
pub dotted_from_numerals : (o text : List ℕ) → AreNumerals (parts text) o → IsDotted text o
dotted_from_numerals o text h =
    subst (λ (t : List ℕ). IsDotted t o) (join_with_byte-slice_split dot text) (joined_is_dotted (parts text) o (some_part text) h)

-- if the parts are numerals of o and of p, then o and p are the same
pub same_numerals : (ps : List (List ℕ)) (o p : List ℕ) → AreNumerals ps o → AreNumerals ps p → o ≡ p
same_numerals [] [] [] h g = refl
same_numerals [] [] (m ∷ p) h g = absurd g
same_numerals [] (n ∷ o) p h g = absurd h
same_numerals (part ∷ ps) [] p h g = absurd h
same_numerals (part ∷ ps) (n ∷ o) [] h g = absurd g
same_numerals (part ∷ ps) (n ∷ o) (m ∷ p) h g =
    let first : n ≡ m = sym h.0.value ∙ g.0.value in
    let rest : o ≡ p = same_numerals ps o p h.1 g.1 in cc

-- if the parts ps are numerals of o, and `part` is a numeral of n, then ps and then `part` are numerals of o and then n
pub numerals_more : (ps : List (List ℕ)) (o : List ℕ) (part : List ℕ) (n : ℕ) → AreNumerals ps o → IsNumeral part n
    → AreNumerals (ps ++ part ∷ []) (o ++ n ∷ [])
numerals_more [] [] part n h one = (one, tt)
numerals_more [] (m ∷ o) part n h one = absurd h
numerals_more (p ∷ ps) [] part n h one = absurd h
numerals_more (p ∷ ps) (m ∷ o) part n h one = (h.0, numerals_more ps o part n h.1 one)

-- if the parts `ps`, `part` and `qs` together are numerals of o, then `part` is a numeral of a number
pub part_is_numeral : (ps : List (List ℕ)) (part : List ℕ) (qs : List (List ℕ)) (o : List ℕ) → AreNumerals (ps ++ part ∷ qs) o → (n : ℕ) × IsNumeral part n
part_is_numeral [] part qs [] h = absurd h
part_is_numeral [] part qs (n ∷ o) h = (n, h.0)
part_is_numeral (p ∷ ps) part qs [] h = absurd h
part_is_numeral (p ∷ ps) part qs (n ∷ o) h = part_is_numeral ps part qs o h.1

-- the octets before the first dot of the text, or all octets if it has none
abbrev to_dot : List ℕ → List ℕ
to_dot text = take_while (λ octet. not (octet == dot)) text

to_dot-cons : (octet : ℕ) (rest : List ℕ) → octet ≢ dot → to_dot (octet ∷ rest) ≡ octet ∷ to_dot rest
to_dot-cons octet rest other = grind (arith, common_steps, ne_eqb, take_while-cons)

taken_prefix : (part after : List ℕ) → HasNoDot part → to_dot after ≡ [] → to_dot (part ++ after) ≡ part
taken_prefix [] after free none = none
taken_prefix (octet ∷ part) after free none =
    to_dot-cons octet (part ++ after) (All-head (λ octet. octet ≢ dot) octet part free)
    ∙ ap (λ (s : List ℕ). octet ∷ s) (taken_prefix part after (All-tail (λ octet. octet ≢ dot) octet part free) none)

-- `part` is the first part of `here`, and `suffix` is what follows the first dot of `here`, or None if `here` has no dot
abbrev pub Splits : List ℕ → List ℕ → Option (List ℕ) → Type 0
Splits here part suffix = HasNoDot part × MatchOption suffix (here ≡ part) (λ rest. here ≡ part ++ dot ∷ rest)

pub parts_of : (here part : List ℕ) (suffix : Option (List ℕ)) → Splits here part suffix → parts here ≡ part ∷ parts_left suffix
parts_of here part None h = ap parts h.1 ∙ parts_of_last part h.0
parts_of here part (Some rest) h = ap parts h.1 ∙ parts_of_first part rest h.0

pub to_dot_is : (here part : List ℕ) (suffix : Option (List ℕ)) → Splits here part suffix → take_while (λ octet. not (octet == dot)) here ≡ part
to_dot_is here part None h = ap to_dot (h.1 ∙ sym (append-nil part)) ∙ taken_prefix part [] h.0 refl
to_dot_is here part (Some rest) h = ap to_dot h.1 ∙ taken_prefix part (dot ∷ rest) h.0 refl

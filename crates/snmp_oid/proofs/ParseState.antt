-- The state while a text is parsed: the parts read so far, the offset of the next part, and what the text names when all is read.
use Rattle.std.proofs.{lemmas.Grind.common_steps, lemmas.Bool.cases_order, Math.Seq.get_or-append_seam}
use Rattle.std.proofs.Common.{◌≡◌, ◌≢◌, ℕ, min, ◌+◌, ◌-◌, ◌≤◌, ◌<◌, ◌⊎◌, inl, inr, Bool, true, false, List, [], ◌∷◌, ◌++◌, length, take, drop, get_or}
use Rattle.std.proofs.Common.{slice_index, Option, Some, None, refl, sym, ◌∙◌, ap, subst, arith, length-append, append_assoc, ⊎_elim, MatchOption}
use Rattle.std.proofs.Common.{All, map, ◌&&◌}
use Rattle.std.specs.{Char.is_ascii_digit, List.flat_map, Str.all_ascii_digits}
use Rattle.std.proofs.lemmas.List.Elements.{All-head, All-tail}
use Rattle.std.proofs.lemmas.List.{append-nil, take-append-drop, take_all, take-append-le, get_or-drop, get_or_append_left, length_push, drop_at}
use Rattle.std.proofs.lemmas.List.{drop-drop, length-take}
use Rattle.snmp_oid.specs.Numeric.{dot, IsNumeral, IsDotted, IsNumericName, BeginsPart, part_at, IsFirstBadPart, IsPartRead, AreDigitsRead}
use Rattle.snmp_oid.proofs.Dotted.{parts, parts_left, AreNumerals, parts_of, to_dot_is, numerals_from_dotted, dotted_from_numerals, same_numerals}
use Rattle.snmp_oid.proofs.Dotted.{digits_have_no_dot, numerals_more, part_is_numeral}
use Rattle.snmp_oid.proofs.Numeral.{IsLeadingNumber, prefix_numeral, digit_small}

-- `dotted` is the text without its leading dot, if it has one
abbrev pub IsAfterDot : List ℕ → List ℕ → Type 0
IsAfterDot text dotted = ((dotted ≡ text) × (slice_index text 0 ≢ dot)) ⊎ (text ≡ dot ∷ dotted)

-- `at` is the offset of what is left of the text, and a part begins there; if nothing is left, `at` is one above the length of the text
abbrev pub IsPositionOf : List ℕ → Option (List ℕ) → ℕ → Type 0
IsPositionOf text None at = at ≡ length text + 1
IsPositionOf text (Some here) at = (drop at text ≡ here) × (at + length here ≡ length text) × BeginsPart text at

-- the text, which isn't a single dot, is read up to `left`, or to its end if `left` is None: the parts before it are numerals (of `numbers`); `kept` is the
-- first 128 of these numbers, and `too_long` says whether there are more
pub record IsParsedTo (text : List ℕ) (left : Option (List ℕ)) (kept : List ℕ) (too_long : Bool) : Type 0 where
  pub more : text ≢ dot ∷ []
  pub dotted : List ℕ
  pub prefix : IsAfterDot text dotted
  pub done : List (List ℕ)
  pub numbers : List ℕ
  pub are : AreNumerals done numbers
  pub whole : parts dotted ≡ done ++ parts_left left
  pub first : kept ≡ take 128 numbers
  pub short : too_long ≡ false → length numbers ≤ 128
  pub long : too_long ≡ true → 128 < length numbers
  pub at : ℕ
  pub at_position : IsPositionOf text left at
  pub before : (k : ℕ) → k < at → BeginsPart text k → (n : ℕ) × IsNumeral (part_at text k) n

-- a text that begins with a dot doesn't satisfy `IsDotted`
no_empty_first : (rest o : List ℕ) → IsDotted (dot ∷ rest) o → ⊥
no_empty_first rest o h = (part_is_numeral [] [] (parts rest) o (numerals_from_dotted o (dot ∷ rest) h)).1.some refl

-- if a text other than a single dot names o, then the text without its leading dot, if it has one, is dotted
pub dotted_from_name : (text dotted o : List ℕ) → text ≢ dot ∷ [] → IsAfterDot text dotted → IsNumericName text o → IsDotted dotted o
dotted_from_name text dotted o more prefix (inl h) = absurd (more h.0)
dotted_from_name text dotted o more (inl prefix) (inr (inl h)) = rw prefix.0 h
dotted_from_name text dotted o more (inr prefix) (inr (inl h)) = absurd (no_empty_first dotted o (rw prefix at h))
dotted_from_name text dotted o more (inl prefix) (inr (inr h)) = absurd (prefix.1 (ap (λ (t : List ℕ). get_or t 0 0) h.1))
dotted_from_name text dotted o more (inr prefix) (inr (inr h)) = grind (arith, common_steps)

pub name_from_dotted : (text dotted o : List ℕ) → IsAfterDot text dotted → IsDotted dotted o → IsNumericName text o
name_from_dotted text dotted o (inl prefix) h = inr (inl (rw prefix.0 at h))
name_from_dotted text dotted o (inr prefix) h = inr (inr (dotted, prefix, h))

-- a single dot names no identifier but the empty one
pub dot_alone : (text o : List ℕ) → text ≡ dot ∷ [] → IsNumericName text o → o ≡ []
dot_alone text o is (inl h) = h.1
dot_alone text o is (inr (inl h)) = absurd (no_empty_first [] o (rw is at h))
dot_alone text o is (inr (inr h)) =
    let none : h.0 ≡ [] = cc (h.1, is) in
    absurd ((part_is_numeral [] [] [] o (numerals_from_dotted o [] (rw none at h.2))).1.some refl)

-- if a text is dotted with the numbers o and with the numbers p, then o and p are the same
same_dotted : (text o p : List ℕ) → IsDotted text o → IsDotted text p → o ≡ p
same_dotted text o p h g = same_numerals (parts text) o p (numerals_from_dotted o text h) (numerals_from_dotted p text g)

pub one_name : (text o p : List ℕ) → IsNumericName text o → IsNumericName text p → o ≡ p
one_name text o p (inl h) g = h.1 ∙ sym (dot_alone text p h.0 g)
one_name text o p (inr h) (inl g) = dot_alone text o g.0 (inr h) ∙ sym g.1
one_name text o p (inr (inl h)) (inr (inl g)) = same_dotted text o p h g
one_name text o p (inr (inl h)) (inr (inr g)) = absurd (no_empty_first g.0 o (rw g.1 at h))
one_name text o p (inr (inr h)) (inr (inl g)) = absurd (no_empty_first h.0 p (rw h.1 at g))
one_name text o p (inr (inr h)) (inr (inr g)) = grind (arith, common_steps, same_dotted)

-- a text has at most one first bad part
pub one_bad_part : (text : List ℕ) (at k : ℕ) → IsFirstBadPart text at → IsFirstBadPart text k → at ≡ k
one_bad_part text at k h g =
    let not_below : at < k → ⊥ = λ low. (let one = g.before at low h.part in h.bad one.0 one.1) in
    let not_above : k < at → ⊥ = λ low. (let one = h.before k low g.part in g.bad one.0 one.1) in
    omega (arith, not_below, not_above)

-- if the text isn't a single dot, then it is read up to `dotted`, the text without its leading dot if it has one, with no numbers; `at` is the offset of
-- `dotted`, and no part begins before it
begins_at : (text dotted kept : List ℕ) → text ≢ dot ∷ [] → IsAfterDot text dotted → kept ≡ [] → (at : ℕ) → IsPositionOf text (Some dotted) at
    → ((k : ℕ) → k < at → BeginsPart text k → ⊥) → IsParsedTo text (Some dotted) kept false
begins_at text dotted kept more prefix none at at_position before = record {
  more = more;
  dotted = dotted;
  prefix = prefix;
  done = [];
  numbers = [];
  are = tt;
  whole = refl;
  first = none;
  short = λ _. omega arith;
  long = λ e. absurd cc;
  at = at;
  at_position = at_position;
  before = λ k low part. absurd (before k low part);
}

pub parse_begins : (text dotted kept : List ℕ) → text ≢ dot ∷ [] → IsAfterDot text dotted → kept ≡ [] → IsParsedTo text (Some dotted) kept false
parse_begins text dotted kept more (inl prefix) none = begins_at text dotted kept more (inl prefix) none 0
    (sym prefix.0, omega (arith, ap length prefix.0), inl (refl, prefix.1)) (λ k low part. omega arith)
parse_begins text dotted kept more (inr prefix) none = begins_at text dotted kept more (inr prefix) none 1
    (ap (drop 1) prefix, omega (arith, ap length prefix), inr (omega (arith, ap length prefix), omega arith, first)) none_at_first
  where
    first : get_or text 0 0 ≡ dot
    first = ap (λ (t : List ℕ). get_or t 0 0) prefix

    none_at_first : (k : ℕ) → k < 1 → BeginsPart text k → ⊥
    none_at_first k low (inl part) = part.1 first
    none_at_first k low (inr part) = omega arith

-- a text begins with its first part
begins_with : (here part : List ℕ) (suffix : Option (List ℕ)) → MatchOption suffix (here ≡ part) (λ rest. here ≡ part ++ dot ∷ rest)
    → (more : List ℕ) × (here ≡ part ++ more)
begins_with here part None is = ([], is ∙ sym (append-nil part))
begins_with here part (Some rest) is = (dot ∷ rest, is)

module _ (text : List ℕ) {here : List ℕ} {number : Option ℕ} {suffix : Option (List ℕ)} (r : IsPartRead here number suffix) (at : ℕ)
    (at_position : drop at text ≡ here) where
  -- no part begins within a part
  none_inside : (k : ℕ) → at < k → k < at + length r.part + 1 → BeginsPart text k → ⊥
  none_inside k above below (inl begins) = omega arith
  none_inside k above below (inr begins) =
      let j : ℕ = k - 1 - at in
      let low : j < length r.part = omega arith in
      let index : k - 1 ≡ at + j = omega arith in
      let prefix = begins_with here r.part suffix r.parts in
      let octet : get_or text (k - 1) 0 ≡ get_or r.part j 0 = ap (λ i. get_or text i 0) index ∙ sym (get_or-drop at text j 0)
      ∙ ap (λ (t : List ℕ). get_or t j 0) (at_position ∙ prefix.1) ∙ get_or_append_left r.part prefix.0 0 j low in
      r.plain j 0 low (sym octet ∙ begins.2)

  part_at_is : part_at text at ≡ r.part
  part_at_is = ap (λ (t : List ℕ). part_at t 0) at_position ∙ to_dot_is here r.part suffix (r.plain, r.parts)

  before_more : (n : ℕ) → IsNumeral r.part n → ((k : ℕ) → k < at → BeginsPart text k → (m : ℕ) × IsNumeral (part_at text k) m)
      → (k : ℕ) → k < at + length r.part + 1 → BeginsPart text k → (m : ℕ) × IsNumeral (part_at text k) m
  before_more n one before k low begins = ⊎_elim
      (λ same. (n, subst (λ (t : List ℕ). IsNumeral t n) (sym (ap (part_at text) same ∙ part_at_is)) one))
      (⊎_elim (λ below. before k below begins) (λ above. absurd (none_inside k above low begins)))
      (cases_order k at)

-- after a part is read, what is left begins after the part's dot, or nothing is left
position_after : (text here part : List ℕ) (suffix : Option (List ℕ)) (at : ℕ) → IsPositionOf text (Some here) at
    → MatchOption suffix (here ≡ part) (λ rest. here ≡ part ++ dot ∷ rest) → IsPositionOf text suffix (at + length part + 1)
position_after text here part None at at_position is = omega (arith, at_position.1, ap length is)
position_after text here part (Some rest) at at_position is =
    let size : length here ≡ length part + 1 + length rest = omega (arith, ap length is, length-append part (dot ∷ rest)) in
    let index : drop (at + length part) text ≡ dot ∷ rest =
    sym (drop-drop (length part) at text) ∙ ap (drop (length part)) (at_position.0 ∙ is) ∙ drop_at part (dot ∷ rest) (length part) refl in
    let octet : get_or text (at + length part) 0 ≡ dot = sym (get_or-drop at text (length part) 0)
    ∙ ap (λ (t : List ℕ). get_or t (length part) 0) (at_position.0 ∙ is) ∙ get_or-append_seam part dot rest 0 in
    let before : at + length part ≡ at + length part + 1 - 1 = omega arith in (
      sym (drop-drop 1 (at + length part) text) ∙ ap (drop 1) index,
      omega (arith, at_position.1, size),
      inr (omega (arith, at_position.1, size), omega arith, subst (λ (i : ℕ). get_or text i 0 ≡ dot) before octet),
    )

-- `new` and `now` are `kept` and `too_long` after the number n: if `kept` has fewer than 128 numbers, n is appended, otherwise `now` is true
abbrev pub Keeps : List ℕ → Bool → ℕ → List ℕ → Bool → Type 0
Keeps kept too_long n new now = ((length kept < 128) × (new ≡ kept ++ n ∷ []) × (now ≡ too_long)) ⊎ ((128 ≤ length kept) × (new ≡ kept) × (now ≡ true))

keeps_more : (numbers kept new : List ℕ) (too_long now : Bool) (n : ℕ) → kept ≡ take 128 numbers → (too_long ≡ true → 128 < length numbers)
    → Keeps kept too_long n new now
    → (new ≡ take 128 (numbers ++ n ∷ [])) × (now ≡ false → length (numbers ++ n ∷ []) ≤ 128) × (now ≡ true → 128 < length (numbers ++ n ∷ []))
keeps_more numbers kept new too_long now n first long (inl keeps) =
    let count : length kept ≡ min 128 (length numbers) = ap length first ∙ length-take 128 numbers in
    let room : length numbers < 128 = omega (arith, count, keeps.0) in
    let whole : kept ≡ numbers = first ∙ take_all 128 numbers (omega arith) in
    let fits : length (numbers ++ n ∷ []) ≤ 128 = omega (arith, length_push numbers n) in (
      keeps.1 ∙ ap (λ (s : List ℕ). s ++ n ∷ []) whole ∙ sym (take_all 128 (numbers ++ n ∷ []) fits),
      λ _. fits,
      λ e. (let over : 128 < length numbers = long (sym keeps.2 ∙ e) in absurd (omega arith)),
    )
keeps_more numbers kept new too_long now n first long (inr keeps) =
    let count : length kept ≡ min 128 (length numbers) = ap length first ∙ length-take 128 numbers in
    let full : 128 ≤ length numbers = omega (arith, count, keeps.0) in (
      keeps.1 ∙ first ∙ sym (take-append-le 128 numbers (n ∷ []) full),
      λ e. (let no : false ≡ true = sym e ∙ keeps.2 in cc),
      λ _. omega (arith, length_push numbers n),
    )

-- if a text is read up to `here`, and the first part of `here` is a numeral of n, then the text is read up to the end of this part; `new` and `now` are the
-- numbers and the flag after n (`Keeps`)
pub parse_more : {text here : List ℕ} {suffix : Option (List ℕ)} {kept : List ℕ} {too_long : Bool} (new : List ℕ) (now : Bool) {n : ℕ}
    → IsParsedTo text (Some here) kept too_long → IsPartRead here (Some n) suffix → Keeps kept too_long n new now → IsParsedTo text suffix new now
parse_more {text} {here} {suffix} {kept} {too_long} new now {n} h r keeps =
    let more = keeps_more h.numbers kept new too_long now n h.first h.long keeps in record {
      more = h.more;
      dotted = h.dotted;
      prefix = h.prefix;
      done = h.done ++ r.part ∷ [];
      numbers = h.numbers ++ n ∷ [];
      are = numerals_more h.done h.numbers r.part n h.are r.read;
      whole = h.whole ∙ ap (λ (ps : List (List ℕ)). h.done ++ ps) (parts_of here r.part suffix (r.plain, r.parts))
          ∙ sym (append_assoc h.done (r.part ∷ []) (parts_left suffix));
      first = more.0;
      short = more.1;
      long = more.2;
      at = h.at + length r.part + 1;
      at_position = position_after text here r.part suffix h.at h.at_position r.parts;
      before = before_more text r h.at h.at_position.0 n r.read h.before;
    }

-- if a text begins with a digit and a dot, then its first part is the digit, a numeral
digit_read : (digit : ℕ) (rest : List ℕ) → is_ascii_digit digit ≡ true → IsPartRead (digit ∷ dot ∷ rest) (Some (digit - 48)) (Some rest)
digit_read digit rest is_digit =
    let digits : all_ascii_digits (digit ∷ []) ≡ true = ap (λ b. b && true) is_digit in record {
      part = digit ∷ [];
      plain = digits_have_no_dot (digit ∷ []) digits;
      parts = refl;
      read = record { some = λ none. cc; digits = digits; value = omega arith; fits = omega (arith, digit_small digit is_digit) };
    }

-- if a text is read up to `here`, which begins with parts of one digit each, and there is room for their numbers, then it is read up to `rest`, with the
-- numbers appended
parse_each : (digits text here rest kept : List ℕ) (too_long : Bool) → IsParsedTo text (Some here) kept too_long
    → All (λ digit. is_ascii_digit digit ≡ true) digits → here ≡ flat_map (λ digit. digit ∷ dot ∷ []) digits ++ rest → length kept + length digits ≤ 128
    → IsParsedTo text (Some rest) (kept ++ map (λ digit. digit - 48) digits) too_long
parse_each [] text here rest kept too_long h are parts room = rw (append-nil kept) (rw parts at h)
parse_each (digit ∷ digits) text here rest kept too_long h are parts room =
    let is_digit : is_ascii_digit digit ≡ true = All-head (λ x. is_ascii_digit x ≡ true) digit digits are in
    let suffix : List ℕ = flat_map (λ x. x ∷ dot ∷ []) digits ++ rest in
    let next : List ℕ = kept ++ (digit - 48) ∷ [] in
    let one : IsParsedTo text (Some suffix) next too_long =
    parse_more next too_long (rw parts at h) (digit_read digit suffix is_digit) (inl (omega (arith, room), refl, refl)) in
    rw (← append_assoc kept ((digit - 48) ∷ []) (map (λ x. x - 48) digits))
    (parse_each digits text suffix rest next too_long one (All-tail (λ x. is_ascii_digit x ≡ true) digit digits are) refl
    (omega (arith, room, length_push kept (digit - 48))))

pub parse_digits : {count : ℕ} {text here rest kept new : List ℕ} {too_long : Bool} → IsParsedTo text (Some here) kept too_long
    → AreDigitsRead count here rest kept new → IsParsedTo text (Some rest) new too_long
parse_digits {count} {text} {here} {rest} {kept} {new} {too_long} h read = grind (arith, common_steps, parse_each, parts)

-- if a text is read up to `here`, and the first part of `here` isn't a numeral, then this part is the first bad one of the text
pub bad_part_here : {text here : List ℕ} {suffix : Option (List ℕ)} {kept : List ℕ} {too_long : Bool} → IsParsedTo text (Some here) kept too_long
    → IsPartRead here None suffix → IsFirstBadPart text (length text - length here)
bad_part_here {text} {here} h r =
    let index : h.at ≡ length text - length here = omega (arith, h.at_position.1) in
    subst (λ (k : ℕ). IsFirstBadPart text k) index (record {
      more = h.more;
      part = h.at_position.2;
      bad = λ n one. r.read n (subst (λ (t : List ℕ). IsNumeral t n) (part_at_is text r h.at h.at_position.0) one);
      before = h.before;
    })

pub bad_part_no_name : {text here : List ℕ} {suffix : Option (List ℕ)} {kept : List ℕ} {too_long : Bool} → IsParsedTo text (Some here) kept too_long
    → IsPartRead here None suffix → (o : List ℕ) → IsNumericName text o → ⊥
bad_part_no_name {text} {here} {suffix} h r o name =
    let all : AreNumerals (h.done ++ r.part ∷ parts_left suffix) o =
    subst (λ (ps : List (List ℕ)). AreNumerals ps o)
    (h.whole ∙ ap (λ (ps : List (List ℕ)). h.done ++ ps) (parts_of here r.part suffix (r.plain, r.parts)))
    (numerals_from_dotted o h.dotted (dotted_from_name text h.dotted o h.more h.prefix name)) in
    let one = part_is_numeral h.done r.part (parts_left suffix) o all in
    r.read one.0 one.1

-- if the whole text is read, then it names the numbers read
pub parsed_name : (text kept : List ℕ) (too_long : Bool) (h : IsParsedTo text None kept too_long) → IsNumericName text h.numbers
parsed_name text kept too_long h = grind (arith, common_steps, name_from_dotted, dotted_from_numerals, append-nil)

-- if the whole text is read, then it names only the numbers read
pub parsed_only : (text kept : List ℕ) (too_long : Bool) (h : IsParsedTo text None kept too_long) (o : List ℕ) → IsNumericName text o → o ≡ h.numbers
parsed_only text kept too_long h o name = grind (arith, common_steps, same_numerals, append-nil, numerals_from_dotted, dotted_from_name)

pub parsed_short : (text kept : List ℕ) → (h : IsParsedTo text None kept false) → (length h.numbers ≤ 128) × (kept ≡ h.numbers)
parsed_short text kept h = (h.short refl, h.first ∙ take_all 128 h.numbers (h.short refl))

-- what follows a part: a dot and the rest, or nothing
abbrev pub dot_and_rest : Option (List ℕ) → List ℕ
dot_and_rest None = []
dot_and_rest (Some rest) = dot ∷ rest

parts_after : (text part : List ℕ) (after : Option (List ℕ)) → text ≡ part ++ dot_and_rest after
    → MatchOption after (text ≡ part) (λ rest. text ≡ part ++ dot ∷ rest)
parts_after text part None e = e ∙ append-nil part
parts_after text part (Some rest) e = e

-- if one or more digits at the start of a text write `number` (`IsLeadingNumber`), and a dot or the end follows, then these digits are the first part of
-- the text, a numeral of `number`
pub part_is_read : (text : List ℕ) (count number : ℕ) (after : Option (List ℕ)) → 0 < count → IsLeadingNumber text count number
    → drop count text ≡ dot_and_rest after → IsPartRead text (Some number) after
part_is_read text count number after some h suffix =
    let numeral : IsNumeral (take count text) number = prefix_numeral text count number some h in
    let whole : text ≡ take count text ++ dot_and_rest after = sym (take-append-drop count text) ∙ ap (λ (rest : List ℕ). take count text ++ rest) suffix in
    record {
      part = take count text;
      plain = digits_have_no_dot (take count text) numeral.digits;
      parts = parts_after text (take count text) after whole;
      read = numeral;
    }

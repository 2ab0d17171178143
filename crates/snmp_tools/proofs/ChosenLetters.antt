-- The letters of -C, read one after the other, choose what `HaveChosen` says (`none_read`,
-- `goes_on`, `ends`), and that is unique (`one_choice`, `no_choice`).
use Rattle.std.proofs.{lemmas.Grind.common_steps, Math.Bool.or-false, Math.Bool.or_comm, lemmas.List.Folds.list_any-append}
use Rattle.std.proofs.Common.{◌≡◌, ◌⊎◌, inl, inr, ◌∙◌, ◌+◌, ◌-◌, ◌++◌, ◌<◌, ◌≤◌, ℕ, Bool, true, false, List, [], ◌∷◌, drop, length, slice_index_or}
use Rattle.std.proofs.Common.{take, refl, sym, ap, subst, arith, append_assoc, append-nil, length-append}
use Rattle.std.proofs.lemmas.Bool.{and_parts, or_from, or_parts}
use Rattle.std.proofs.lemmas.List.{drop_at, length-take-le, take-append-drop, take_at, take_rest}
use Rattle.std.specs.{Prelude.◌||◌, Prelude.◌==◌, Prelude.if◌then◌else◌, Char.is_ascii_digit, List.list_all, Str.Parse.digits_value}
use Rattle.snmp_io.specs.Steps.{AreDone}
use Rattle.snmp_tools.specs.Letters.{AreLettersIn, AreRepetitions, Choices, HaveChosen, IsFirstUnknown, IsKnown, IsLastNumber, IsPlain, IsUnknown}
use Rattle.snmp_tools.specs.Letters.{has, no_choices}
use Rattle.snmp_tools.specs.private.Choosing.{OneMore, letter_parts, put}
use Rattle.snmp_tools.proofs.LetterOffsets.{NoDigitFirst, at_index, no_digit_at}

abbrev Part : Type 0
Part = ℕ × List ℕ

-- ---- letters in a text

-- `parts` are the digits that `text` begins with, and the letters after them
abbrev Parted : List ℕ → List ℕ × List Part → Type 0
Parted text parts = (rest : List ℕ) × (text ≡ parts.0 ++ rest) × (list_all is_ascii_digit parts.0 ≡ true) × AreLettersIn rest parts.1

put_parted : (octet : ℕ) (text : List ℕ) (parts : List ℕ × List Part) → Parted text parts → Parted (octet ∷ text) (put octet parts)
put_parted octet text (prefix, letters) (rest, e, all, are) = at (is_ascii_digit octet) refl
  where
    at : (b : Bool) → is_ascii_digit octet ≡ b
        → Parted (octet ∷ text) (if b then (octet ∷ prefix, letters) else ([], (octet, prefix) ∷ letters))
    at true is = (rest, ap (λ (t : List ℕ). octet ∷ t) e, rw (is, all) refl, are)
    at false is = (octet ∷ text, refl, refl, (rest, ap (λ (t : List ℕ). octet ∷ t) e, is, all, are))

parted : (text : List ℕ) → Parted text (letter_parts text)
parted [] = ([], refl, refl, refl)
parted (octet ∷ text) = put_parted octet text (letter_parts text) (parted text)

digits_before : (digits rest : List ℕ) (more : List Part) → list_all is_ascii_digit digits ≡ true → letter_parts rest ≡ ([], more)
    → letter_parts (digits ++ rest) ≡ (digits, more)
digits_before [] rest more all e = e
digits_before (d ∷ digits) rest more all e = grind (arith, common_steps, and_parts, digits_before digits rest more)

parts_of : (letters : List Part) (text : List ℕ) → AreLettersIn text letters → letter_parts text ≡ ([], letters)
parts_of [] text e = ap letter_parts e
parts_of ((letter, digits) ∷ more) text (rest, e, none, all, are) =
    ap letter_parts e ∙ rw (digits_before digits rest more all (parts_of more rest are), none) refl

one_list : (text : List ℕ) (a b : List Part) → AreLettersIn text a → AreLettersIn text b → a ≡ b
one_list text a b h k = ap (λ (p : List ℕ × List Part). p.1) (sym (parts_of a text h) ∙ parts_of b text k)

-- ---- all letters

-- if `P` holds of each step of a list, then it holds of `step`, which is in the list
pub among : {S : Type 0} (P : S → Type 0) (before : List S) (step : S) (after : List S) → AreDone P (before ++ step ∷ after) → P step
among P [] step after h = h.0
among P (s ∷ before) step after h = among P before step after h.1

pub both : {S : Type 0} (P : S → Type 0) (a b : List S) → AreDone P a → AreDone P b → AreDone P (a ++ b)
both P [] b h k = k
both P (s ∷ a) b h k = (h.0, both P a b h.1 k)

joined : (prefix back : List ℕ) (a b : List Part) → AreLettersIn prefix a → AreLettersIn back b → AreLettersIn (prefix ++ back) (a ++ b)
joined prefix back [] b e are = subst (λ (t : List ℕ). AreLettersIn (t ++ back) b) (sym e) are
joined prefix back ((letter, digits) ∷ a) b (rest, e, none, all, more) are = grind (arith, common_steps, append_assoc, joined rest back a b more are)

-- a text that doesn't begin with a digit consists of letters, each followed by its digits (`AreLettersIn`)
has_letters : (text : List ℕ) → NoDigitFirst text → (letters : List Part) × AreLettersIn text letters
has_letters [] none = ([], refl)
has_letters (octet ∷ text) none =
    let p = parted text in
    ((octet, (letter_parts text).0) ∷ (letter_parts text).1, (p.0, ap (λ (t : List ℕ). octet ∷ t) p.1, none, p.2, p.3))

has_more : (x : ℕ) (letters : List Part) (part : Part) → has x (letters ++ part ∷ []) ≡ ((part.0 == x) || has x letters)
has_more x letters part =
    list_any-append (λ (p : Part). p.0 == x) letters (part ∷ []) ∙ or_comm (has x letters) ((part.0 == x) || false)
    ∙ ap (λ (b : Bool). b || has x letters) (or-false (part.0 == x))

-- Let `old` be the number of repetitions that `letters` choose (`IsLastNumber`). Let `new` be the number after `part` if the letter of `part` is `r`,
-- otherwise `old`. Then `new` is the number that `letters` followed by `part` choose.
last_more : (letters : List Part) (part : Part) (old new : ℕ) → IsLastNumber letters old
    → ((part.0 ≡ 114) × AreRepetitions part.1 new) ⊎ (((part.0 == 114) ≡ false) × (new ≡ old)) → IsLastNumber (letters ++ part ∷ []) new
last_more letters part old new last one = grind (arith, common_steps, append_assoc, has_more, or_from)

-- if the letters of `prefix` choose `old`, and one letter more, which has a meaning with its digits, makes `new` of that, then all of these letters choose
-- `new`
more_chosen : (bulk : Bool) (prefix : List ℕ) (letter : ℕ) (digits : List ℕ) (old new : Choices) → HaveChosen bulk prefix old
    → is_ascii_digit letter ≡ false → list_all is_ascii_digit digits ≡ true → IsKnown bulk (letter, digits) → OneMore (letter, digits) old new
    → HaveChosen bulk (prefix ++ letter ∷ digits) new
more_chosen bulk prefix letter digits old new h none all known one = record {
  letters = h.letters ++ (letter, digits) ∷ [];
  order = joined prefix (letter ∷ digits) h.letters ((letter, digits) ∷ []) h.order
      ([], ap (λ (t : List ℕ). letter ∷ t) (sym (append-nil digits)), none, all, refl);
  known = both (IsKnown bulk) h.letters ((letter, digits) ∷ []) h.known (known, tt);
  includes_root = one.includes_root ∙ ap (λ (b : Bool). (letter == 105) || b) h.includes_root ∙ sym (has_more 105 h.letters (letter, digits));
  counts = one.counts ∙ ap (λ (b : Bool). (letter == 112) || b) h.counts ∙ sym (has_more 112 h.letters (letter, digits));
  leaves_last_get = one.leaves_last_get ∙ ap (λ (b : Bool). (letter == 73) || b) h.leaves_last_get ∙ sym (has_more 73 h.letters (letter, digits));
  repetitions = last_more h.letters (letter, digits) old.repetitions new.repetitions h.repetitions one.repetitions;
}

-- ---- digits aren't letters

plain_is_no_digit : (bulk : Bool) (letter : ℕ) → IsPlain bulk letter → is_ascii_digit letter ≡ false
plain_is_no_digit bulk letter plain = grind (arith, common_steps)

known_is_no_digit : (bulk : Bool) (letter : ℕ) (digits : List ℕ) → IsKnown bulk (letter, digits) → is_ascii_digit letter ≡ false
known_is_no_digit bulk letter digits known = grind (arith, common_steps)

digit_tells : (bulk : Bool) (letter : ℕ) (digits : List ℕ) (octet : ℕ) → is_ascii_digit letter ≡ true → IsUnknown bulk (letter, digits) octet → octet ≡ letter
digit_tells bulk letter digits octet digit unknown = grind (arith, common_steps, plain_is_no_digit)

-- ---- a text, letter by letter

-- the letters of `text` before offset `at` choose `choices`; a digit can follow only at offset 0
pub record AreReadTo (bulk : Bool) (text : List ℕ) (at : ℕ) (choices : Choices) : Type 0 where
  pub chosen : HaveChosen bulk (take at text) choices
  pub next : (at ≡ 0) ⊎ NoDigitFirst (drop at text)

-- before offset 0, the choices are the defaults
pub none_read : (bulk : Bool) (text : List ℕ) → AreReadTo bulk text 0 no_choices
none_read bulk text = grind (arith, common_steps)

-- `text` is read up to the offset `at`; the octet at `at` is the next one, and the `n` octets after it are all the digits that follow it
module _ (bulk : Bool) (text : List ℕ) (at n : ℕ) (old : Choices) (rest : List ℕ) (low : at < length text)
    (is : rest ≡ take (length text - (at + 1)) (drop (at + 1) text)) (within : n ≤ length rest) (all : list_all is_ascii_digit (take n rest) ≡ true)
    (maximal : n < length rest → is_ascii_digit (slice_index_or rest n 0) ≡ false) (read : AreReadTo bulk text at old) where
  abbrev Letter : ℕ
  Letter = slice_index_or text at 0

  abbrev Prefix : List ℕ
  Prefix = take at text ++ Letter ∷ take n rest

  parts : text ≡ Prefix ++ drop n rest
  parts = grind (arith, common_steps, take_rest, take-append-drop, at_index, append_assoc)

  size : length Prefix ≡ at + (1 + n)
  size = grind (arith, common_steps, length-take-le, length-append)

  none_after : NoDigitFirst (drop n rest)
  none_after = no_digit_at rest n maximal

  -- the octet at `at` is a digit only if `at` is 0, since digits after a letter are read to their end
  no_digit_or_first : (is_ascii_digit Letter ≡ false) ⊎ ((at ≡ 0) × (is_ascii_digit Letter ≡ true))
  no_digit_or_first = grind (arith, common_steps, at_index)

  -- if the letter has a meaning with its digits, then `text` is read up to the offset after these digits
  pub goes_on : (new : Choices) → IsKnown bulk (Letter, take n rest) → OneMore (Letter, take n rest) old new → AreReadTo bulk text (at + (1 + n)) new
  goes_on new known more = grind (arith, common_steps, parts, take_at, size, more_chosen, known_is_no_digit, drop_at, none_after)

  pub ends : (octet : ℕ) → IsUnknown bulk (Letter, take n rest) octet → IsFirstUnknown bulk text octet
  ends octet unknown = by no_digit_or_first unknown
    where
      whole : text ≡ take at text ++ Letter ∷ (take n rest ++ drop n rest)
      whole = parts ∙ append_assoc (take at text) (Letter ∷ take n rest) (drop n rest)

      by : (is_ascii_digit Letter ≡ false) ⊎ ((at ≡ 0) × (is_ascii_digit Letter ≡ true)) → IsUnknown bulk (Letter, take n rest) octet
          → IsFirstUnknown bulk text octet
      by (inl none) fails =
          let more = has_letters (drop n rest) none_after in
          let are = joined (take at text) (Letter ∷ (take n rest ++ drop n rest)) read.chosen.letters ((Letter, take n rest) ∷ more.0) read.chosen.order
          (drop n rest, refl, none, all, more.1) in
          inr (
            read.chosen.letters ++ (Letter, take n rest) ∷ more.0,
            subst (λ (t : List ℕ). AreLettersIn t (read.chosen.letters ++ (Letter, take n rest) ∷ more.0)) (sym whole) are,
            record { done = read.chosen.letters; failed = (Letter, take n rest); left = more.0; order = refl; are_done = read.chosen.known; fails = fails },
          )
      by (inr (zero_at, digit)) fails = grind (arith, common_steps, digit_tells)

-- ---- what is chosen is unique

-- the number of repetitions after these letters, if it was `n` before them
abbrev number_in : (n : ℕ) → List Part → ℕ
number_in n [] = n
number_in n (part ∷ more) = number_in (if part.0 == 114 then digits_value 10 part.1 else n) more

none_last : (n : ℕ) (letters : List Part) → has 114 letters ≡ false → number_in n letters ≡ n
none_last n [] e = refl
none_last n (part ∷ more) e = let both = or_parts (part.0 == 114) (has 114 more) e in rw both.0 (none_last n more both.1)

is_last : (before : List Part) (n : ℕ) (digits : List ℕ) (after : List Part) → has 114 after ≡ false
    → number_in n (before ++ (114, digits) ∷ after) ≡ digits_value 10 digits
is_last [] n digits after e = none_last (digits_value 10 digits) after e
is_last (part ∷ before) n digits after e = is_last before (if part.0 == 114 then digits_value 10 part.1 else n) digits after e

number_is : (letters : List Part) (n : ℕ) → IsLastNumber letters n → n ≡ number_in 10 letters
number_is letters n last = grind (arith, common_steps, none_last, is_last)

pub one_choice : (bulk : Bool) (text : List ℕ) (a b : Choices) → HaveChosen bulk text a → HaveChosen bulk text b → a ≡ b
one_choice bulk text a b h k =
    let same : h.letters ≡ k.letters = one_list text h.letters k.letters h.order k.order in
    let one = number_is h.letters a.repetitions h.repetitions in
    let other = number_is k.letters b.repetitions k.repetitions in
    grind (arith, common_steps)

known_or_not : (bulk : Bool) (part : Part) (octet : ℕ) → IsKnown bulk part → IsUnknown bulk part octet → ⊥
known_or_not bulk (letter, digits) octet known unknown = grind (arith, common_steps)

digit_first : (letters : List Part) (octet : ℕ) (rest : List ℕ) → AreLettersIn (octet ∷ rest) letters → is_ascii_digit octet ≡ true → ⊥
digit_first [] octet rest e is = let no : ⊥ = cc in no
digit_first ((letter, digits) ∷ more) octet rest (left, e, none, all, are) is = grind (arith, common_steps)

pub no_choice : (bulk : Bool) (text : List ℕ) (a : Choices) (octet : ℕ) → HaveChosen bulk text a → IsFirstUnknown bulk text octet → ⊥
no_choice bulk text a octet h (inl (rest, e, is)) = digit_first h.letters octet rest (subst (λ (t : List ℕ). AreLettersIn t h.letters) e h.order) is
no_choice bulk text a octet h (inr (letters, order, fails)) =
    let same : h.letters ≡ fails.done ++ fails.failed ∷ fails.left = one_list text h.letters letters h.order order ∙ fails.order in
    known_or_not bulk fails.failed octet (among (IsKnown bulk) fails.done fails.failed fails.left (subst (AreDone (IsKnown bulk)) same h.known)) fails.fails

-- For the loop of `Letters::parse`: `letters_at` adds one letter to what the letters before it say; `other_at` is for the first octet that isn't a
-- letter of `-O`.
use Rattle.std.proofs.Common.{arith, ◌≡◌, ℕ, ◌+◌, ◌<◌, Bool, true, false, not, List, [], ◌∷◌, ◌++◌, Option, Some, None, refl, sym, ◌∙◌, ap, take}
use Rattle.std.proofs.Common.{drop, length, get_or, if◌then◌else◌, suc, drop-cons, take-append-drop, ◌||◌}
use Rattle.std.proofs.{lemmas.Grind.common_steps, lemmas.List.reverse-append, lemmas.List.take_more, lemmas.List.Folds.find-append}
use Rattle.std.specs.{Bool.◌==◌, List.find}
use Rattle.smi_value.specs.Letters.{AreLetters, IsWith, is_one_of, last_of, has_letter, first_other, all_letters}
use Rattle.smi_value.specs.declared.letters.Letters.{Letters}

choice_of : {X : Type 0} (f : Option ℕ → X) (b : Bool) (x y : Option ℕ) → f (if b then x else y) ≡ (if b then f x else f y)
choice_of f true x y = refl
choice_of f false x y = refl

last_more : (letters text : List ℕ) (octet : ℕ) → last_of letters (text ++ octet ∷ []) ≡ (if is_one_of letters octet then Some octet else last_of letters text)
last_more letters text octet = ap (find (is_one_of letters)) (reverse-append text (octet ∷ []))

either_way : (x o y : Bool) → (x || (if o then true else y)) ≡ (if o then true else (x || y))
either_way true true y = refl
either_way true false y = refl
either_way false o y = refl

has_more : (letter : ℕ) (text : List ℕ) (octet : ℕ) → has_letter letter (text ++ octet ∷ []) ≡ (if octet == letter then true else has_letter letter text)
has_more letter [] octet = grind (arith, common_steps)
has_more letter (x ∷ text) octet = grind (arith, common_steps, has_more letter text octet, either_way)

-- if `old` is what the letters in `text` say, and `new` is `old` with `octet` as one more letter, then `new` is what `text` followed by `octet` says
pub letters_more : (text : List ℕ) (octet : ℕ) (old new : Letters) → AreLetters text old → IsWith old octet new → AreLetters (text ++ octet ∷ []) new
letters_more text octet old new h k = grind (arith, common_steps, choice_of, last_more, has_more)

pub letters_at : (text : List ℕ) (i : ℕ) (old new : Letters) → i < length text → AreLetters (take i text) old → IsWith old (get_or text i 0) new
    → AreLetters (take (i + 1) text) new
letters_at text i old new low h k = rw (take_more text i 0 low) (letters_more (take i text) (get_or text i 0) old new h k)

find_here : (p : ℕ → Bool) (octet : ℕ) (more : List ℕ) → p octet ≡ true → find p (octet ∷ more) ≡ Some octet
find_here p octet more e = rw e refl

find_nowhere : (p : ℕ → Bool) (octet : ℕ) → p octet ≡ false → find p (octet ∷ []) ≡ None
find_nowhere p octet e = rw e refl

find_after : (p : ℕ → Bool) (prefix back : List ℕ) → find p prefix ≡ None → find p (prefix ++ back) ≡ find p back
find_after p prefix back none = find-append p prefix back ∙ (rw none refl)

abbrev is_other : ℕ → Bool
is_other octet = not (is_one_of all_letters octet)

pub no_other_more : (text : List ℕ) (i : ℕ) → i < length text → first_other (take i text) ≡ None → is_one_of all_letters (get_or text i 0) ≡ true
    → first_other (take (i + 1) text) ≡ None
no_other_more text i low none letter = grind (arith, common_steps, take_more, find_after, find_nowhere)

pub other_at : (text : List ℕ) (i : ℕ) → i < length text → first_other (take i text) ≡ None → is_one_of all_letters (get_or text i 0) ≡ false
    → first_other text ≡ Some (get_or text i 0)
other_at text i low none other =
    let whole : text ≡ take i text ++ (get_or text i 0 ∷ drop (suc i) text) = sym (take-append-drop i text)
    ∙ ap (λ (back : List ℕ). take i text ++ back) (drop-cons text i 0 low) in
    ap first_other whole ∙ find_after is_other (take i text) (get_or text i 0 ∷ drop (suc i) text) none
    ∙ find_here is_other (get_or text i 0) (drop (suc i) text) (ap not other)

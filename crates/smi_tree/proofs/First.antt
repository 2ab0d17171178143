-- `position_from` finds the first item of a list that passes a test (`first`, `is_first`), also if items are appended (`append-from`, `more`).
use Rattle.std.proofs.{lemmas.Grind.common_steps, lemmas.Bool.cases_lt, lemmas.Option.slice_get_within, Math.Bool.and-false}
use Rattle.std.proofs.Common.{◌≡◌, ℕ, zero, suc, ◌+◌, ◌<◌, Bool, true, false, cond, ◌&&◌, List, [], ◌∷◌, ◌++◌, length, take, drop, get_or}
use Rattle.std.proofs.Common.{Option, Some, None, MatchOption, refl, ◌∙◌, arith}
use Rattle.std.proofs.lemmas.List.{take_more, take-append-drop, length-take-le}
use Rattle.std.specs.{List.slice_get, List.position_from, Option.option_map}
use Rattle.smi_names.specs.meaning.Meaning.{or_else}

-- none of the first `n` items passes
abbrev pub NonePasses : {A : Type 0} → (A → Bool) → List A → ℕ → Type 0
NonePasses {A = A} t xs n = (i : ℕ) (x : A) → i < n → slice_get xs i ≡ Some x → t x ≡ false

-- the item at index `k` passes, and none before it does
pub record IsFirst {A : Type 0} (t : A → Bool) (xs : List A) (k : ℕ) : Type 0 where
  pub x : A
  pub at : slice_get xs k ≡ Some x
  pub passes : t x ≡ true
  pub before : NonePasses t xs k

-- if an option isn't `Some`, it is `None`
pub none_if : {A : Type 0} (r : Option A) → ((x : A) → r ≡ Some x → ⊥) → r ≡ None
none_if None h = refl
none_if (Some x) h = absurd (h x refl)

pub or_else_none : {A : Type 0} (r : Option A) → or_else r None ≡ r
or_else_none None = refl
or_else_none (Some x) = refl

module _ {A : Type 0} (t : A → Bool) where
  shift : (xs : List A) (b : ℕ) → position_from t (b + 1) xs ≡ option_map suc (position_from t b xs)
  shift [] b = refl
  shift (x ∷ xs) b = grind (arith, common_steps, shift xs)

  none-more : (x : A) (xs : List A) (n : ℕ) → t x ≡ false → NonePasses t xs n → NonePasses t (x ∷ xs) (suc n)
  none-more x xs n f none zero y l e = grind (arith, common_steps)
  none-more x xs n f none (suc i) y l e = none i y (omega arith) e

  pub first : (xs : List A) → MatchOption (position_from t 0 xs) (NonePasses t xs (length xs)) (IsFirst t xs)
  first [] = grind (arith, common_steps)
  first (x ∷ xs) = grind (arith, common_steps, first xs, shift xs 0, none-more)

  pub is_first : (xs : List A) (k : ℕ) → IsFirst t xs k → position_from t 0 xs ≡ Some k
  is_first xs k f = grind (arith, common_steps, first xs, slice_get_within, cases_lt)

  pub none_first : (xs : List A) → NonePasses t xs (length xs) → position_from t 0 xs ≡ None
  none_first xs none = grind (arith, common_steps, first xs, none, slice_get_within)

  -- if an item passes, there is a first one that passes
  pub passing : (xs : List A) (i : ℕ) (x : A) → slice_get xs i ≡ Some x → t x ≡ true → (k : ℕ) × (position_from t 0 xs ≡ Some k) × IsFirst t xs k
  passing xs i x at passes = grind (arith, common_steps, first xs, slice_get_within)

  pub append-from : (b : ℕ) (xs ys : List A) → position_from t b (xs ++ ys) ≡ or_else (position_from t b xs) (position_from t (b + length xs) ys)
  append-from b [] ys = let all : b + 0 ≡ b = omega arith in rw all refl
  append-from b (x ∷ xs) ys = grind (arith, common_steps, append-from (b + 1) xs ys)

  -- the first of `i + 1` items that passes is the first of `i` items, or, if none of these passes, the last item if it does
  pub more : (xs : List A) (i : ℕ) (d : A) → i < length xs
      → position_from t 0 (take (i + 1) xs) ≡ or_else (position_from t 0 (take i xs)) (cond (t (get_or xs i d)) (Some i) None)
  more xs i d l = grind (arith, common_steps, length-take-le, take_more, append-from)

  -- if an item is the first that passes in a prefix of a list, it is the first in the list
  pub of_prefix : (xs : List A) (n k : ℕ) → position_from t 0 (take n xs) ≡ Some k → position_from t 0 xs ≡ Some k
  of_prefix xs n k e = rw take-append-drop at (append-from 0 (take n xs) (drop n xs)) ∙ rw e refl

-- if no item passes `t`, then none passes both `g` and `t`; if the first item that passes `t` also passes `g`, it is the first that passes both
module _ {A : Type 0} (g t : A → Bool) (xs : List A) where
  pub both_none : position_from t 0 xs ≡ None → position_from (λ y. g y && t y) 0 xs ≡ None
  both_none e = grind (arith, common_steps, first t xs, none_first, and-false)

  pub both_first : (k : ℕ) (x : A) → position_from t 0 xs ≡ Some k → slice_get xs k ≡ Some x → g x ≡ true → position_from (λ y. g y && t y) 0 xs ≡ Some k
  both_first k x e there passes = grind (arith, common_steps, first t xs, is_first (λ y. g y && t y) xs k, and-false)

-- The items of a list with one more at the end (`get_push`); lists with the same items at each index are equal (`same_items`).
use Rattle.std.proofs.Common.{◌≡◌, ℕ, zero, suc, ◌<◌, List, [], ◌∷◌, ◌++◌, length, Some, refl, arith, ◌⊎◌, inl, inr}
use Rattle.std.specs.List.{slice_get}
use Rattle.std.proofs.{lemmas.Grind.common_steps, lemmas.Option.slice_get_cases}

pub get_within : {A : Type 0} (xs : List A) (j : ℕ) → j < length xs → (x : A) × (slice_get xs j ≡ Some x)
get_within xs j l = elim ((slice_get_cases xs j).1) [ inl r ↦ (r.0, r.2) | inr p ↦ absurd (omega (arith, p.0)) ]

pub get_push : {A : Type 0} (xs : List A) (y : A) (j : ℕ) (x : A) → slice_get (xs ++ y ∷ []) j ≡ Some x
    → ((j < length xs) × (slice_get xs j ≡ Some x)) ⊎ ((j ≡ length xs) × (y ≡ x))
get_push [] y j x e = grind (arith, common_steps)
get_push (z ∷ xs) y j x e = grind (arith, common_steps, get_push xs y)

pub get_before_push : {A : Type 0} (xs : List A) (y : A) (j : ℕ) (x : A) → slice_get xs j ≡ Some x → slice_get (xs ++ y ∷ []) j ≡ Some x
get_before_push [] y j x e = cc
get_before_push (z ∷ xs) y zero x e = e
get_before_push (z ∷ xs) y (suc j) x e = get_before_push xs y j x e

pub get_at_push : {A : Type 0} (xs : List A) (y : A) → slice_get (xs ++ y ∷ []) (length xs) ≡ Some y
get_at_push [] y = refl
get_at_push (z ∷ xs) y = get_at_push xs y

pub same_items : {A : Type 0} (xs ys : List A) → length xs ≡ length ys
    → ((j : ℕ) (x y : A) → slice_get xs j ≡ Some x → slice_get ys j ≡ Some y → x ≡ y) → xs ≡ ys
same_items [] [] l h = refl
same_items (x ∷ xs) (y ∷ ys) l h =
    let head : x ≡ y = h 0 x y refl refl in
    let tail = same_items xs ys (omega arith) (λ j a b e f. h (suc j) a b e f) in
    rw (head, tail) refl
same_items _ _ l h = absurd (omega arith)

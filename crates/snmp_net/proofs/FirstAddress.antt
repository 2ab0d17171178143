-- The first `n` items of a list, one at a time, for a loop that looks for the first item that passes a test.
use Rattle.std.proofs.Common.{◌≡◌, ℕ, zero, suc, ◌+◌, ◌<◌, Bool, false, cond, List, [], ◌∷◌, length, take, find, Some, refl, ◌∙◌, ap, arith}

pub first_taken : {A : Type 0} (n m : ℕ) (s t : List A) (x : A) → s ≡ x ∷ t → m + 1 ≡ n → take n s ≡ x ∷ take m t
first_taken n m s t x e k = let one_more : n ≡ suc m = omega (arith, k) in ap (λ j. take j s) one_more ∙ ap (take (suc m)) e

pub none_taken : {A : Type 0} (n : ℕ) (s : List A) → (0 < n → length s ≡ 0) → take n s ≡ []
none_taken zero [] h = refl
none_taken zero (x ∷ s) h = refl
none_taken (suc n) [] h = refl
none_taken (suc n) (x ∷ s) h = let short : length (x ∷ s) ≡ 0 = h (omega arith) in absurd (omega (arith, short))

pub found_later : {A : Type 0} (test : A → Bool) (x : A) (xs : List A) → test x ≡ false → find test (x ∷ xs) ≡ find test xs
found_later test x xs e = ap (λ (t : Bool). cond t (Some x) (find test xs)) e

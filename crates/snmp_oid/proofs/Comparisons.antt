-- Comparisons of lists of numbers: a common prefix changes nothing, and the first pair that differs decides.
use Rattle.std.proofs.{lemmas.Grind.common_steps, lemmas.List.take-append-drop, lemmas.List.take_more, Math.Seq.drop-cons}
use Rattle.std.proofs.Common.{◌≡◌, ℕ, suc, ◌+◌, ◌<◌, ◌≤◌, List, [], ◌∷◌, ◌++◌, length, take, drop, get_or, refl, sym, ◌∙◌, ap, arith, length-drop}
use Rattle.std.specs.Ordering.{nat_cmp, ordering_then}
use Rattle.std.specs.{Cmp.ranked, Cmp.nat_cmp_is, Cmp.Lexicographic.slice_cmp, declared.cmp.Ordering.Ordering}
use Rattle.std.specs.declared.cmp.Ordering.TheVariants.{Less, Equal, Greater}

-- `o` and `p` compare as `prefix ++ o` and `prefix ++ p` do
prefix_alike : (prefix o p : List ℕ) → slice_cmp nat_cmp o p ≡ slice_cmp nat_cmp (prefix ++ o) (prefix ++ p)
prefix_alike [] o p = refl
prefix_alike (n ∷ prefix) o p = rw (← nat_cmp_is n n Equal refl) (prefix_alike prefix o p)

after_alike : (i : ℕ) (o p : List ℕ) → take i o ≡ take i p → slice_cmp nat_cmp (drop i o) (drop i p) ≡ slice_cmp nat_cmp o p
after_alike i o p same =
    let whole : take i o ++ drop i p ≡ p = ap (λ (s : List ℕ). s ++ drop i p) same ∙ take-append-drop i p in
    prefix_alike (take i o) (drop i o) (drop i p)
    ∙ ap (λ (s : List ℕ). slice_cmp nat_cmp s (take i o ++ drop i p)) (take-append-drop i o) ∙ ap (slice_cmp nat_cmp o) whole

decides_by : (n m : ℕ) (rest r : Ordering) → r ≡ nat_cmp n m → (n ≡ m → ⊥) → r ≡ ordering_then r rest
decides_by n m rest Less is differ = refl
decides_by n m rest Equal is differ = absurd (differ (ranked n m Equal is))
decides_by n m rest Greater is differ = refl

-- if o and p agree before index i and differ at i, then o and p compare as their numbers at i do
pub first_decides : (i : ℕ) (o p : List ℕ) → i < length o → i < length p → take i o ≡ take i p → (get_or o i 0 ≡ get_or p i 0 → ⊥)
    → nat_cmp (get_or o i 0) (get_or p i 0) ≡ slice_cmp nat_cmp o p
first_decides i o p h k same differ =
    let n = get_or o i 0 in
    let m = get_or p i 0 in
    let here : nat_cmp n m ≡ slice_cmp nat_cmp (drop i o) (drop i p) =
    rw (drop-cons o i 0 h, drop-cons p i 0 k) (decides_by n m (slice_cmp nat_cmp (drop (suc i) o) (drop (suc i) p)) (nat_cmp n m) refl differ) in
    here ∙ after_alike i o p same

-- if o and p agree before index i and at i, then they agree before i + 1
pub one_more_alike : (i : ℕ) (o p : List ℕ) → i < length o → i < length p → take i o ≡ take i p → get_or o i 0 ≡ get_or p i 0
    → take (i + 1) o ≡ take (i + 1) p
one_more_alike i o p h k same equal = grind (arith, common_steps, take_more)

-- if `s` or `t` is empty, then `s` and `t` compare as `n` and `m` do: the length of `s` plus `both`, and the length of `t` plus `both`
ends : (n m both : ℕ) (s t : List ℕ) → length s + both ≡ n → length t + both ≡ m → (both < n → both < m → ⊥) → nat_cmp n m ≡ slice_cmp nat_cmp s t
ends n m both [] [] e d h = sym (nat_cmp_is n m Equal (omega arith))
ends n m both [] (y ∷ t) e d h = sym (nat_cmp_is n m Less (omega arith))
ends n m both (x ∷ s) [] e d h = sym (nat_cmp_is n m Greater (omega arith))
ends n m both (x ∷ s) (y ∷ t) e d h = absurd (h (omega arith) (omega arith))

-- if o and p agree before index `both`, and one of them has exactly `both` numbers, then they compare as their lengths do
pub longer_after : (both : ℕ) (o p : List ℕ) → both ≤ length o → both ≤ length p → (both < length o → both < length p → ⊥) → take both o ≡ take both p
    → nat_cmp (length o) (length p) ≡ slice_cmp nat_cmp o p
longer_after both o p h k end same =
    ends (length o) (length p) both (drop both o) (drop both p) (omega (arith, length-drop both o)) (omega (arith, length-drop both p)) end
    ∙ after_alike both o p same

-- if o and p have the same number at each index below 8, then their first eight numbers are the same
pub eight_alike : (o p : List ℕ) → 8 ≤ length o → 8 ≤ length p
    → (get_or o 0 0 ≡ get_or p 0 0) × (get_or o 1 0 ≡ get_or p 1 0) × (get_or o 2 0 ≡ get_or p 2 0) × (get_or o 3 0 ≡ get_or p 3 0)
    → (get_or o 4 0 ≡ get_or p 4 0) × (get_or o 5 0 ≡ get_or p 5 0) × (get_or o 6 0 ≡ get_or p 6 0) × (get_or o 7 0 ≡ get_or p 7 0)
    → take 8 o ≡ take 8 p
eight_alike o p h k prefix back = grind (arith, common_steps, one_more_alike)

-- General laws of lists, about prefixes (`same_prefix`, `inside`), elements at an index (`around`), and last elements (`last_in_prefix`).
use Rattle.std.proofs.lemmas.Grind.{common_steps}
use Rattle.std.proofs.Common.{◌≡◌, ℕ, zero, suc, ◌-◌, ◌≤◌, ◌<◌, List, [], ◌∷◌, ◌++◌, length, take, drop, get_or, map, Some, arith, refl, sym, ap}
use Rattle.std.proofs.Common.{subst, ◌∙◌, ◌+◌}
use Rattle.std.specs.List.{AllByRecursion, Contains, slice_get}
use Rattle.std.proofs.lemmas.List.{drop_all, drop_more, get_or_at, length-map, length-take-le, take_at}

module _ {X : Type 0} (P : X → Type 0) where
  pub all_both : (xs ys : List X) → AllByRecursion P xs → AllByRecursion P ys → AllByRecursion P (xs ++ ys)
  all_both [] ys h k = k
  all_both (x ∷ xs) ys h k = (h.0, all_both xs ys h.1 k)

  pub all_prefix : (xs ys : List X) → AllByRecursion P (xs ++ ys) → AllByRecursion P xs
  all_prefix [] ys h = tt
  all_prefix (x ∷ xs) ys h = (h.0, all_prefix xs ys h.1)

  pub all_back : (xs ys : List X) → AllByRecursion P (xs ++ ys) → AllByRecursion P ys
  all_back [] ys h = h
  all_back (x ∷ xs) ys h = all_back xs ys h.1

  -- what holds of all elements holds of each
  pub of_each : (xs : List X) (x : X) → AllByRecursion P xs → Contains xs x → P x
  of_each [] x h at = absurd (omega (arith, at.1))
  of_each (y ∷ xs) x h (zero, low, at) = subst P at h.0
  of_each (y ∷ xs) x h (suc k, low, at) = of_each xs x h.1 (k, omega (arith, low), at)

module _ {X : Type 0} where
  -- two prefixes of a list that have the same length are the same
  pub same_prefix : (xs ys more rest : List X) → xs ++ more ≡ ys ++ rest → length xs ≡ length ys → xs ≡ ys
  same_prefix xs ys more rest e long =
      sym (take_at xs more (length xs) refl) ∙ ap (take (length xs)) e ∙ take_at ys rest (length xs) (sym long)

  -- of two prefixes of a list, the longer one contains the element that follows the shorter one
  pub inside : (prefix : List X) (x : X) (back other rest : List X) → prefix ++ x ∷ back ≡ other ++ rest → length prefix < length other
      → (more : List X) × (other ≡ prefix ++ x ∷ more)
  inside prefix x back [] rest e low = absurd (omega (arith, low))
  inside [] x back (y ∷ other) rest e low = (other, cc)
  inside (z ∷ prefix) x back (y ∷ other) rest e low =
      let later = inside prefix x back other rest (cc) (omega (arith, low)) in (later.0, cc (later.1))

  -- a list is the elements before index `index`, the one at it, and those after it
  pub around : (xs : List X) (index : ℕ) (x : X) → slice_get xs index ≡ Some x → xs ≡ take index xs ++ x ∷ drop (suc index) xs
  around [] index x at = cc
  around (first ∷ xs) zero x at = let same : first ≡ x = cc in ap (λ y. y ∷ xs) same
  around (first ∷ xs) (suc index) x at = ap (λ ys. first ∷ ys) (around xs index x at)

  -- an element of a prefix is at the same index of the list
  pub in_prefix : (xs : List X) (index k : ℕ) (x : X) → slice_get (take index xs) k ≡ Some x → slice_get xs k ≡ Some x
  in_prefix [] zero k x at = at
  in_prefix [] (suc index) k x at = at
  in_prefix (first ∷ xs) zero k x at = cc
  in_prefix (first ∷ xs) (suc index) zero x at = at
  in_prefix (first ∷ xs) (suc index) (suc k) x at = in_prefix xs index k x at

  -- `x` is the last element of the list
  abbrev pub IsLast : List X → X → Type 0
  IsLast xs x = slice_get xs (length xs - 1) ≡ Some x

  pub last_of : (xs : List X) (x : X) → 0 < length xs → IsLast xs x → xs ≡ take (length xs - 1) xs ++ x ∷ []
  last_of xs x some at =
      around xs (length xs - 1) x at ∙ ap (λ rest. take (length xs - 1) xs ++ x ∷ rest) (drop_all (suc (length xs - 1)) xs (omega (arith, some)))

  -- the last element of a prefix of `n` elements is at index `n - 1`
  pub last_in_prefix : (xs : List X) (n : ℕ) (x : X) → n ≤ length xs → IsLast (take n xs) x → slice_get xs (n - 1) ≡ Some x
  last_in_prefix xs n x within last = grind (arith, common_steps, in_prefix, length-take-le)

  pub nothing_left : (xs : List X) → length xs ≡ 0 → xs ≡ []
  nothing_left xs h = grind (arith, common_steps)

  -- if `ys` is `xs` with only the elements before index `i` changed, then the element `x` of `ys` at index `i` is also the element of `xs` at `i`
  pub still_there : (f : X → X) (xs ys : List X) (i : ℕ) (x : X) → i < length xs → ys ≡ map f (take i xs) ++ drop i xs → x ≡ get_or ys i x
      → drop i xs ≡ x ∷ drop (i + 1) xs
  still_there f xs ys i x low changed at = grind (arith, common_steps, drop_more, length-map, length-take-le, get_or_at)

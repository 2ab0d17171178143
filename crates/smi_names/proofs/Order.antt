-- A list is filled in along an order of indices: before an index is filled in, the index that it refers to has been.
use Rattle.std.proofs.{lemmas.Grind.common_steps, lemmas.List.Elements.Contains-push_cases, lemmas.Bool.cases_lt, lemmas.Bool.cases_eq}
use Rattle.std.proofs.Common.{◌≡◌, ℕ, ◌+◌, ◌<◌, ◌≤◌, ◌⊎◌, inl, inr, List, [], ◌∷◌, ◌++◌, length, set, get_or, take, replicate, Option, Some, Contains}
use Rattle.std.proofs.Common.{arith}
use Rattle.std.proofs.lemmas.List.{get_or-set_same, get_or-set_other, get_or_past, take_more, length-replicate, get_or-replicate}
use Rattle.smi_names.specs.{chains.Chain.HasEnd, chains.Order.next_at, chains.Order.ComeAfterNext}

-- ---- any list that is filled in along an order, has `start` at the indices not filled, and is read as `past` past its end
module _ {X : Type 0} (Right : ℕ → X → Type 0) (start past : X) where
  -- each element is right, or is `start` and its index isn't in the prefix `prefix` of the order
  abbrev pub Fills : List ℕ → List X → Type 0
  Fills prefix xs = (p : ℕ) → Right p (get_or xs p past) ⊎ ((get_or xs p past ≡ start) × (Contains prefix p → ⊥))

  Fills-more : (prefix : List ℕ) (xs : List X) (p : ℕ) (x : X) → Fills prefix xs → p < length xs → Right p x → Fills (prefix ++ p ∷ []) (set xs p x)
  Fills-more prefix xs p x fills inside right = grind (arith, common_steps, cases_eq, get_or-set_same, get_or-set_other, Contains-push_cases)

  module _ (n : ℕ) (beyond : (p : ℕ) → n ≤ p → Right p past) where
    pub Fills-start : Fills [] (replicate n start)
    Fills-start = grind (arith, common_steps, get_or-replicate, get_or_past, length-replicate)

    module _ (next : List (Option ℕ)) (order : List ℕ) (xs : List X) (indices : length next ≡ n) (long : length xs ≡ n) where
      pub Fills-step : (i : ℕ) (x : X) → Fills (take i order) xs → i < length order → get_or order i 0 < n → ComeAfterNext next order
          → (((q : ℕ) → next_at next (get_or order i 0) ≡ Some q → Right q (get_or xs q past)) → Right (get_or order i 0) x)
          → Fills (take (i + 1) order) (set xs (get_or order i 0) x)
      Fills-step i x fills l inside after_next right =
          rw (take_more order i 0 l) (Fills-more (take i order) xs (get_or order i 0) x fills (omega arith) (right (λ q e. elim (cases_lt q n) [
            | inl there ↦ elim (fills q) [ inl old ↦ old | inr out ↦ absurd (out.1 (after_next i q l e (omega arith))) ]
            | inr out ↦ rw (get_or_past xs q past (omega arith)) (beyond q out)
          ])))

      pub filled : Fills order xs → ((p : ℕ) → p < length next → HasEnd (next_at next) p → Contains order p)
          → (p : ℕ) → Right p (get_or xs p past) ⊎ ((HasEnd (next_at next) p → ⊥) × (get_or xs p past ≡ start))
      filled fills complete p = grind (arith, cases_lt, get_or_past)

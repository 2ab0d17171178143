-- `walk` follows numbers from branch to branch: what it reaches with one more number (`walk_push`), and after a branch was added (`walk_kept`, `walk_back`).
use Rattle.std.proofs.{lemmas.Grind.common_steps}
use Rattle.std.proofs.Common.{◌≡◌, ℕ, ◌<◌, ◌⊎◌, inl, inr, List, [], ◌∷◌, ◌++◌, Option, Some, None, refl, ap, arith}
use Rattle.std.specs.Option.{option_and_then}
use Rattle.smi_tree.specs.branches.Branches.{walk}

module _ (f : ℕ → ℕ → Option ℕ) where
  pub walk-append : (xs ys : List ℕ) (at : ℕ) → walk f at (xs ++ ys) ≡ option_and_then (λ b. walk f b ys) (walk f at xs)
  walk-append [] ys at = refl
  walk-append (x ∷ xs) ys at = grind (arith, common_steps, walk-append xs ys)

  -- a walk along one more number continues from the branch that the walk reached, if it reached one
  pub walk_push : (at : ℕ) (xs : List ℕ) (n : ℕ) → walk f at (xs ++ n ∷ []) ≡ option_and_then (λ b. f b n) (walk f at xs)
  walk_push at xs n = grind (arith, common_steps, walk-append)

  -- if a walk reaches nothing, neither does a walk that continues it
  pub walk_off : (at : ℕ) (xs ys : List ℕ) → walk f at xs ≡ None → walk f at (xs ++ ys) ≡ None
  walk_off at xs ys e = rw (walk-append xs ys at, e) refl

  -- if each step ends below `count`, so does each walk that begins below it
  module _ (count : ℕ) (within : (b m c : ℕ) → f b m ≡ Some c → c < count) where
    pub walk_within : (o : List ℕ) (at b : ℕ) → at < count → walk f at o ≡ Some b → b < count
    walk_within [] at b l e = grind (arith, common_steps)
    walk_within (n ∷ o) at b l e = grind (arith, common_steps, walk_within o, within)

-- if `g` has the steps of `f`, it has the walks of `f`
module _ (f g : ℕ → ℕ → Option ℕ) (kept : (c m d : ℕ) → f c m ≡ Some d → g c m ≡ Some d) where
  pub walk_kept : (o : List ℕ) (at b : ℕ) → walk f at o ≡ Some b → walk g at o ≡ Some b
  walk_kept [] at b e = e
  walk_kept (n ∷ o) at b e = grind (arith, common_steps, walk_kept o, kept)

-- if `g` has at most one step more than `f`, by `n` from `at` to the branch `count`, from which no step continues, then a walk of `g` is a walk of `f`, or
-- ends with that step
module _ (f g : ℕ → ℕ → Option ℕ) (at n count : ℕ) (back : (c m d : ℕ) → g c m ≡ Some d → (f c m ≡ Some d) ⊎ ((c ≡ at) × (m ≡ n) × (d ≡ count)))
    (empty : (m : ℕ) → g count m ≡ None) where
  stops : (o : List ℕ) (c : ℕ) → walk g count o ≡ Some c → (o ≡ []) × (c ≡ count)
  stops [] c e = grind (arith, common_steps)
  stops (m ∷ o) c e = grind (arith, common_steps, empty)

  abbrev pub Came : List ℕ → ℕ → ℕ → Type 0
  Came o s c = (walk f s o ≡ Some c) ⊎ ((r : List ℕ) × (o ≡ r ++ n ∷ []) × (walk f s r ≡ Some at) × (c ≡ count))

  pub walk_back : (o : List ℕ) (s c : ℕ) → walk g s o ≡ Some c → Came o s c
  walk_back [] s c e = inl e
  walk_back (m ∷ o) s c e = by (g s m) refl e (walk_back o)
    where
      by : (r : Option ℕ) → g s m ≡ r → option_and_then (λ b. walk g b o) r ≡ Some c → ((d c : ℕ) → walk g d o ≡ Some c → Came o d c) → Came (m ∷ o) s c
      by None e h ih = absurd (cc)
      by (Some d) e h ih = elim (back s m d e) [
        | inr new ↦ let end = stops o c (rw new.2 at h) in inr ([], rw (new.1, end.0) refl, ap (λ x. Some x) new.0, end.1)
        | inl old ↦ elim (ih d c h) [ inl w ↦ inl (rw old w) | inr w ↦ inr (m ∷ w.0, ap (λ t. m ∷ t) w.1, rw old w.2, w.3) ]
      ]

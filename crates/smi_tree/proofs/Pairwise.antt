-- For loops that make a list with one item for each item of another: `AreFirst` says that the first `i` are right, `first_more` adds one.
use Rattle.std.proofs.{lemmas.Grind.common_steps, lemmas.List.length_push, lemmas.Option.slice_get_within, lemmas.Option.slice_get_read}
use Rattle.std.proofs.Common.{◌≡◌, ℕ, ◌+◌, ◌<◌, List, [], ◌∷◌, ◌++◌, length, get_or, Some, refl, ◌∙◌, arith}
use Rattle.std.specs.List.{slice_get}
use Rattle.smi_tree.specs.Pairwise.{ArePairwise}
use Rattle.smi_tree.proofs.Lists.{get_within, get_push}

-- `xs` has `i` items, and each is in relation `R` with the item of `ts` at the same index, if there is one
pub record AreFirst {A X : Type 0} (R : ℕ → A → X → Type 0) (ts : List A) (i : ℕ) (xs : List X) : Type 0 where
  pub long : length xs ≡ i
  pub each : (p : ℕ) (t : A) (x : X) → slice_get ts p ≡ Some t → slice_get xs p ≡ Some x → R p t x

pub first_none : {A X : Type 0} (R : ℕ → A → X → Type 0) (ts : List A) → AreFirst R ts 0 []
first_none R ts = record { long = refl; each = λ p t x e f. absurd (cc) }

-- if an item in relation `R` with the one at index `i` is appended, there is one more such item
pub first_more : {A X : Type 0} (R : ℕ → A → X → Type 0) (ts : List A) (i : ℕ) (xs ys : List X) (t : A) (x : X) → AreFirst R ts i xs
    → ys ≡ xs ++ x ∷ [] → slice_get ts i ≡ Some t → R i t x → AreFirst R ts (i + 1) ys
first_more R ts i xs ys t x first pushed at new = grind (arith, common_steps, length_push, get_push)

-- if an item in relation `R` with the one that was read from the list at index `i` is appended, there is one more such item
pub first_next : {A X : Type 0} (R : ℕ → A → X → Type 0) (ts : List A) (i : ℕ) (xs ys : List X) (t : A) (x : X) → AreFirst R ts i xs
    → ys ≡ xs ++ x ∷ [] → i < length ts → t ≡ get_or ts i t → R i t x → AreFirst R ts (i + 1) ys
first_next R ts i xs ys t x first pushed inside is new =
    first_more R ts i xs ys t x first pushed (slice_get_read ts (length ts) i t refl inside is) new

pub first_all : {A X : Type 0} (R : ℕ → A → X → Type 0) (ts : List A) (i : ℕ) (xs : List X) → AreFirst R ts i xs → i ≡ length ts → ArePairwise R ts xs
first_all R ts i xs first end = record { long = first.long ∙ end; each = first.each }

pub pair_at : {A X : Type 0} (R : ℕ → A → X → Type 0) (ts : List A) (xs : List X) → ArePairwise R ts xs → (p : ℕ) (t : A) → slice_get ts p ≡ Some t
    → (x : X) × (slice_get xs p ≡ Some x) × R p t x
pair_at R ts xs are p t e =
    let x = get_within xs p (omega (arith, are.long, slice_get_within ts p t e)) in
    (x.0, x.1, are.each p t x.0 e x.1)

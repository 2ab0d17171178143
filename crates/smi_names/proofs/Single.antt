-- A thing has at most one resolution: its chain has no end, or ends at numbers, or ends at a thing without an identifier, and no two of these hold.
use Rattle.std.proofs.{lemmas.Grind.common_steps, Common.◌≡◌, Common.ℕ, Common.◌<◌, Common.◌≤◌, Common.List, Common.length, Common.ap, Common.arith}
use Rattle.smi_names.specs.chains.Chain.{Origin, next_of, HasEnd, ends, refers_on, HasIdentifier, by_itself, after_another, EndsNowhere, here, further}
use Rattle.smi_names.specs.{chains.Resolution.ComesTo, declared.chains.shared.Resolution.Resolution}

-- a thing has at most one identifier
pub one_meaning : {A : Type 0} (origin : A → Origin A) {a : A} {o : List ℕ} → HasIdentifier origin a o → (p : List ℕ) → HasIdentifier origin a p → o ≡ p
one_meaning origin {a} {o} (by_itself e) p (by_itself f) = cc
one_meaning origin {a} {o} (by_itself e) p (after_another f n) = absurd (cc)
one_meaning origin {a} {o} (after_another e m) p (by_itself f) = absurd (cc)
one_meaning origin {a} {o} (after_another {b = b} {ns = ns} {o = o'} e m) p (after_another {b = c} {ns = ms} {o = p'} f n) =
    grind (arith, common_steps, one_meaning origin m p')

module _ {A : Type 0} (origin : A → Origin A) where
  has_end : {a : A} {o : List ℕ} → HasIdentifier origin a o → HasEnd (λ b. next_of (origin b)) a
  has_end (by_itself e) = ends (ap next_of e)
  has_end (after_another e m) = refers_on (ap next_of e) (has_end m)

  ends_there : {a : A} → EndsNowhere origin a → HasEnd (λ b. next_of (origin b)) a
  ends_there (here e) = ends (ap next_of e)
  ends_there (further e h) = refers_on (ap next_of e) (ends_there h)

  not_both : {a : A} {o : List ℕ} → HasIdentifier origin a o → EndsNowhere origin a → ⊥
  not_both (by_itself e) (here f) = cc
  not_both (by_itself e) (further f h) = cc
  not_both (after_another e m) (here f) = cc
  not_both (after_another {b = b} e m) (further {b = c} f h) = grind (arith, common_steps, not_both m)

  not_longer : {a : A} {o p : List ℕ} → HasIdentifier origin a o → length o ≤ 128 → HasIdentifier origin a p → 128 < length p → ⊥
  not_longer {a} {o} {p} m short n long = let same = ap (λ x. length x) (one_meaning origin m p n) in omega arith

  pub one_resolution : (a : A) (r s : Resolution) → ComesTo origin a r → ComesTo origin a s → r ≡ s
  one_resolution a r s c d = grind (arith, common_steps, one_meaning, has_end, not_both, not_longer, ends_there)

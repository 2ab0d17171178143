-- If a list of resolutions grows, then each resolution in it stays at its index.
use Rattle.std.proofs.{lemmas.Grind.common_steps, lemmas.List.append-nil, lemmas.List.get_or_append_left, lemmas.List.map-set}
use Rattle.std.proofs.Common.{◌≡◌, ℕ, zero, suc, ◌<◌, ◌≤◌, nat_le, List, [], ◌∷◌, ◌++◌, length, set, replicate, refl, arith, length-append}
use Rattle.std.proofs.lemmas.List.Elements.{All-head, All-tail, All-set, All-weaker}
use Rattle.smi_names.specs.{chains.Resolution.extend_resolution_by, chains.Resolution.resolution_at, declared.chains.shared.Resolution.Resolution}
use Rattle.smi_names.specs.chains.Resolution.{resolutions_at, AreWithin, HasReasons, GrowsTo}
use Rattle.smi_names.specs.declared.chains.shared.Resolution.TheVariants as R

-- an identifier `o` of at most 128 numbers, extended by no numbers, is `o`
pub followed_by_none : (o : List ℕ) → length o ≤ 128 → extend_resolution_by (R.Numbers o) [] ≡ R.Numbers o
followed_by_none o short = grind (arith, common_steps, nat_le, append-nil)

-- if all `indices` are within `list`, then `list ++ added` has the same resolutions at them
resolutions_at-append : (list added : List Resolution) (indices : List ℕ) → AreWithin list indices
    → resolutions_at (list ++ added) indices ≡ resolutions_at list indices
resolutions_at-append list added [] within = refl
resolutions_at-append list added (k ∷ indices) within =
    rw (
      get_or_append_left list added R.Unresolved k (All-head (λ x. x < length list) k indices within),
      resolutions_at-append list added indices (All-tail (λ x. x < length list) k indices within),
    ) refl

pub resolutions_at-grown : (old new : List Resolution) (indices : List ℕ) (p at : ℕ) (r : Resolution) → AreWithin old indices → GrowsTo old new at r
    → resolutions_at new (set indices p at) ≡ set (resolutions_at old indices) p r
resolutions_at-grown old new indices p at r within g = grind (arith, common_steps, map-set, resolutions_at-append)

pub AreWithin-grown : (old new : List Resolution) (indices : List ℕ) (p at : ℕ) (r : Resolution) → AreWithin old indices → GrowsTo old new at r
    → AreWithin new (set indices p at)
AreWithin-grown old new indices p at r within g = grind (arith, common_steps, All-set, All-weaker, length-append)

pub HasReasons-grown : (old new : List Resolution) (at : ℕ) (r : Resolution) → HasReasons old → GrowsTo old new at r → HasReasons new
HasReasons-grown old new at r has g = (has.0 ++ g.added, rw (g.grown, has.1) refl)

pub resolutions_at-start : (list : List Resolution) (n : ℕ) → resolution_at list 1 ≡ R.Cycle → resolutions_at list (replicate n 1) ≡ replicate n R.Cycle
resolutions_at-start list zero e = refl
resolutions_at-start list (suc n) e = rw (e, resolutions_at-start list n e) refl

-- What names resolve to (identifiers, or reasons for having none), and lists of these resolutions.
use Rattle.std.specs.Prelude.{◌≡◌, ℕ, ◌+◌, ◌<◌, ◌≤◌, nat_le, List, [], ◌∷◌, ◌++◌, length, map, All}
use Rattle.std.specs.Prelude.{slice_index_or, if◌then◌else◌, Option, Some, None}
use Rattle.smi_names.specs.chains.Chain.{Origin, numbers, after, nowhere, next_of, HasEnd}
use Rattle.smi_names.specs.chains.Chain.{HasIdentifier, EndsNowhere}
use Rattle.smi_names.specs.declared.chains.shared.Resolution.{Resolution}
use Rattle.smi_names.specs.declared.chains.shared.Resolution.TheVariants as R

-- `ComesTo origin a r`: `a` resolves to `r`. `r` is the identifier of `a`, of at most 128 numbers
-- (RFC 2578, section 3.5), or the reason why `a` has no such identifier: its chain has no end, its
-- chain ends at a thing without an identifier, or its identifier is longer.
abbrev pub ComesTo : {A : Type 0} → (A → Origin A) → A → Resolution → Type 0
ComesTo origin a (R.Numbers o) = HasIdentifier origin a o × (length o ≤ 128)
ComesTo origin a R.Cycle = HasEnd (λ b. next_of (origin b)) a → ⊥
ComesTo origin a R.Unresolved = EndsNowhere origin a
ComesTo origin a R.TooLong = (o : List ℕ) × HasIdentifier origin a o × (128 < length o)

-- the resolution at an index of a list, `Unresolved` past its end
abbrev pub resolution_at : List Resolution → ℕ → Resolution
resolution_at rs p = slice_index_or rs p R.Unresolved

-- the resolutions in `list` at these indices
abbrev pub resolutions_at : List Resolution → List ℕ → List Resolution
resolutions_at list indices = map (λ k. resolution_at list k) indices

-- each of `indices` is below the length of `list`
abbrev pub AreWithin : List Resolution → List ℕ → Type 0
AreWithin list indices = All (λ k. k < length list) indices

-- ---- for private functions

-- identifier `o` followed by the numbers `ns`; `TooLong` if there are more than 128 together
abbrev pub extend_identifier : List ℕ → List ℕ → Resolution
extend_identifier o ns =
    if nat_le (length o + length ns) 128 then R.Numbers (o ++ ns) else R.TooLong

abbrev pub extend_resolution_by : Resolution → List ℕ → Resolution
extend_resolution_by (R.Numbers o) ns = extend_identifier o ns
extend_resolution_by r ns = r

-- the resolution at an index of `rs`; `Unresolved` for `None`, or past the end
abbrev pub far_at : List Resolution → Option ℕ → Resolution
far_at rs None = R.Unresolved
far_at rs (Some q) = resolution_at rs q

-- what a name with this origin resolves to, if the name that it refers to resolves to `far`
abbrev pub resolution_by : {A : Type 0} → Origin A → Resolution → Resolution
resolution_by (numbers ns) far = extend_identifier [] ns
resolution_by (after b ns) far = extend_resolution_by far ns
resolution_by nowhere far = R.Unresolved

-- `list` begins with the three reasons for having no identifier
abbrev pub HasReasons : List Resolution → Type 0
HasReasons list =
    (more : List Resolution) × (list ≡ (R.Unresolved ∷ R.Cycle ∷ R.TooLong ∷ []) ++ more)

-- `new` is `old` with more resolutions appended, perhaps none, and has the resolution `r` at index
-- `at`
pub record GrowsTo (old new : List Resolution) (at : ℕ) (r : Resolution) : Type 0 where
  pub added : List Resolution
  pub grown : new ≡ old ++ added
  pub inside : at < length new
  pub there : resolution_at new at ≡ r

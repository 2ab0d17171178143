-- The state of the search for the indices whose chains end, for private clauses. Index `p` refers
-- to the index `next_at next p`, if any; its chain continues there.
use Rattle.std.specs.Prelude.{◌≡◌, ℕ, ◌<◌, List, [], ◌∷◌, length, slice_index_or, All, Contains}
use Rattle.std.specs.Prelude.{Option, Some}
use Rattle.smi_names.specs.{chains.Chain.HasEnd, declared.chains.order.Mark.Mark}
use Rattle.smi_names.specs.chains.Order.{next_at, ComeAfterNext}
use Rattle.smi_names.specs.declared.chains.order.Mark.TheVariants as M

abbrev pub mark_at : List Mark → ℕ → Mark
mark_at marks p = slice_index_or marks p M.New

-- `path` begins with `from`, each of its indices refers to the next one, and the last one refers to
-- `to`; if `path` is empty, `from` is `to`
abbrev pub Follows : List (Option ℕ) → List ℕ → Option ℕ → Option ℕ → Type 0
Follows next [] from to = from ≡ to
Follows next (p ∷ rest) from to = (from ≡ Some p) × Follows next rest (next_at next p) to

-- `to` is `None`, or an index whose chain has an end and which is in `order` or past the end of
-- `next`
abbrev pub IsSettled : List (Option ℕ) → List ℕ → Option ℕ → Type 0
IsSettled next order to =
    (q : ℕ) → to ≡ Some q → HasEnd (next_at next) q × (q < length next → Contains order q)

-- `path` follows a chain (see `Follows`) up to `None`, or up to an index whose chain has an end
-- and which is in `order` or past the end of `next`
pub record ReachesSettled (next : List (Option ℕ)) (order path : List ℕ) : Type 0 where
  pub from : Option ℕ
  pub to : Option ℕ
  pub refers_to : Follows next path from to
  pub settled : IsSettled next order to

-- The invariant of the search: `order` has each index marked as settled, and `path` each one marked
-- as met whose chain has an end. The chain of each index in `order` has an end, and the index comes
-- after the one that it refers to, if that isn't past the end of `next`.
pub record Keeps (next : List (Option ℕ)) (marks : List Mark) (order path : List ℕ) : Type 0 where
  pub long : length marks ≡ length next
  pub within : All (λ p. p < length next) order
  pub along : All (λ p. p < length next) path
  pub only_ended : All (HasEnd (next_at next)) order
  pub after_next : ComeAfterNext next order
  pub settled : (p : ℕ) → mark_at marks p ≡ M.Settled → Contains order p
  pub met : (p : ℕ) → mark_at marks p ≡ M.Met → HasEnd (next_at next) p → Contains path p

-- Children of an identifier: what an iterator over them has left, and the lower of two.
use Rattle.std.specs.Prelude.{◌≡◌, ℕ, ◌≤◌, ◌⊎◌, List, [], ◌∷◌, ◌++◌, Option, Some, IfSome}
use Rattle.std.specs.{Prelude.IsSomeAnd, List.filter_map}
use Rattle.smi_tree.specs.branches.{Branches.id_at, FirstIndex.first_index}
use Rattle.smi_tree.specs.declared.branches.identifiers.Children.{Children}

-- the indices that are stored at the branches that the iterator `c` has left, in order
abbrev pub ids_left : Children → List ℕ
ids_left c = filter_map (λ e. id_at c.branches.now e.1) c.left

-- ---- for private functions

-- `new` is the lower, by the last number, of two children of `o`: `old`, and the identifier at
-- index `id`, which counts only if it is a child of `o` and `id` is its first index. `new` is
-- `None` if there is neither. A child is represented by its last number and its first index.
pub record IsLowerChild (oids : List (List ℕ)) (o : List ℕ) (old : Option (ℕ × ℕ)) (id : ℕ)
    (new : Option (ℕ × ℕ)) : Type 0 where
  pub one : (new ≡ old)
      ⊎ IfSome new (λ c. (c.1 ≡ id) × (first_index oids (o ++ c.0 ∷ []) ≡ Some id))
  pub of_old : IfSome old (λ c. IsSomeAnd new (λ d. d.0 ≤ c.0))
  pub of_id : (n : ℕ) → first_index oids (o ++ n ∷ []) ≡ Some id → IsSomeAnd new (λ d. d.0 ≤ n)

-- The index that represents an identifier in a list of identifiers: the first one.
use Rattle.std.specs.Prelude.{◌≡◌, ℕ, ◌<◌, ◌≤◌, List, [], ◌∷◌, ◌++◌, length, take, slice_index_or}
use Rattle.std.specs.Prelude.{Contains, Option, Some, None, nat_eq}
use Rattle.std.specs.{List.position_from, List.filter_map, Cmp.Lexicographic.pointwise}
use Rattle.std.specs.{List.Sorted.IsStrictlySortedBy, Ordering.nat_cmp}
use Rattle.snmp_oid.specs.Identifier.{IsBelow}

-- the first index of the identifier `o`
abbrev pub first_index : List (List ℕ) → List ℕ → Option ℕ
first_index oids o = position_from (λ x. pointwise nat_eq x o) 0 oids

-- the identifier at index `k`
abbrev pub oid_at : List (List ℕ) → ℕ → List ℕ
oid_at oids k = slice_index_or oids k []

-- the first `depth` numbers of `o` are in the list, with `id` as their first index, and no
-- longer prefix of `o` is in the list
pub record IsDeepestAt (oids : List (List ℕ)) (o : List ℕ) (id depth : ℕ) : Type 0 where
  pub within : depth ≤ length o
  pub here : first_index oids (take depth o) ≡ Some id
  pub none_longer : (j : ℕ) → depth < j → j ≤ length o → first_index oids (take j o) ≡ None

-- no prefix of `o` is in the list
abbrev pub HasNoBeginning : List (List ℕ) → List ℕ → Type 0
HasNoBeginning oids o = (j : ℕ) → j ≤ length o → first_index oids (take j o) ≡ None

-- no identifier below `o` is in the list
abbrev pub HasNoneBelow : List (List ℕ) → List ℕ → Type 0
HasNoneBelow oids o = (p : List ℕ) → IsBelow p o → first_index oids p ≡ None

-- `indices` has the first indices of the identifiers that have `o` as a prefix and are one number
-- longer, in increasing order of that number
pub record AreChildren (oids : List (List ℕ)) (o : List ℕ) (indices : List ℕ) : Type 0 where
  pub numbers : List ℕ
  pub rising : IsStrictlySortedBy nat_cmp numbers
  pub all : (n k : ℕ) → first_index oids (o ++ n ∷ []) ≡ Some k → Contains numbers n
  pub there : indices ≡ filter_map (λ n. first_index oids (o ++ n ∷ [])) numbers

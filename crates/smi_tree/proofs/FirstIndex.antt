-- If an identifier has a first index, then it is in the list there (`index_found`). The index stays if another identifier is appended (`index_push_other`).
use Rattle.std.proofs.{lemmas.Grind.common_steps, lemmas.Option.slice_get_within, lemmas.Option.get_or_from_slice_get}
use Rattle.std.proofs.Common.{◌≡◌, ◌≢◌, ℕ, ◌<◌, cond, List, [], ◌∷◌, ◌++◌, length, Some, None, arith, nat_eq}
use Rattle.std.specs.Cmp.Lexicographic.{pointwise, bytes_decides}
use Rattle.smi_names.specs.meaning.Meaning.{or_else}
use Rattle.smi_tree.specs.branches.FirstIndex.{first_index, oid_at}
use Rattle.smi_tree.proofs.First.{first, append-from, or_else_none}

pub index_found : (oids : List (List ℕ)) (o : List ℕ) (k : ℕ) → first_index oids o ≡ Some k → (k < length oids) × (oid_at oids k ≡ o)
index_found oids o k e = grind (arith, common_steps, first (λ x. pointwise nat_eq x o) oids, slice_get_within, get_or_from_slice_get, bytes_decides)

index_push : (oids : List (List ℕ)) (p o : List ℕ)
    → first_index (oids ++ p ∷ []) o ≡ or_else (first_index oids o) (cond (pointwise nat_eq p o) (Some (length oids)) None)
index_push oids p o = grind (arith, common_steps, append-from, nat_eq)

pub index_push_itself : (oids : List (List ℕ)) (p : List ℕ) → first_index (oids ++ p ∷ []) p ≡ or_else (first_index oids p) (Some (length oids))
index_push_itself oids p = grind (arith, common_steps, index_push oids p p, bytes_decides p p)

pub index_push_other : (oids : List (List ℕ)) (p o : List ℕ) → p ≢ o → first_index (oids ++ p ∷ []) o ≡ first_index oids o
index_push_other oids p o f = grind (arith, common_steps, index_push oids p o, bytes_decides p o, or_else_none)

-- The item that `find` returns for a test is the item at the position that `position_from` returns for this test, if there is one (`found_at`).
use Rattle.std.proofs.lemmas.Grind.{common_steps}
use Rattle.std.proofs.Common.{◌≡◌, ℕ, suc, ◌+◌, Bool, List, [], ◌∷◌, Option, Some, None, length, refl, sym, arith}
use Rattle.std.specs.List.{find, slice_get, position_from}
use Rattle.std.specs.{Borrow.Bor, Slice.IsItemAt, Option.option_map, Option.option_and_then, Option.option_copied}
use Rattle.std.proofs.lemmas.Option.{slice_get_past, slice_get_read}

module _ {A : Type 0} (t : A → Bool) where
  shift : (xs : List A) (b : ℕ) → position_from t (b + 1) xs ≡ option_map suc (position_from t b xs)
  shift [] b = refl
  shift (x ∷ xs) b = grind (arith, common_steps, shift xs)

  moved : (x : A) (xs : List A) (p : Option ℕ) → option_and_then (slice_get (x ∷ xs)) (option_map suc p) ≡ option_and_then (slice_get xs) p
  moved x xs p = grind (arith, common_steps)

  pub found_at : (xs : List A) → find t xs ≡ option_and_then (slice_get xs) (position_from t 0 xs)
  found_at [] = refl
  found_at (x ∷ xs) = grind (arith, common_steps, found_at xs, shift xs 0, moved)

-- what `get` of a slice returns is what `slice_get` returns for its items: the item at index `k`, or None past the end
pub copied_at : {A : Type 0} (xs : List A) (k : ℕ) (r : Option (Bor A)) → IsItemAt xs k r → option_copied r ≡ slice_get xs k
copied_at xs k None h = sym (slice_get_past xs k h.3)
copied_at xs k (Some x) h = sym (slice_get_read xs (length xs) k x.now refl h.3.0 h.1)

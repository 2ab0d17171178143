-- If an empty branch is added at the end, and only the branch `at` changes, by a step by `n` to the new one, then `GrowsBranch` holds (`GrowsBranch-made`).
use Rattle.std.proofs.{lemmas.Grind.common_steps, lemmas.Bool.cases_eq}
use Rattle.std.proofs.Common.{◌≡◌, ◌≢◌, ℕ, ◌<◌, ◌≤◌, inr, List, [], ◌∷◌, ◌++◌, length, set, get_or, Some, None, refl, ◌∙◌, arith}
use Rattle.std.proofs.lemmas.List.{length_push, length-set, get_or_append_left, get_or-set_same}
use Rattle.std.proofs.lemmas.Option.{slice_get_past, slice_get_read, slice_get_within}
use Rattle.std.specs.{List.slice_get, Ordering.nat_cmp, BTreeMap.get}
use Rattle.smi_tree.specs.branches.Branches.{follower, id_at, GrowsBranch}
use Rattle.smi_tree.specs.declared.branches.branch.Branch.{Branch}
use Rattle.smi_tree.proofs.Lists.{get_at_push}

pub get-set_same : {X : Type 0} (xs : List X) (i : ℕ) (y : X) → i < length xs → slice_get (set xs i y) i ≡ Some y
get-set_same xs i y l = grind (arith, slice_get_read (set xs i y) (length (set xs i y)) i y, length-set xs i y, get_or-set_same xs i y y)

pub get-set_other : {X : Type 0} (xs : List X) (i j : ℕ) (y : X) → j ≢ i → slice_get (set xs i y) j ≡ slice_get xs j
get-set_other [] i j y f = refl
get-set_other (x ∷ xs) i j y f = grind (arith, common_steps, get-set_other xs)

get-push : {X : Type 0} (xs : List X) (j : ℕ) (y : X) → j ≢ length xs → slice_get (xs ++ y ∷ []) j ≡ slice_get xs j
get-push [] j y f = grind (arith, common_steps)
get-push (x ∷ xs) j y f = grind (arith, common_steps, get-push xs)

pub follower_past : (bs : List Branch) (c m : ℕ) → length bs ≤ c → follower bs c m ≡ None
follower_past bs c m l = rw (slice_get_past bs c l)

module _ (old : List Branch) (e a b : Branch) (at n : ℕ) (inside : at < length old) (read : a ≡ get_or (old ++ e ∷ []) at a)
    (is_at : e.node_id ≡ None) (empty : (q : ℕ) → get nat_cmp e.after q ≡ None) (node_id : b.node_id ≡ a.node_id)
    (found : get nat_cmp b.after n ≡ Some (length old))
    (others : (q : ℕ) → q ≢ n → get nat_cmp b.after q ≡ get nat_cmp a.after q) (none : follower old at n ≡ None) where
  was : slice_get old at ≡ Some a
  was = slice_get_read old (length old) at a refl inside (read ∙ get_or_append_left old (e ∷ []) a at inside)

  here : slice_get (set (old ++ e ∷ []) at b) at ≡ Some b
  here = get-set_same (old ++ e ∷ []) at b (omega (arith, length_push old e))

  elsewhere : (c : ℕ) → c ≢ at → slice_get (set (old ++ e ∷ []) at b) c ≡ slice_get (old ++ e ∷ []) c
  elsewhere c f = get-set_other (old ++ e ∷ []) at c b f

  end : slice_get (old ++ e ∷ []) (length old) ≡ Some e
  end = get_at_push old e

  past : slice_get old (length old) ≡ None
  past = slice_get_past old (length old) (omega arith)

  pub GrowsBranch-made : GrowsBranch old (set (old ++ e ∷ []) at b) at n (length old)
  GrowsBranch-made = record {
    refers_to = rw here found;
    kept = λ c m d f. grind (arith, cases_eq c at, cases_eq m n, cases_eq c (length old), was, here, elsewhere c, past, get-push old c e, others m);
    adds = inr (record {
      is = refl;
      long = length-set (old ++ e ∷ []) at b ∙ length_push old e;
      none = none;
      back = λ c m d f.
          grind (arith, cases_eq c at, cases_eq m n, cases_eq c (length old), was, here, elsewhere c, end, past, get-push old c e, others m, empty m);
      node_id = λ c. grind (arith, cases_eq c at, cases_eq c (length old), was, here, elsewhere c, end, past, get-push old c e);
    });
  }

-- if an index is stored at a branch, the branch is in the list
pub id_inside : (bs : List Branch) (at id : ℕ) → id_at bs at ≡ Some id → at < length bs
id_inside bs at id e = grind (arith, common_steps, slice_get_within)

-- The children are the indices that are stored at the branches that follow.
use Rattle.std.proofs.Common.{rules, ◌≡◌, ℕ, List, [], ◌∷◌, ◌++◌, Option, Some, All, Contains, refl, sym, ◌∙◌, arith, eqb-true}
use Rattle.std.proofs.{lemmas.Grind.common_steps, lemmas.List.Elements.All-head, lemmas.List.Elements.All-tail}
use Rattle.std.proofs.lemmas.Map.Views.{Contains-keys_from_lookup}
use Rattle.std.specs.{List.filter_map, List.Sorted.IsStrictlySortedBy, Ordering.nat_cmp, Cmp.unsigned_ties, Map.lookup, Map.keys_of, BTreeMap.is_at}
use Rattle.smi_tree.specs.{branches.FirstIndex.first_index, branches.FirstIndex.AreChildren, declared.branches.branch.Branch.Branch}
use Rattle.smi_tree.specs.branches.Branches.{branch_of, id_at, AreBranchesOf}
use Rattle.smi_tree.proofs.BranchLists.{index_off}
use Rattle.smi_tree.proofs.branches.identifiers.Identifiers.children.Goals as goal

-- if a key is found, it is among the keys
found : (es : List (ℕ × ℕ)) (n b : ℕ) → lookup (is_at (nat_cmp n)) es ≡ Some b → Contains (keys_of es) n
found es n b e = Contains-keys_from_lookup {eq = λ x y. is_at (nat_cmp x) y} (λ x y t. eqb-true x y (unsigned_ties x y ∙ t)) n es (rw e refl)

same_places : (h : ℕ → Option ℕ) (g : ℕ → Option ℕ) (es : List (ℕ × ℕ)) → All (λ e. h e.1 ≡ g e.0) es
    → filter_map (λ e. h e.1) es ≡ filter_map g (keys_of es)
same_places h g [] f = refl
same_places h g (x ∷ es) f = grind (arith, common_steps, same_places h g es, All-head (λ e. h e.1 ≡ g e.0) x es, All-tail (λ e. h e.1 ≡ g e.0) x es)

children : (oids : List (List ℕ)) (bs : List Branch) → AreBranchesOf oids bs → (o : List ℕ) (es : List (ℕ × ℕ))
    → ((n : ℕ) → lookup (is_at (nat_cmp n)) es ≡ branch_of bs (o ++ n ∷ [])) → All (λ e. lookup (is_at (nat_cmp e.0)) es ≡ Some e.1) es
    → IsStrictlySortedBy nat_cmp (keys_of es)
    → AreChildren oids o (filter_map (λ e. id_at bs e.1) es)
children oids bs are o es same each rising = record {
  numbers = keys_of es;
  rising = rising;
  all = λ n k e. grind (arith, index_off oids oids bs are (o ++ n ∷ []), found es n, same n);
  there = same_places (id_at bs) (λ n. first_index oids (o ++ n ∷ [])) es (λ i d l. grind (arith, each i d l, are.node_id, same));
}

pub returns : goal.returns
returns c =
    let bs : c.deref-2.result.now ≡ c.self.inside.branches.items = search rules in
    let list : c.iter.result ≡ c.after-after.result.now.entries = c.iter.ensures.rest in
    let o : c.as_slice.result.now ≡ c.args.oid.now = c.as_slice.ensures.value in
    let same = rw (c.deref.ensures.value, o) at c.after-after.ensures in
    rw (bs, list, sym c.self.view_is)
    (children c.self.inside.oids.items c.self.inside.branches.items c.self.invariant.0 c.args.oid.now c.after-after.result.now.entries same
    c.iter.ensures.found c.iter.ensures.ordered)

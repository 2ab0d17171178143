-- The first child with a label is the one with the lowest number.
use Rattle.std.proofs.{lemmas.Grind.common_steps, lemmas.Bool.cases_eq, lemmas.Bool.cases_lt, lemmas.Bool.cases_order, lemmas.List.length-map}
use Rattle.std.proofs.lemmas.Option.{slice_get_within}
use Rattle.std.proofs.Common.{◌≡◌, ◌≢◌, ℕ, zero, suc, ◌<◌, ◌≤◌, List, [], ◌∷◌, ◌++◌, length, Option, Some, None, IfSome, IsSomeAnd, true}
use Rattle.std.proofs.Common.{option_map, refl, sym, ap, ◌∙◌, arith, inl, inr}
use Rattle.smi_tree.specs.{branches.FirstIndex.first_index, branches.FirstIndex.oid_at, branches.Children.IsLowerChild}
use Rattle.smi_text.specs.trees.Mark.{same_text}
use Rattle.smi_tree.specs.Indices.{label_at, IsPrevious}
use Rattle.smi_names.specs.{nodes.Nodes.Node}
use Rattle.smi_tree.specs.Nodes.{IsOfLowest, nothing, lowest, IsFirstChild, of_lowest, highest, child_at, child_of, oids_of, labels_of}
use Rattle.smi_tree.specs.Nodes.{last_number, index_anywhere, has_label}
use Rattle.smi_tree.proofs.{FirstIndex.index_found, First.none_if, First.passing, Previous.IsFirstOf, Previous.first_of, Previous.label-of}
use Rattle.smi_tree.proofs.{Lists.get_within, SameTexts.same, SameTexts.same_itself}

-- `f` has at most one result for the lowest number
one_lowest : {f : ℕ → Option ℕ} {r s : Option ℕ} → IsOfLowest f r → IsOfLowest f s → r ≡ s
one_lowest (nothing h) (nothing k) = refl
one_lowest (nothing h) (lowest m j d before) = cc (h m)
one_lowest (lowest n k e before) (nothing h) = cc (h n)
one_lowest (lowest n k e before) (lowest m j d earlier) = grind (arith, cases_order n m, before m, earlier n)

-- the result is `Some k` if `f` returns this for the lowest number for which `f` isn't `None`; it is `None` if `f` is `None` for all numbers below `b`
abbrev IsLowestBelow : (ℕ → Option ℕ) → ℕ → Option ℕ → Type 0
IsLowestBelow f b None = (m : ℕ) → m < b → f m ≡ None
IsLowestBelow f b (Some k) = (n : ℕ) × (f n ≡ Some k) × ((m : ℕ) → m < n → f m ≡ None)

lowest_below : (f : ℕ → Option ℕ) (b : ℕ) → IsLowestBelow f b (of_lowest f b)
unfolding of_lowest
lowest_below f zero = λ m l. absurd (omega arith)
lowest_below f (suc b) = grind (arith, common_steps, lowest_below f b, cases_eq)

of_lowest-lowest : (f : ℕ → Option ℕ) (b : ℕ) → ((n k : ℕ) → f n ≡ Some k → n < b) → IsOfLowest f (of_lowest f b)
of_lowest-lowest f b within = by (of_lowest f b) (lowest_below f b)
  where
    by : (r : Option ℕ) → IsLowestBelow f b r → IsOfLowest f r
    by None below = nothing (λ m. none_if (f m) (λ k e. let none = below m (within m k e) in cc))
    by (Some k) (n, e, before) = lowest n k e before

last_number-push : (o : List ℕ) (n : ℕ) → last_number (o ++ n ∷ []) ≡ n
last_number-push (m ∷ k ∷ o) n = last_number-push (k ∷ o) n
last_number-push _ n = refl

-- the last number of the identifier at index `k` is at most `highest oids`
up_to_highest : (oids : List (List ℕ)) (k : ℕ) → k < length oids → last_number (oid_at oids k) ≤ highest oids
up_to_highest [] k l = absurd (omega arith)
up_to_highest (o ∷ oids) k l = grind (arith, common_steps, up_to_highest oids)

-- if a child of `o` is found for the number `n`, then its index is the first index of `o` with `n` appended
child-id : (nodes : List Node) (o label : List ℕ) (n k : ℕ) → child_at nodes o label n ≡ Some k → first_index (oids_of nodes) (o ++ n ∷ []) ≡ Some k
child-id nodes o label n k e = grind (arith, common_steps)

child-below : (nodes : List Node) (o label : List ℕ) (n k : ℕ) → child_at nodes o label n ≡ Some k → n < suc (highest (oids_of nodes))
child-below nodes o label n k e =
    let at = index_found (oids_of nodes) (o ++ n ∷ []) k (child-id nodes o label n k e) in
    omega (arith, up_to_highest (oids_of nodes) k at.0, ap last_number at.1, last_number-push o n)

-- `child_of`, which is computed, is the first child of `o` with the label, or `None` if there is none; by `child_is`, no other result is
pub child_first : (nodes : List Node) (o label : List ℕ) → IsFirstChild nodes o label (child_of nodes o label)
child_first nodes o label = of_lowest-lowest (child_at nodes o label) (suc (highest (oids_of nodes))) (child-below nodes o label)

pub child_is : (nodes : List Node) (o label : List ℕ) (r : Option ℕ) → IsFirstChild nodes o label r → r ≡ child_of nodes o label
child_is nodes o label r is = one_lowest is (child_first nodes o label)

-- the node at index `id` has the label `label`; `child`, if there is one, is a child of `o` with this label, and its number is at most the number of each such
-- child whose index is at least `id`; if `child` is `None`, there is none from `id` on
pub record IsLowestFrom (nodes : List Node) (o label : List ℕ) (id : ℕ) (child : Option (ℕ × ℕ)) : Type 0 where
  pub within : id < length nodes
  pub labelled : label_at (labels_of nodes) id ≡ label
  pub is : IfSome child (λ c. child_at nodes o label c.0 ≡ Some c.1)
  pub least : (n k : ℕ) → child_at nodes o label n ≡ Some k → id ≤ k → IsSomeAnd child (λ c. c.0 ≤ n)

module _ (nodes : List Node) (o label : List ℕ) where
  -- if `k` is the index of a child with the label, `k` is below the number of nodes, and the label at index `k` is this label
  there : (n k : ℕ) → child_at nodes o label n ≡ Some k → (k < length nodes) × (label_at (labels_of nodes) k ≡ label)
  there n k e =
      let at = index_found (oids_of nodes) (o ++ n ∷ []) k (child-id nodes o label n k e) in
      let n = get_within nodes k (omega (arith, at.0, length-map nodes (λ (m : Node). m.oid))) in
      let named : same_text n.0.label label ≡ true = grind (arith, common_steps, e, n.1) in
      (slice_get_within nodes k n.0 n.1, label-of (λ (m : Node). m.label) nodes k n.0 n.1 ∙ same n.0.label label named)

  -- if the label at index `k` is this label, and `k` is the first index of a child of `o`, then `k` is the index of a child with the label
  labelled : (n k : ℕ) → k < length nodes → label_at (labels_of nodes) k ≡ label → first_index (oids_of nodes) (o ++ n ∷ []) ≡ Some k
      → child_at nodes o label n ≡ Some k
  labelled n k l at e =
      let m = get_within nodes k l in
      let named : m.0.label ≡ label = sym (label-of (λ (m : Node). m.label) nodes k m.0 m.1) ∙ at in
      grind (arith, common_steps, e, m.1, named, same_itself label)

  -- if `old` has the lowest number of the children whose index is at least `from`, and the label is at no index after `p` and before `from`, then the lower
  -- one of `old` and the child at index `p` has the lowest number of the children whose index is at least `p`
  lower : (from p : ℕ) (old new : Option (ℕ × ℕ)) → IfSome old (λ c. child_at nodes o label c.0 ≡ Some c.1)
      → ((n k : ℕ) → child_at nodes o label n ≡ Some k → from ≤ k → IsSomeAnd old (λ c. c.0 ≤ n)) → p < length nodes
      → label_at (labels_of nodes) p ≡ label → ((k : ℕ) → label_at (labels_of nodes) k ≡ label → k < length nodes → k < from → k ≤ p)
      → IsLowerChild (oids_of nodes) o old p new → IsLowestFrom nodes o label p new
  lower from p old new is least inside at none l = record {
    within = inside;
    labelled = at;
    is = elim l.one [ inl kept ↦ rw kept is | inr here ↦ by new here ];
    least = λ n k e le. elim (cases_eq k p) [
      | inl here ↦ l.of_id n (child-id nodes o label n p (rw here at e))
      | inr other ↦ (let known = there n k e in
          trans n old new (least n k e (grind (arith, none k known.1 known.0, cases_lt k from, other, le))) l.of_old)
    ];
  }
    where
      by : (new : Option (ℕ × ℕ)) → IfSome new (λ c. (c.1 ≡ p) × (first_index (oids_of nodes) (o ++ c.0 ∷ []) ≡ Some p))
          → IfSome new (λ c. child_at nodes o label c.0 ≡ Some c.1)
      by None here = tt
      by (Some c) here = rw here.0 (labelled c.0 p inside at here.1)

      trans : (n : ℕ) (old new : Option (ℕ × ℕ)) → IsSomeAnd old (λ c. c.0 ≤ n) → IfSome old (λ c. IsSomeAnd new (λ d. d.0 ≤ c.0))
          → IsSomeAnd new (λ d. d.0 ≤ n)
      trans n old new a b = grind (arith, common_steps)

  -- if `old` has the lowest number of the children from index `id` on, and `p` is the previous index of the label, then the lower one of `old` and the child
  -- at index `p` has the lowest number of the children from `p` on
  pub search_moves : {id p : ℕ} {old new : Option (ℕ × ℕ)} → IsLowestFrom nodes o label id old → IsPrevious (labels_of nodes) (length nodes) id p
      → IsLowerChild (oids_of nodes) o old p new → IsLowestFrom nodes o label p new
  search_moves {id = id} {p = p} {old = old} {new = new} at next l =
      lower id p old new at.is at.least next.within (next.same ∙ at.labelled)
      (λ k is inside l. grind (arith, cases_lt p k, next.between k, l, is, at.labelled)) l

  -- `first` is the index of the first node with the label
  module _ (first : ℕ) (e : Some first ≡ index_anywhere nodes label) where
    is_first : IsFirstOf (labels_of nodes) label first
    is_first = first_of (λ (n : Node). n.label) nodes label first (sym e)

    all : length (labels_of nodes) ≡ length nodes
    all = length-map nodes (λ (n : Node). n.label)

    after : (k : ℕ) → label_at (labels_of nodes) k ≡ label → k < length nodes → first ≤ k
    after k at inside = is_first.before k at (omega (arith, inside, all))

    pub within : first < length nodes
    within = omega (arith, is_first.within, all)

    -- the search begins: `p` is the last index of the label, so a child at `p` has the lowest number of the children from `p` on
    pub search_begins : {p : ℕ} {new : Option (ℕ × ℕ)} → IsPrevious (labels_of nodes) (length nodes) first p
        → IsLowerChild (oids_of nodes) o None p new → IsLowestFrom nodes o label p new
    search_begins {p = p} {new = new} at l = let named = at.same ∙ is_first.is in
        lower (length nodes) p None new tt (λ n k f le. omega (arith, (there n k f).0, le)) at.within named
        (λ k is inside _. (at.around (after p named at.within) k inside (is ∙ sym is_first.is)).1) l

    -- if `id` isn't the first index of the label, then the previous index `p` is below `id`
    pub search_falls : {id p : ℕ} {old : Option (ℕ × ℕ)} → IsLowestFrom nodes o label id old → id ≢ first
        → IsPrevious (labels_of nodes) (length nodes) id p → p < id
    search_falls {id = id} {p = p} at other next = elim (cases_lt p id) [
      | inl less ↦ less
      | inr up ↦ (let a = next.around up first within (is_first.is ∙ sym at.labelled) in
          absurd (other (omega (arith, a.0, after id at.labelled at.within))))
    ]

    -- the search ends: if `child` has the lowest number of the children from the first index of the label on, it is the first child
    pub search_ends : {id : ℕ} {child : Option (ℕ × ℕ)} {r : Option ℕ} → id ≡ first → IsLowestFrom nodes o label id child
        → r ≡ option_map (λ c. c.1) child → IsFirstChild nodes o label r
    search_ends {id = id} {child = child} end at is = rw is (by child at)
      where
        by : (child : Option (ℕ × ℕ)) → IsLowestFrom nodes o label id child → IsFirstChild nodes o label (option_map (λ c. c.1) child)
        by None at = nothing (λ n. none_if (child_at nodes o label n) (λ k f.
            let known = there n k f in at.least n k f (omega (arith, end, after k known.1 known.0))))
        by (Some c) at = lowest c.0 c.1 at.is (λ m l. none_if (child_at nodes o label m) (λ k f.
            let known = there m k f in
            let up = at.least m k f (omega (arith, end, after k known.1 known.0)) in omega (arith, up, l)))

  -- if no node has the label, no child has it
  pub no_child : {r : Option ℕ} → index_anywhere nodes label ≡ None → r ≡ None → IsFirstChild nodes o label r
  no_child e is = rw is (nothing (λ n. none_if (child_at nodes o label n) (λ k f.
      let at = there n k f in
      let m = get_within nodes k at.0 in
      let named : m.0.label ≡ label = sym (label-of (λ (m : Node). m.label) nodes k m.0 m.1) ∙ at.1 in
      let first = passing (has_label label) nodes k m.0 m.1 (rw named (same_itself label)) in
      cc (e, first.1))))

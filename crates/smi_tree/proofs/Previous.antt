-- The previous index of a label (`IsPrevious`): the last index before it with the same label, or, for the first index, the last one with the label.
use Rattle.std.proofs.Common.{◌≡◌, ℕ, ◌+◌, ◌<◌, ◌≤◌, List, [], ◌∷◌, ◌++◌, length, map, get_or, Some, slice_index_or, inl, inr, refl, sym, ◌∙◌, arith}
use Rattle.std.proofs.lemmas.{Grind.elements, List.length-map, Bool.cases_eq, Bool.cases_lt}
use Rattle.std.proofs.lemmas.Option.{slice_get-map, slice_get-get_or, slice_get_within, get_or_from_slice_get}
use Rattle.std.specs.List.{slice_get, position_from, SwappedAt}
use Rattle.smi_text.specs.{trees.Mark.same_text, declared.trees.tree.Module.Module}
use Rattle.smi_names.specs.declared.nodes.gather.Source.{Source}
use Rattle.smi_tree.specs.Indices.{label_from, has_label, label_at, IsPrevious, ArePrevious}
use Rattle.smi_tree.proofs.{First.IsFirst, First.first, Lists.get_within, SameTexts.same, SameTexts.same_itself}

-- `f` is the first index of the label `x`
pub record IsFirstOf (labels : List (List ℕ)) (x : List ℕ) (f : ℕ) : Type 0 where
  pub within : f < length labels
  pub is : label_at labels f ≡ x
  pub before : (j : ℕ) → label_at labels j ≡ x → j < length labels → f ≤ j

-- the label of the item at index `j` is at this index of the labels
pub label-of : {A : Type 0} (name : A → List ℕ) (xs : List A) (j : ℕ) (y : A) → slice_get xs j ≡ Some y → label_at (map name xs) j ≡ name y
label-of name xs j y e = get_or_from_slice_get (map name xs) j (name y) [] (slice_get-map name xs j ∙ rw e refl)

-- if `f` is the index of the first item named `x`, then `f` is the first index of `x` in the list of the items' names
pub first_of : {A : Type 0} (name : A → List ℕ) (xs : List A) (x : List ℕ) (f : ℕ) → position_from (λ y. same_text (name y) x) 0 xs ≡ Some f
    → IsFirstOf (map name xs) x f
first_of name xs x f e =
    let g : IsFirst (λ y. same_text (name y) x) xs f = rw e at (first (λ y. same_text (name y) x) xs) in record {
      within = omega (arith, slice_get_within xs f g.x g.at, length-map xs name);
      is = label-of name xs f g.x g.at ∙ same (name g.x) x g.passes;
      before = λ j at l.
          let y = get_within xs j (omega (arith, l, length-map xs name)) in
          let named : name y.0 ≡ x = sym (label-of name xs j y.0 y.1) ∙ at in
          grind (arith, cases_lt j f, g.before j y.0, y.1, same_itself x, named);
    }

-- if `f` is the first index of the label of the source at index `k`, it is so in the list of labels
pub first_at : (ms : List Module) (ss : List Source) (k f : ℕ) (d : Source) → k < length ss
    → position_from (has_label ms (label_from ms (get_or ss k d))) 0 ss ≡ Some f
    → IsFirstOf (map (label_from ms) ss) (label_at (map (label_from ms) ss) k) f
first_at ms ss k f d inside e =
    rw (label-of (label_from ms) ss k (get_or ss k d) (slice_get-get_or ss k d inside)) (first_of (label_from ms) ss (label_from ms (get_or ss k d)) f e)

-- if `old` is right for `n` labels, and `f` is the first index of the label at index `n`, then `old` is right for `n + 1` labels after `n` is appended and
-- exchanged with the item at index `f`
pub previous-more : (labels : List (List ℕ)) (n f : ℕ) (old new : List ℕ) → n < length labels → IsFirstOf labels (label_at labels n) f
    → ArePrevious labels n old → length new ≡ n + 1 → SwappedAt (old ++ n ∷ []) new f n → ArePrevious labels (n + 1) new
previous-more labels n f old new inside g are long swapped = record { long = long; each = each }
  where
    each : (k : ℕ) → k < n + 1 → IsPrevious labels (n + 1) k (slice_index_or new k 0)
    each k l = elim (cases_eq k f) [
      | inl at ↦ (let here : slice_index_or new k 0 ≡ n = grind (arith, elements, swapped.0 0, are.long, at) in rw here (record {
        within = omega arith;
        same = rw at (sym g.is);
        between = λ j a b e. omega (arith, g.before n refl inside, at);
        around = λ le j b e. (rw at (g.before j (e ∙ rw at g.is) (omega arith)), omega arith);
      }))
      | inr other ↦ elim (cases_eq k n) [
        | inl at ↦ (let p : IsPrevious labels n f (slice_index_or old f 0) = are.each f (omega (arith, g.before n refl inside, other, at)) in
            let here : slice_index_or new k 0 ≡ slice_index_or old f 0 = grind (arith, elements, swapped.1 0, are.long, g.before n refl inside, other, at) in
            let up = g.before (slice_index_or old f 0) (p.same ∙ g.is) (omega (arith, p.within, inside)) in rw here (record {
              within = omega (arith, p.within);
              same = rw at (p.same ∙ g.is);
              between = λ j a b e. omega (arith, p.around up j (rw at at b) (e ∙ rw at (sym g.is)), a);
              around = λ le j b e. absurd (omega (arith, le, p.within, at));
            }))
        | inr before ↦ (let q : IsPrevious labels n k (slice_index_or old k 0) = are.each k (omega (arith, l, before)) in
            let here : slice_index_or new k 0 ≡ slice_index_or old k 0 = grind (arith, elements, swapped.2 k 0 other before, are.long, l, before) in
            rw here (record {
              within = omega (arith, q.within);
              same = q.same;
              between = q.between;
              around = λ le j b e. grind (arith, cases_eq j n, g.before k, g.is, q.around le f, q.around le j, e, b, l, before, other, inside);
            }))
      ]
    ]

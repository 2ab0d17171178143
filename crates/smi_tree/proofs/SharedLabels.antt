-- For the loop that makes the maps of labels: if the map `others` is right for the first sources, it is right with one source more (`others-more`).
use Rattle.std.proofs.Common.{◌≡◌, ℕ, ◌+◌, ◌<◌, ◌==◌, ◌&&◌, Bool, true, false, cond, List, length, take, get_or, Option, Some, None, unwrap_or, arith}
use Rattle.std.proofs.Common.{option_map, refl, sym, ◌∙◌}
use Rattle.std.proofs.{lemmas.Grind.common_steps, lemmas.Bool.eqb-true, Math.Bool.and-false}
use Rattle.std.proofs.lemmas.Option.{slice_get-get_or, slice_get_within}
use Rattle.std.specs.{List.slice_get, List.position_from, Option.option_and_then}
use Rattle.indexmap.specs.IndexMap.{get}
use Rattle.smi_text.specs.{trees.Mark.same_text, declared.trees.tree.Module.Module}
use Rattle.smi_names.specs.meaning.Scopes.{NameIndices, index_in}
use Rattle.smi_names.specs.{meaning.Meaning.or_else, meaning.Names.module_index, declared.nodes.gather.Source.Source}
use Rattle.smi_names.specs.declared.nodes.gather.Source.TheVariants as S
use Rattle.smi_tree.specs.Nodes.{is_named}
use Rattle.smi_tree.specs.Indices.{Others, home_from, label_from, has_label, is_of, same_key, key_of, AreOthers}
use Rattle.smi_tree.proofs.{First.IsFirst, First.first, First.none_first, First.more, First.of_prefix, SameTexts.same, SameTexts.same_itself}

-- if a name has a first index, the item there has this name
named : {A : Type 0} (name : A → List ℕ) (xs : List A) (a : List ℕ) (j : ℕ) → position_from (λ x. same_text (name x) a) 0 xs ≡ Some j
    → (x : A) × (slice_get xs j ≡ Some x) × (name x ≡ a)
named name xs a j e =
    let f : IsFirst (λ x. same_text (name x) a) xs j = rw e at (first (λ x. same_text (name x) a) xs) in (f.x, f.at, same (name f.x) a f.passes)

-- two names that are found are the same if and only if their first indices are
indices_decide : {A : Type 0} (name : A → List ℕ) (xs : List A) (a b : List ℕ) (j k : ℕ) → position_from (λ x. same_text (name x) a) 0 xs ≡ Some j
    → position_from (λ x. same_text (name x) b) 0 xs ≡ Some k → (j == k) ≡ same_text a b
indices_decide name xs a b j k e f =
    let g = named name xs a j e in let h = named name xs b k f in
    grind (arith, common_steps, same a b, same_itself b, g.1, g.2, h.1, h.2)

-- whether there is a key and this is `other`
abbrev pub fits : Option (ℕ × ℕ) → ℕ × ℕ → Bool
fits None other = false
fits (Some key) other = same_key key other

module _ (ms : List Module) (homes : NameIndices) (ss : List Source) (old new : Others) (k f : ℕ) (d : Source)
    (placed : (x : List ℕ) → index_in homes x ≡ module_index ms x) (inside : k < length ss) where
  -- if `old` is right for the first `k` sources, and `new` is `old` with `k` inserted under the key of the source at index `k`, unless this source has no key
  -- or `old` has its key already, then `new` is right for the first `k + 1` sources
  pub others-more : position_from (has_label ms (label_from ms (get_or ss k d))) 0 ss ≡ Some f
      → ((y : ℕ × ℕ) → get same_key new y ≡ or_else (get same_key old y) (cond (fits (key_of ms homes (get_or ss k d) f k) y) (Some k) None))
      → AreOthers ms ss old (take k ss) → AreOthers ms ss new (take (k + 1) ss)
  others-more labelled put are home x p g o id begins at other =
      put (p, g) ∙ rw (are home x p g o id begins at other, key) (sym (more (is_of ms home x) ss k d inside))
    where
      s : Source
      s = get_or ss k d

      there : slice_get ss k ≡ Some s
      there = slice_get-get_or ss k d inside

      itself : f ≡ k → false ≡ (is_named home (home_from ms s) && (f == g))
      itself is = grind (arith, common_steps, and-false (is_named home (home_from ms s)), there, at, other)

      named_by : (m : Module) (r : Option ℕ) → module_index ms m.name.octets ≡ r
          → fits (option_map (λ h. (h, f)) r) (p, g) ≡ (same_text m.name.octets home && (f == g))
      named_by m None e = grind (arith, common_steps, same m.name.octets home)
      named_by m (Some h) e = rw (← indices_decide (λ (n : Module). n.name.octets) ms m.name.octets home h p e id) refl

      by : (v : Bool) → (f == k) ≡ v → (m : Option Module) → home_from ms s ≡ m
          → fits (cond v None (option_and_then (λ m. option_map (λ h. (h, f)) (index_in homes m.name.octets)) m)) (p, g) ≡ (is_named home m && (f == g))
      by true e m h = rw (← h) (itself (eqb-true f k e))
      by false e None h = refl
      by false e (Some m) h = rw (placed m.name.octets) (named_by m (module_index ms m.name.octets) refl)

      key : fits (key_of ms homes s f k) (p, g) ≡ is_of ms home x s
      key = rw (← indices_decide (label_from ms) ss (label_from ms s) x f g labelled begins) (by (f == k) refl (home_from ms s) refl)

-- if `labels` is right for the first `k` sources, and `f` is the index that it has for the label of the source at index `k`, or `k` if it has none, then `f`
-- is the index of the first source with that label
pub first_is : (ms : List Module) (labels : NameIndices) (ss : List Source) (k f : ℕ) (d : Source) → k < length ss
    → ((x : List ℕ) → index_in labels x ≡ position_from (has_label ms x) 0 (take k ss))
    → f ≡ unwrap_or (index_in labels (label_from ms (get_or ss k d))) k → position_from (has_label ms (label_from ms (get_or ss k d))) 0 ss ≡ Some f
first_is ms labels ss k f d inside are is = let x = label_from ms (get_or ss k d) in
    grind (arith, common_steps, of_prefix (has_label ms x) ss (k + 1) f, more (has_label ms x) ss k d inside, same_itself x, are x)

-- if no module is named `home`, then no source is in a module of this name
pub no_module : (ms : List Module) (ss : List Source) (home x : List ℕ) → module_index ms home ≡ None → position_from (is_of ms home x) 0 ss ≡ None
no_module ms ss home x e = none_first (is_of ms home x) ss (λ i s l at. rw (none s) refl)
  where
    none : (s : Source) → is_named home (home_from ms s) ≡ false
    none (S.Root n) = refl
    none (S.Definition i k) = grind (arith, common_steps, first (λ (n : Module). same_text n.name.octets home) ms, slice_get_within)

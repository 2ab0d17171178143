-- The list of nodes that is made from sources and identifiers has one node for each source, at the same index (`node-at`).
use Rattle.std.proofs.lemmas.Grind.{common_steps}
use Rattle.std.proofs.Common.{◌≡◌, ℕ, ◌+◌, Bool, List, [], ◌∷◌, length, map, Some, is_some, refl, arith}
use Rattle.std.specs.List.{slice_get, position_from, find}
use Rattle.smi_text.specs.declared.trees.tree.Module.{Module}
use Rattle.smi_names.specs.{nodes.Nodes.Node, nodes.Gathered.node_from, nodes.Gathered.nodes_of, declared.nodes.gather.Source.Source}
use Rattle.smi_names.specs.declared.nodes.gather.Source.TheVariants as S
use Rattle.smi_tree.specs.Nodes.{has_label, is_of, index_anywhere, index_in_module, oids_of, labels_of}
use Rattle.smi_tree.specs.{branches.FirstIndex.oid_at, Indices.home_from, Indices.label_from, Indices.definition_from, Indices.label_in}
use Rattle.smi_tree.specs.Indices as indices

-- in both cases of a source `s`, its node has the module, the label and the definition of `s`, and the identifier `o`
pub parts : (ms : List Module) (s : Source) (o : List ℕ)
    → node_from ms s o ≡ record { home = home_from ms s; label = label_from ms s; oid = o; definition = definition_from ms s }
parts ms (S.Root n) o = refl
parts ms (S.Definition i k) o = grind (arith, common_steps)

module _ (ms : List Module) where
  pub length_nodes : (ss : List Source) (os : List (List ℕ)) → length ss ≡ length os → length (nodes_of ms ss os) ≡ length ss
  length_nodes [] os e = refl
  length_nodes (s ∷ ss) os e = grind (arith, common_steps, length_nodes ss)

  pub oids_nodes : (ss : List Source) (os : List (List ℕ)) → length ss ≡ length os → oids_of (nodes_of ms ss os) ≡ os
  oids_nodes [] os e = grind (arith, common_steps)
  oids_nodes (s ∷ ss) os e = grind (arith, common_steps, oids_nodes ss, parts)

  pub labels_nodes : (ss : List Source) (os : List (List ℕ)) → length ss ≡ length os → labels_of (nodes_of ms ss os) ≡ map (label_from ms) ss
  labels_nodes [] os e = refl
  labels_nodes (s ∷ ss) os e = grind (arith, common_steps, labels_nodes ss, parts)

  -- if a source has the index `k`, so does its node, with the identifier at that index
  pub node-at : (ss : List Source) (os : List (List ℕ)) → length ss ≡ length os → (k : ℕ) (s : Source) → slice_get ss k ≡ Some s
      → slice_get (nodes_of ms ss os) k ≡ Some (node_from ms s (oid_at os k))
  node-at [] os l k s e = grind (arith, common_steps)
  node-at (x ∷ ss) os l k s e = grind (arith, common_steps, node-at ss)

  -- if a node passes the test `t` if and only if its source passes `u`, then `t` finds the same index in the list of nodes as `u` in the list of sources
  position-nodes : (t : Node → Bool) (u : Source → Bool) → ((s : Source) (o : List ℕ) → t (node_from ms s o) ≡ u s)
      → (ss : List Source) (os : List (List ℕ)) (b : ℕ) → length ss ≡ length os → position_from t b (nodes_of ms ss os) ≡ position_from u b ss
  position-nodes t u e [] os b l = refl
  position-nodes t u e (s ∷ ss) os b l = grind (arith, common_steps, position-nodes t u e ss, e)

pub anywhere_sources : (ms : List Module) (ss : List Source) (os : List (List ℕ)) (x : List ℕ) → length ss ≡ length os
    → index_anywhere (nodes_of ms ss os) x ≡ position_from (indices.has_label ms x) 0 ss
anywhere_sources ms ss os x l = position-nodes ms (has_label x) (indices.has_label ms x) (λ s o. rw (parts ms s o) refl) ss os 0 l

pub in_module-sources : (ms : List Module) (ss : List Source) (os : List (List ℕ)) (home x : List ℕ) → length ss ≡ length os
    → index_in_module (nodes_of ms ss os) home x ≡ position_from (indices.is_of ms home x) 0 ss
in_module-sources ms ss os home x l = position-nodes ms (is_of home x) (indices.is_of ms home x) (λ s o. rw (parts ms s o) refl) ss os 0 l

pub is_some_find : {A : Type 0} (t : A → Bool) (b : ℕ) (xs : List A) → is_some (position_from t b xs) ≡ is_some (find t xs)
is_some_find t b [] = refl
is_some_find t b (x ∷ xs) = grind (arith, common_steps, is_some_find t (b + 1) xs, is_some)

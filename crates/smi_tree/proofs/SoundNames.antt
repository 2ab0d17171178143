-- Names of nodes are sound: labels are words, and a look-up of a node's label returns its identifier.
use Rattle.std.proofs.{lemmas.Grind.common_steps, lemmas.List.length-map, lemmas.Option.slice_get-map, lemmas.Option.get_or_from_slice_get}
use Rattle.std.proofs.Common.{◌≡◌, ℕ, zero, suc, ◌≤◌, ◌⊎◌, inl, inr, Bool, true, ◌&&◌, List, [], ◌++◌, length, take, Option, Some, None, refl}
use Rattle.std.proofs.Common.{sym, ap, subst, ◌∙◌, arith}
use Rattle.std.specs.{Prelude.slice_index_or, List.slice_get, Option.option_and_then}
use Rattle.smi_text.specs.{trees.Mark.same_text, trees.Word.is_word, declared.trees.tree.Module.Module}
use Rattle.smi_names.specs.{meaning.Meaning.Means, meaning.Meaning.QualifiedName, declared.nodes.warning.Warning.Warning}
use Rattle.smi_tree.specs.{branches.FirstIndex.first_index, columns.Index.IsNodeAt, Tree.Contents}
use Rattle.smi_tree.specs.LongestPrefix.{Longest, longest_up_to, longest}
use Rattle.smi_tree.specs.Naming.{NodeView, LabelRefersTo, IsSound, home_name, view_from, view_of_longest, oid_of, oid_anywhere, oid_in_module}
use Rattle.smi_tree.specs.Naming.{is_module_loaded, nearest_node}
use Rattle.smi_tree.specs.Nodes.{oids_of, is_of, index_in_module, index_anywhere}
use Rattle.smi_names.specs.nodes.Nodes.{Node, roots, Loads}
use Rattle.smi_tree.proofs.{First.first, First.passing, SameTexts.same, SameTexts.same_itself, Lists.get_within, FirstIndex.index_found}
use Rattle.smi_tree.specs.Defined.{IsDefined}
use Rattle.smi_tree.proofs.Soundness.{root-case, root-or-definition}

-- the longest prefix has at most `j` numbers, and its index is the first index of these numbers
abbrev Reaches : List (List ℕ) → List ℕ → ℕ → Longest → Type 0
Reaches oids o j l = (l.depth ≤ j) × (first_index oids (take l.depth o) ≡ Some l.id)

reached : (oids : List (List ℕ)) (o : List ℕ) (j : ℕ) (l : Longest) → longest_up_to oids o j ≡ Some l → Reaches oids o j l
unfolding longest_up_to
reached oids o zero l e = grind (arith, common_steps)
reached oids o (suc j) l e = grind (arith, common_steps, reached oids o j l)

oid-at : (nodes : List Node) (i : ℕ) (n : Node) → slice_get nodes i ≡ Some n → slice_get (oids_of nodes) i ≡ Some n.oid
oid-at nodes i n e = slice_get-map (λ (m : Node). m.oid) nodes i ∙ rw e refl

-- if a node represents an identifier, it has this identifier
pub id_is : (nodes : List Node) (o : List ℕ) (n : Node) → IsNodeAt nodes o n → n.oid ≡ o
id_is nodes o n s =
    sym (get_or_from_slice_get (oids_of nodes) s.id n.oid [] (oid-at nodes s.id n s.there)) ∙ (index_found (oids_of nodes) o s.id s.first).1

-- `node` is a node of the tree, in the form that look-ups return, and its identifier is a prefix of `o`
pub record IsViewOf (t : Contents) (o : List ℕ) (node : NodeView) : Type 0 where
  pub id : ℕ
  pub n : Node
  pub there : slice_get t.nodes id ≡ Some n
  pub home : node.home ≡ home_name n.home
  pub label : node.label ≡ n.label
  pub depth : node.depth ≤ length o
  pub oid : n.oid ≡ take node.depth o

pub is_at : (t : Contents) (o : List ℕ) (node : NodeView) → option_and_then (view_of_longest t) (longest t.nodes o) ≡ Some node → IsViewOf t o node
is_at t o node e = by (longest t.nodes o) refl e
  where
    by : (r : Option Longest) → longest t.nodes o ≡ r → option_and_then (view_of_longest t) r ≡ Some node → IsViewOf t o node
    by None f e = cc
    by (Some l) f e =
        let r = reached (oids_of t.nodes) o (length o) l f in
        let at = index_found (oids_of t.nodes) (take l.depth o) l.id r.1 in
        let n = get_within t.nodes l.id (omega (arith, at.0, length-map t.nodes (λ (m : Node). m.oid))) in
        let seen : Some (view_from l.depth (slice_index_or t.indexes l.id None) n.0) ≡ Some node = rw n.1 at e in
        let is : view_from l.depth (slice_index_or t.indexes l.id None) n.0 ≡ node = cc in
        subst (λ node. IsViewOf t o node) is
        (record {
          id = l.id;
          n = n.0;
          there = n.1;
          home = refl;
          label = refl;
          depth = r.0;
          oid = id_is t.nodes (take l.depth o) n.0 (record { id = l.id; first = r.1; there = n.1 });
        })

root-refers_to : (ns : List Node) (k : ℕ) (n : Node) → slice_get roots k ≡ Some n
    → oid_of (roots ++ ns) (index_anywhere (roots ++ ns) n.label) ≡ Some n.oid
root-refers_to ns = root-case (λ n. oid_of (roots ++ ns) (index_anywhere (roots ++ ns) n.label) ≡ Some n.oid) refl refl refl

pub root-word : (k : ℕ) (n : Node) → slice_get roots k ≡ Some n → is_word n.label ≡ true
root-word = root-case (λ n. is_word n.label ≡ true) refl refl refl

root-home : (k : ℕ) (n : Node) → slice_get roots k ≡ Some n → n.home ≡ None
root-home = root-case (λ n. n.home ≡ None) refl refl refl

-- if a root has the label `x`, then its index `k` is the index of the same identifier in the list of all nodes, which begins with the roots
pub roots_first : (ns : List Node) (x : List ℕ) (k : ℕ) → Some k ≡ index_anywhere roots x
    → oid_of (roots ++ ns) (Some k) ≡ oid_of roots (index_anywhere roots x)
roots_first ns x (suc (suc (suc k))) e = grind (arith, common_steps, first)
roots_first ns x _ e = rw (← e) refl

-- a name has at most one identifier
abbrev pub OneMeaning : Type 0
OneMeaning = (modules : List Module) (a : QualifiedName) (o p : List ℕ) → Means modules a o → Means modules a p → o ≡ p

both-true : (a b : Bool) → (a && b) ≡ true → (a ≡ true) × (b ≡ true)
both-true a b e = grind (arith, common_steps)

in-its-module : (ms : List Module) (ns : List Node) (ws : List Warning) → OneMeaning → Loads ms ms ns ws → (k : ℕ) (n : Node)
    → slice_get (roots ++ ns) k ≡ Some n → (f : IsDefined ms n)
    → oid_of (roots ++ ns) (index_in_module (roots ++ ns) f.home.name.octets f.definition.label.octets) ≡ Some n.oid
in-its-module ms ns ws law l k n there f =
    let home = f.home.name.octets in
    let x = f.definition.label.octets in
    let passes : is_of f.home.name.octets f.definition.label.octets n ≡ true =
    rw (f.is, same_itself f.home.name.octets, same_itself f.definition.label.octets) refl in
    let first = passing (is_of home x) (roots ++ ns) k n there passes in
    let y = first.2.x in
    rw first.1 (oid-at (roots ++ ns) first.0 y first.2.at ∙ ap (λ o. Some o)
    (by y (root-or-definition ms ns ws first.0 y l first.2.at) first.2.passes))
  where
    by : (y : Node) → ((j : ℕ) × (slice_get roots j ≡ Some y)) ⊎ IsDefined ms y → is_of f.home.name.octets f.definition.label.octets y ≡ true → y.oid ≡ n.oid
    by y (inl r) t = let named = rw (root-home r.0 y r.1) at t in cc
    by y (inr g) t =
        let both = both-true (same_text g.home.name.octets f.home.name.octets) (same_text g.definition.label.octets f.definition.label.octets) (rw g.is at t) in
        let home : g.home.name.octets ≡ f.home.name.octets = same g.home.name.octets f.home.name.octets both.0 in
        let label : g.definition.label.octets ≡ f.definition.label.octets = same g.definition.label.octets f.definition.label.octets both.1 in
        let means = rw (home, label) at g.identifier.0 in
        law ms (record { home = f.home.name.octets; name = f.definition.label.octets }) y.oid n.oid means f.identifier.0

refers_to-by : (t : Contents) (ns : List Node) (ws : List Warning) → OneMeaning → t.nodes ≡ roots ++ ns → Loads t.modules t.modules ns ws → (k : ℕ) (n : Node)
    → slice_get (roots ++ ns) k ≡ Some n → ((j : ℕ) × (slice_get roots j ≡ Some n)) ⊎ IsDefined t.modules n
    → LabelRefersTo t (home_name n.home) n.label n.oid
unfolding oid_anywhere oid_in_module is_module_loaded
refers_to-by t ns ws law nodes l k n there (inl r) = rw (root-home r.0 n r.1, nodes) (root-refers_to ns r.0 n r.1)
refers_to-by t ns ws law nodes l k n there (inr f) = grind (arith, common_steps, in-its-module)

word-by : (t : Contents) (n : Node) → ((j : ℕ) × (slice_get roots j ≡ Some n)) ⊎ IsDefined t.modules n → is_word n.label ≡ true
word-by t n (inl r) = root-word r.0 n r.1
word-by t n (inr f) = rw f.is f.definition.label.lexical

refers_to-alike : (tree : Contents) (h i : Option (List ℕ)) (x y o p : List ℕ) → h ≡ i → x ≡ y → o ≡ p → LabelRefersTo tree h x o → LabelRefersTo tree i y p
refers_to-alike tree h i x y o p e f g refers_to = rw (sym e, sym f, sym g) refers_to

-- if the label of each node is a word, and a look-up of it returns the node's identifier, then names are sound
pub sound-from : (t : Contents)
    → ((k : ℕ) (n : Node) → slice_get t.nodes k ≡ Some n → (is_word n.label ≡ true) × LabelRefersTo t (home_name n.home) n.label n.oid)
    → IsSound t
unfolding nearest_node
sound-from t each = record {
  within = λ o node e. (is_at t o node e).depth;
  words = λ o node e. let s = is_at t o node e in rw s.label (each s.id s.n s.there).0;
  refers_to = λ o node e.
      let s = is_at t o node e in
      refers_to-alike t (home_name s.n.home) node.home s.n.label node.label s.n.oid (take node.depth o) (sym s.home) (sym s.label) s.oid
      (each s.id s.n s.there).1;
}

pub sound_by : (t : Contents) (ns : List Node) (ws : List Warning) → OneMeaning → t.nodes ≡ roots ++ ns → Loads t.modules t.modules ns ws
    → IsSound t
sound_by t ns ws law nodes l = sound-from t (λ k n e.
    let there = subst (λ (ns : List Node). slice_get ns k ≡ Some n) nodes e in
    let r = root-or-definition t.modules ns ws k n l there in
    (word-by t n r, refers_to-by t ns ws law nodes l k n there r))

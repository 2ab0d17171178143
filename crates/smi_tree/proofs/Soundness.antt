-- Each node of a tree is a root, or the node of a definition in the modules of the tree (`root_or_defined`).
use Rattle.std.proofs.Common.{arith, ◌≡◌, ℕ, zero, suc, ◌⊎◌, inl, inr, false, List, [], ◌∷◌, ◌++◌, length, Option, Some, None, is_some, refl, subst}
use Rattle.std.proofs.lemmas.Grind.{common_steps}
use Rattle.std.specs.List.{slice_get}
use Rattle.smi_names.specs.declared.chains.shared.Resolution.TheVariants as R
use Rattle.smi_text.specs.{trees.Lookup.identifier_value_of, declared.trees.tree.Def.Def, declared.trees.tree.Part.Part}
use Rattle.smi_text.specs.declared.trees.tree.Module.{Module}
use Rattle.smi_names.specs.{meaning.Meaning.module_named, declared.nodes.warning.Warning.Warning}
use Rattle.smi_names.specs.nodes.Nodes.{Node, node_of, roots, GivesNodesBy, Gathers, none, more, is_loaded, Contributes, left_out, loaded, Loads, none_yet}
use Rattle.smi_names.specs.nodes.Nodes.{node_of_root, then_module}
use Rattle.smi_tree.specs.{Defined.IsRoot, Defined.IsDefined, Tree.Contents, Tree.IsTree}
use Rattle.smi_tree.proofs.{SameTexts.same_itself, Lists.get_at_push, Lists.get_before_push}

in-either : {A : Type 0} (xs ys : List A) (k : ℕ) (x : A) → slice_get (xs ++ ys) k ≡ Some x → (slice_get xs k ≡ Some x) ⊎ ((j : ℕ) × (slice_get ys j ≡ Some x))
in-either [] ys k x e = inr (k, e)
in-either (y ∷ xs) ys k x e = grind (arith, common_steps, in-either xs ys)

returned : (ms : List Module) (m : Module) (d : Def) (id : ℕ) (v : Option (List Part)) (ns : List Node) (ws : List Warning) (k : ℕ) (n : Node)
    → module_named ms m.name.octets ≡ Some m → slice_get m.defs id ≡ Some d → GivesNodesBy ms m d v ns ws → slice_get ns k ≡ Some n → IsDefined ms n
returned ms m d id None ns ws k n first there g e = let at : slice_get [] k ≡ Some n = rw g.0 at e in cc
returned ms m d id (Some v) ns ws k n first there (R.Numbers o, comes, is, w) e =
    let one = rw is at e in
    let here : node_of m d o ≡ n = grind (arith, common_steps) in
    let P : Node → Type 0 = λ n. IsDefined ms n in
    subst P here (record { home = m; first = first; definition = d; id = id; there = there; is = refl; identifier = comes })
returned ms m d id (Some v) ns ws k n first there (_, comes, is, w) e = let at : slice_get [] k ≡ Some n = rw is at e in cc

-- if module `m` is the first of its name in `ms`, and `ds` is a prefix of its definitions, then each node in `ns`, gathered from `ds`, is the node of a
-- definition in `ms` (`IsDefined`)
gathered : (ms : List Module) (m : Module) (ds : List Def) (ns : List Node) (ws : List Warning) (k : ℕ) (n : Node)
    → module_named ms m.name.octets ≡ Some m → ((p : ℕ) (d : Def) → slice_get ds p ≡ Some d → slice_get m.defs p ≡ Some d)
    → Gathers ms m ds ns ws → slice_get ns k ≡ Some n → IsDefined ms n
gathered ms m _ _ _ k n first there none e = cc
gathered ms m _ _ _ k n first there (more ds d ns more_nodes ws more_warnings g gives) e = elim (in-either ns more_nodes k n e) [
  | inl f ↦ gathered ms m ds ns ws k n first (λ p x h. there p x (get_before_push ds d p x h)) g f
  | inr f ↦ returned ms m d (length ds) (identifier_value_of d.kind) more_nodes more_warnings f.0 n first (there (length ds) d (get_at_push ds d)) gives f.1
]

-- if `f` is the first of the modules `ms` that is named `x`, it stays the first when the module `m` is appended
named-more : (ms : List Module) (m : Module) (x : List ℕ) (f : Module) → module_named ms x ≡ Some f → module_named (ms ++ m ∷ []) x ≡ Some f
named-more [] m x f e = cc
named-more (y ∷ ms) m x f e = grind (arith, common_steps, named-more ms m x f)

named-last : (ms : List Module) (m : Module) → is_loaded ms m.name.octets ≡ false → module_named (ms ++ m ∷ []) m.name.octets ≡ Some m
named-last [] m e = rw (same_itself m.name.octets) refl
named-last (y ∷ ms) m e = grind (arith, common_steps, named-last ms m, is_some)

brought : (ms before : List Module) (m : Module) (ns : List Node) (ws : List Warning) (k : ℕ) (n : Node)
    → (is_loaded before m.name.octets ≡ false → module_named ms m.name.octets ≡ Some m) → Contributes ms before m ns ws → slice_get ns k ≡ Some n
    → IsDefined ms n
brought ms before m _ _ k n first (left_out d) e = cc
brought ms before m _ _ k n first (loaded ns ws new g) e = gathered ms m m.defs ns ws k n (first new) (λ p d h. h) g e

each-defined : (ms before : List Module) (ns : List Node) (ws : List Warning) (k : ℕ) (n : Node)
    → ((x : List ℕ) (m : Module) → module_named before x ≡ Some m → module_named ms x ≡ Some m) → Loads ms before ns ws → slice_get ns k ≡ Some n
    → IsDefined ms n
each-defined ms _ _ _ k n h none_yet e = cc
each-defined ms _ _ _ k n h (then_module before m ns more_nodes ws more_warnings l b) e = elim (in-either ns more_nodes k n e) [
  | inl f ↦ each-defined ms before ns ws k n (λ x y g. h x y (named-more before m x y g)) l f
  | inr f ↦ brought ms before m more_nodes more_warnings f.0 n (λ new. h m.name.octets m (named-last before m new)) b f.1
]

-- if something holds of the three roots, it holds of each node among them
pub root-case : (P : Node → Type 0) → P (node_of_root 0) → P (node_of_root 1) → P (node_of_root 2)
    → (k : ℕ) (n : Node) → slice_get roots k ≡ Some n → P n
root-case P c i j zero n e = let is : node_of_root 0 ≡ n = cc in subst P is c
root-case P c i j (suc zero) n e = let is : node_of_root 1 ≡ n = cc in subst P is i
root-case P c i j (suc (suc zero)) n e = let is : node_of_root 2 ≡ n = cc in subst P is j
root-case P c i j (suc (suc (suc k))) n e = cc

-- if a node is in a tree, it is a root, or the node of a definition
pub root-or-definition : (ms : List Module) (ns : List Node) (ws : List Warning) (k : ℕ) (n : Node) → Loads ms ms ns ws
    → slice_get (roots ++ ns) k ≡ Some n → ((j : ℕ) × (slice_get roots j ≡ Some n)) ⊎ IsDefined ms n
root-or-definition ms ns ws k n l e = grind (arith, common_steps, in-either, each-defined)

pub root_or_defined : (ms : List Module) (t : Contents) (ws : List Warning) (k : ℕ) (n : Node) → IsTree ms t ws → slice_get t.nodes k ≡ Some n
    → IsRoot n ⊎ IsDefined ms n
root_or_defined ms t ws k n is e =
    elim (root-or-definition ms is.ns ws k n is.loads (subst (λ (ns : List Node). slice_get ns k ≡ Some n) is.nodes e)) [
      | inl r ↦ inl (root-case IsRoot (0, omega arith, refl) (1, omega arith, refl) (2, omega arith, refl) r.0 n r.1)
      | inr d ↦ inr d
    ]

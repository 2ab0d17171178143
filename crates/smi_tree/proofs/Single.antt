-- Modules have at most one tree: one list of nodes, one of syntaxes, one of indexes and one of warnings.
use Rattle.std.proofs.Common.{◌≡◌, List, ◌++◌, Option, Some, None, slice_index_or, refl, sym, ap, ◌∙◌, arith}
use Rattle.std.proofs.lemmas.List.{ext_get_or}
use Rattle.smi_text.specs.declared.trees.tree.Module.{Module}
use Rattle.smi_names.specs.{nodes.Nodes.Node, nodes.Nodes.roots, nodes.Nodes.Loads, declared.nodes.warning.Warning.Warning}
use Rattle.smi_tree.specs.{types.Types.Facts, types.Types.object_in, Shown.IsSyntaxOf, Shown.AreSyntaxesOf, Tree.Contents, Tree.IsTree}
use Rattle.smi_tree.proofs.{TypesSingle.one_syntax, ColumnsSingle.same_indexes, Lists.get_within}

module _ (ms : List Module)
    (loading : (before : List Module) (ns es : List Node) (ws vs : List Warning) → Loads ms before ns ws → Loads ms before es vs → (ns ≡ es) × (ws ≡ vs)) where
  syntax_or_none : (n : Node) (r s : Option Facts) → IsSyntaxOf ms n r → IsSyntaxOf ms n s → r ≡ s
  syntax_or_none n None None a b = refl
  syntax_or_none n None (Some g) a b = absurd (a g b)
  syntax_or_none n (Some f) None a b = absurd (b f a)
  syntax_or_none n (Some f) (Some g) a b = ap (λ x. Some x) (one_syntax ms (object_in n.home n.definition) f g a b)

  same_syntaxes : (nodes : List Node) (fs gs : List (Option Facts)) → AreSyntaxesOf ms nodes fs → AreSyntaxesOf ms nodes gs → fs ≡ gs
  same_syntaxes nodes fs gs a b = ext_get_or None fs gs (a.long ∙ sym b.long) (λ k inside.
      let node = get_within nodes k (omega (arith, a.long)) in
      syntax_or_none node.0 (slice_index_or fs k None) (slice_index_or gs k None) (a.each k node.0 node.1) (b.each k node.0 node.1))

  pub one_tree : (t u : Contents) (ws vs : List Warning) → IsTree ms t ws → IsTree ms u vs → (t ≡ u) × (ws ≡ vs)
  one_tree t u ws vs a b =
      let load = loading ms a.ns b.ns ws vs a.loads b.loads in
      let modules : t.modules ≡ u.modules = a.passed ∙ sym b.passed in
      let nodes : t.nodes ≡ u.nodes = a.nodes ∙ ap (λ x. roots ++ x) load.0 ∙ sym b.nodes in
      let syntaxes = same_syntaxes u.nodes t.syntaxes u.syntaxes (rw nodes at a.syntaxes) b.syntaxes in
      let indexes = same_indexes ms u.nodes t.indexes u.indexes (rw nodes at a.indexes) b.indexes in
      let is : u ≡ record { modules = t.modules; nodes = t.nodes; syntaxes = t.syntaxes; indexes = t.indexes } =
      rw (modules, nodes, syntaxes, indexes) refl in
      (sym is, load.1)

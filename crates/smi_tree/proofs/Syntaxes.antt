-- The syntax that is stored for a node's source is the syntax of the node.
use Rattle.std.proofs.{lemmas.Grind.common_steps, lemmas.List.length-map, lemmas.List.get_or_past}
use Rattle.std.proofs.Common.{◌≡◌, ℕ, zero, suc, ◌≤◌, List, ◌∷◌, Option, Some, None, slice_index_or, length, refl, sym, ◌∙◌, arith}
use Rattle.std.specs.List.{slice_get}
use Rattle.smi_text.specs.declared.trees.tree.Module.{Module}
use Rattle.smi_names.specs.{nodes.Nodes.Node, declared.nodes.gather.Gathered.Gathered, declared.nodes.gather.Source.Source}
use Rattle.smi_names.specs.nodes.Gathered.{node_from, nodes_of, AreGathered}
use Rattle.smi_names.specs.nodes.Gathered as gathered
use Rattle.smi_names.specs.declared.nodes.gather.Source.TheVariants as S
use Rattle.smi_tree.specs.{types.Chain.no_type, types.Types.object_in, types.Types.object_origin, types.Kept.AreTypesOf}
use Rattle.smi_tree.specs.{declared.types.Types.Types, columns.Index.AreIndexesOf, Tree.IsTree, Kept.contents}
use Rattle.smi_tree.specs.Shown.{IsSyntaxOf, AreSyntaxesOf, syntax_from, syntaxes_from}
use Rattle.smi_tree.specs.declared.columns.index_part.IndexPart.{IndexPart}
use Rattle.smi_tree.proofs.{Sources.length_nodes, TypeChains.no_syntax}

same_object : (ms : List Module) (i k : ℕ) → object_in (slice_get ms i) (gathered.def_of_module (slice_get ms i) k) ≡ object_origin ms i k
same_object ms i k = grind (arith, common_steps)

module _ (ms : List Module) (t : Types) (right : AreTypesOf ms t) where
  of_source : (s : Source) (o : List ℕ) → IsSyntaxOf ms (node_from ms s o) (syntax_from ms t s)
  of_source (S.Root n) o = no_syntax ms no_type refl
  of_source (S.Definition i k) o = rw (same_object ms i k) (right i k)

  each_right : (ss : List Source) (os : List (List ℕ)) (k : ℕ) (n : Node) → slice_get (nodes_of ms ss os) k ≡ Some n
      → IsSyntaxOf ms n (slice_index_or (syntaxes_from ms t ss) k None)
  each_right (s ∷ ss) (o ∷ os) zero n e = let same : node_from ms s o ≡ n = cc in rw (sym same) (of_source s o)
  each_right (s ∷ ss) (o ∷ os) (suc k) n e = each_right ss os k n e
  each_right _ _ k n e = absurd (cc)

  pub syntaxes_right : (ss : List Source) (os : List (List ℕ)) → length ss ≡ length os → AreSyntaxesOf ms (nodes_of ms ss os) (syntaxes_from ms t ss)
  syntaxes_right ss os l = record { long = length-map ss (syntax_from ms t) ∙ sym (length_nodes ms ss os l); each = each_right ss os }

pub kept_none : (ms : List Module) (t : Types) (ss : List Source) (k : ℕ) → length ss ≤ k → slice_index_or (syntaxes_from ms t ss) k None ≡ None
kept_none ms t ss k past = get_or_past (syntaxes_from ms t ss) k None (rw (length-map ss (syntax_from ms t)) past)

-- if `g` has the nodes of the modules `ms`, and the stored syntaxes and `indexes` belong to these nodes, then together they are the tree of `ms`
pub is_tree : (ms : List Module) (g : Gathered) (t : Types) (os : List (List ℕ)) (indexes : List (Option (List IndexPart))) → AreGathered ms g ms
    → os ≡ g.oids.items → AreSyntaxesOf ms (nodes_of ms g.sources.items os) (syntaxes_from ms t g.sources.items)
    → AreIndexesOf ms (nodes_of ms g.sources.items os) indexes → IsTree ms (contents ms g.sources.items os t indexes) g.warnings.items
is_tree ms g t os indexes found same syntaxes indexed = grind (arith, common_steps)

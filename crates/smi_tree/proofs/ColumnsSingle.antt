-- A column has at most one index.
use Rattle.std.proofs.{lemmas.Grind.common_steps, lemmas.List.ext_get_or, lemmas.Option.slice_get_within}
use Rattle.std.proofs.Common.{◌≡◌, ℕ, Bool, List, Option, Some, None, refl, sym, ap, ◌∙◌, arith}
use Rattle.smi_tree.specs.{declared.columns.index_part.Extent.Extent, declared.columns.index_part.IndexPart.IndexPart}
use Rattle.smi_tree.specs.declared.columns.index_part.Extent.TheVariants.{Fixed, Counted, Implied}
use Rattle.smi_tree.specs.declared.columns.index_part.IndexPart.TheVariants as P
use Rattle.smi_text.specs.{declared.trees.tree.Module.Module, declared.trees.tree.Def.Def, declared.trees.tree.Range.Range}
use Rattle.smi_text.specs.{declared.trees.tree.IndexParts.IndexParts, declared.trees.tree.TokenText.TokenText}
use Rattle.smi_tree.specs.types.Types.{HasSyntax, origin_of_object}
use Rattle.smi_names.specs.{declared.meaning.base.TypeBase.TypeBase, nodes.Nodes.Node}
use Rattle.smi_names.specs.declared.meaning.base.TypeBase.TheVariants as T
use Rattle.smi_tree.specs.columns.Parts.{StatesBound, IsFixedBy, HasExtent, IsPartOf}
use Rattle.smi_tree.specs.columns.Index.{IsIndexPart, AreParts, IsIndexed, IsIndexOf, IsIndex, AreIndexesOf, index_at, is_implied}
use Rattle.smi_tree.proofs.{TypesSingle.one_syntax, Lists.get_within, Lists.same_items, Parts.defined_once, IndexesOfNodes.index_once}

-- a SIZE is fixed to at most one number
fixed_once : (sizes : Option (List Range)) (n m : ℕ) (a : (bound : TokenText) × IsFixedBy sizes bound × StatesBound bound n)
    (b : (bound : TokenText) × IsFixedBy sizes bound × StatesBound bound m) → n ≡ m
fixed_once sizes n m a b = grind (arith, common_steps)

extent_once : (sizes : Option (List Range)) (implied : Bool) (e f : Extent) → HasExtent sizes implied e → HasExtent sizes implied f → e ≡ f
extent_once sizes implied (Fixed n) (Fixed m) a b = ap (λ k. Fixed k) (fixed_once sizes n m a b)
extent_once sizes implied (Fixed n) Counted a b = absurd (b.0 a.0 a.1)
extent_once sizes implied (Fixed n) Implied a b = absurd (b.0 a.0 a.1)
extent_once sizes implied Counted (Fixed m) a b = absurd (a.0 b.0 b.1)
extent_once sizes implied Implied (Fixed m) a b = absurd (a.0 b.0 b.1)
extent_once sizes implied e f a b = grind (arith, common_steps)

part_once : (base : TypeBase) (sizes : Option (List Range)) (implied : Bool) (p q : IndexPart) → IsPartOf base sizes implied p → IsPartOf base sizes implied q
    → p ≡ q
part_once T.OctetString sizes implied p q a b = a.2 ∙ ap (λ e. P.Text e) (extent_once sizes implied a.0 b.0 a.1 b.1) ∙ sym b.2
part_once T.Bits sizes implied p q a b = a.2 ∙ ap (λ e. P.Octets e) (extent_once sizes implied a.0 b.0 a.1 b.1) ∙ sym b.2
part_once T.Opaque sizes implied p q a b = a.2 ∙ ap (λ e. P.Octets e) (extent_once sizes implied a.0 b.0 a.1 b.1) ∙ sym b.2
part_once T.Counter64 sizes implied p q a b = absurd a
part_once _ sizes implied p q a b = a ∙ sym b

module _ (ms : List Module) where
  same_part : (m : Module) (x : List ℕ) (implied : Bool) (p q : IndexPart) → IsIndexPart ms m x implied p → IsIndexPart ms m x implied q → p ≡ q
  same_part m x implied p q a b =
      let same = defined_once a.named b.named in
      let syntax : HasSyntax ms (origin_of_object b.home.name.octets b.object) a.facts = rw (same.0, same.1) at a.syntax in
      let facts = one_syntax ms (origin_of_object b.home.name.octets b.object) a.facts b.facts syntax b.syntax in
      part_once b.facts.base b.facts.sizes implied p q (rw facts at a.reads) b.reads

  same_parts : (m : Module) (clause : IndexParts) (ps qs : List IndexPart) → AreParts ms m clause ps → AreParts ms m clause qs → ps ≡ qs
  same_parts m clause ps qs a b = same_items ps qs (a.long ∙ sym b.long) (λ j p q here there.
      let inside = slice_get_within ps j p here in
      let name = get_within clause.names j (omega (arith, a.long)) in
      same_part m name.0.octets (is_implied clause j) p q (a.each j name.0 p name.1 here) (b.each j name.0 q name.1 there))

  same_indexed : (m : Module) (d : Def) (ps qs : List IndexPart) → IsIndexed ms m d ps → IsIndexed ms m d qs → ps ≡ qs
  same_indexed m d ps qs a b =
      let states = a.states in
      let also = b.states in
      let same : a.clause ≡ b.clause = cc in
      same_parts m b.clause ps qs (rw same at a.read) b.read

  same_index : (nodes : List Node) (column : Node) (ps qs : List IndexPart) → IsIndexOf ms nodes column ps → IsIndexOf ms nodes column qs → ps ≡ qs
  same_index nodes column ps qs a b =
      same_indexed b.index_module b.index_definition ps qs (index_once ms nodes column b.row b.row_module b.row_definition b.index_module
      b.index_definition ps b.of_row b.home b.defined b.uses a) b.indexed

-- each node has one index or none, so two lists of indexes of the same nodes are the same
module _ (ms : List Module) (nodes : List Node) where
  index_or_none : (node : Node) (r s : Option (List IndexPart)) → IsIndex ms nodes node r → IsIndex ms nodes node s → r ≡ s
  index_or_none node None None a b = refl
  index_or_none node None (Some qs) a b = absurd (a qs b)
  index_or_none node (Some ps) None a b = absurd (b ps a)
  index_or_none node (Some ps) (Some qs) a b = ap (λ x. Some x) (same_index ms nodes node ps qs a b)

  pub same_indexes : (is js : List (Option (List IndexPart))) → AreIndexesOf ms nodes is → AreIndexesOf ms nodes js → is ≡ js
  same_indexes is js a b = ext_get_or None is js (a.long ∙ sym b.long) (λ k inside.
      let node = get_within nodes k (omega (arith, a.long)) in
      index_or_none node.0 (index_at is k) (index_at js k) (a.each k node.0 node.1) (b.each k node.0 node.1))

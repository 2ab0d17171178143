-- The tree of no modules has only the three roots.
use Rattle.std.proofs.Common.{◌≡◌, ℕ, suc, List, [], ◌∷◌, slice_index_or, Option, Some, None, refl, arith}
use Rattle.std.proofs.lemmas.Grind.{common_steps}
use Rattle.std.specs.List.{slice_get}
use Rattle.smi_names.specs.nodes.Nodes.{Node, roots, none_yet}
use Rattle.smi_tree.specs.{types.Types.Facts, types.Chain.no_type, columns.Index.IsIndex, columns.Index.IsObjectType, Shown.IsSyntaxOf}
use Rattle.smi_tree.specs.{Tree.IsTree, Bare.bare, declared.columns.index_part.IndexPart.IndexPart}
use Rattle.smi_tree.proofs.{TypeChains.no_syntax, Soundness.root-case}

-- a list of three `None` has `None` at each index, so the roots have no syntax and no index
none-at : {A : Type 0} (k : ℕ) → slice_index_or {A = Option A} (None ∷ (None ∷ (None ∷ []))) k None ≡ None
none-at (suc (suc (suc k))) = refl
none-at _ = refl

root-syntax : (k : ℕ) (n : Node) → slice_get roots k ≡ Some n → IsSyntaxOf [] n None
root-syntax = root-case (λ n. IsSyntaxOf [] n None) (no_syntax [] no_type refl) (no_syntax [] no_type refl) (no_syntax [] no_type refl)

no_object : IsObjectType None → ⊥
no_object (d, o, e, k) = cc

root-index : (k : ℕ) (n : Node) → slice_get roots k ≡ Some n → IsIndex [] roots n None
root-index = grind (arith, common_steps, root-case, no_object)

-- `bare` is a tree of no modules, without warnings
pub is_bare : IsTree [] bare []
is_bare = record {
  passed = refl;
  ns = [];
  nodes = refl;
  loads = none_yet;
  syntaxes = record { long = refl; each = λ k n e. rw (none-at {A = Facts} k) (root-syntax k n e) };
  indexes = record { long = refl; each = λ k n e. rw (none-at {A = List IndexPart} k) (root-index k n e) };
}

-- Chains of types are chains of names.
use Rattle.std.proofs.{lemmas.Grind.common_steps, lemmas.Option.slice_get_cases}
use Rattle.std.proofs.Common.{◌≡◌, ℕ, ◌≤◌, List, length, Option, Some, None, refl, sym, ap, ◌∙◌, arith}
use Rattle.std.specs.{List.slice_get, Option.option_and_then, Option.option_map}
use Rattle.smi_names.specs.{chains.Chain.HasEnd, chains.Chain.ends, chains.Chain.refers_on, declared.meaning.base.TypeBase.TypeBase}
use Rattle.smi_text.specs.{declared.trees.tree.Module.Module, declared.trees.tree.SimpleType.SimpleType, declared.trees.tree.Base.Base}
use Rattle.smi_text.specs.declared.trees.tree.Base.TheVariants as B
use Rattle.smi_names.specs.meaning.Meaning.{QualifiedName, Decision, defined, imported, root}
use Rattle.smi_names.specs.meaning.Along.{next_by, decided, next_name}
use Rattle.smi_tree.specs.types.Chain.{Layer, TypeOrigin, at_base, on_name, no_type, TypeChain, at_end, on_type}
use Rattle.smi_tree.specs.types.Types.{base_in, name_in, name_in_base, layer, simple_in, type_syntax, type_hint, origin_of_base, origin_of_simple}
use Rattle.smi_tree.specs.types.Types.{type_origin, type_origin_by, HasNoSyntax}
use Rattle.smi_tree.specs.types.Kept.{refines}

pub past_get : {X : Type 0} (xs : List X) (i : ℕ) → slice_get xs i ≡ None → length xs ≤ i
past_get xs i e = grind (arith, slice_get_cases xs i)

-- if the origin isn't a type, there is no syntax
pub no_syntax : (ms : List Module) (o : TypeOrigin QualifiedName) → o ≡ no_type → HasNoSyntax ms o
no_syntax ms o e f h = grind (arith, common_steps)

-- the name of the type that a type refines, or `None` if it refines a base type or isn't a type of values
abbrev refined_name : TypeOrigin QualifiedName → Option QualifiedName
refined_name (at_base l b) = None
refined_name (on_name l a) = Some a
refined_name no_type = None

module _ (home : List ℕ) where
  of_base : (l : Layer) (b : Base) (t : Option TypeBase)
      → option_map (λ x. record { home = home; name = x }) (name_in_base b t) ≡ refined_name (origin_of_base home l b t)
  of_base l (B.Named x) None = refl
  of_base l (B.Named x) (Some t) = refl
  of_base l _ None = refl
  of_base l _ (Some t) = refl

  of_simple : (hint : Option (List ℕ)) (s : Option SimpleType)
      → option_map (λ x. record { home = home; name = x }) (option_and_then (λ t. name_in t.base) s) ≡ refined_name (origin_of_simple home hint s)
  of_simple hint None = refl
  of_simple hint (Some s) = of_base (layer hint s.refinement) s.base (base_in s.base)

module _ (ms : List Module) where
  pub by_decision : (a : QualifiedName) → type_origin ms a ≡ type_origin_by a (decided ms a)
  by_decision a = grind (arith, common_steps)

  next_is : (a : QualifiedName) → next_name ms refines a ≡ refined_name (type_origin ms a)
  next_is a = by (decided ms a) ∙ ap refined_name (sym (by_decision a))
    where
      by : (d : Option Decision) → next_by refines a d ≡ refined_name (type_origin_by a d)
      by None = refl
      by (Some (defined d)) = of_simple a.home (type_hint d.kind) (option_and_then simple_in (type_syntax d.kind))
      by (Some (imported i)) = refl
      by (Some (root n)) = refl

  pub has_end : {o : TypeOrigin QualifiedName} {layers : List Layer} {b : TypeBase} → TypeChain (type_origin ms) o layers b
      → (a : QualifiedName) → type_origin ms a ≡ o → HasEnd (next_name ms refines) a
  has_end at_end a e = ends (next_is a ∙ ap refined_name e)
  has_end (on_type {a = b} c) a e = refers_on (next_is a ∙ ap refined_name e) (has_end c b refl)

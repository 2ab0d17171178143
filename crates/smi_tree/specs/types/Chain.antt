-- Chains of types: a type refines a base type, or a named type, which itself refines a type (RFC
-- 2578, section 9; RFC 2579).
use Rattle.std.specs.Prelude.{ℕ, List, [], ◌∷◌, Option, None}
use Rattle.smi_text.specs.declared.trees.tree.NamedNumber.{NamedNumber}
use Rattle.smi_text.specs.declared.trees.tree.Range.{Range}
use Rattle.smi_names.specs.{meaning.Meaning.or_else, declared.meaning.base.TypeBase.TypeBase}

-- what one type of a chain defines itself: a display hint, as the string in quotes, the named
-- numbers or bits, and the SIZE
pub record Layer : Type 0 where
  pub hint : Option (List ℕ)
  pub names : Option (List NamedNumber)
  pub sizes : Option (List Range)

-- the origin of a type: the base type that it refines, or the name of the type that it refines,
-- each with what the type defines itself; `no_type` if it isn't a type of values. A name is an `A`.
pub data TypeOrigin (A : Type 0) : Type 0 where
  at_base : Layer → TypeBase → TypeOrigin A
  on_name : Layer → A → TypeOrigin A
  no_type : TypeOrigin A

-- `TypeChain origin o layers b`: the chain of types from `o` ends at the base type `b`, and each
-- item of `layers` is what a type on the chain defines itself, from the first to the last. This is
-- the least relation with these two rules.
pub data TypeChain {A : Type 0} (origin : A → TypeOrigin A) : TypeOrigin A → List Layer → TypeBase
    → Type 0 where
  at_end : {l : Layer} {b : TypeBase} → TypeChain origin (at_base l b) (l ∷ []) b
  on_type : {l : Layer} {a : A} {layers : List Layer} {b : TypeBase}
      → TypeChain origin (origin a) layers b → TypeChain origin (on_name l a) (l ∷ layers) b

-- the value of `field` for the first type on the chain that has one; `None` if no type has one
abbrev pub nearest : {X : Type 0} → (Layer → Option X) → List Layer → Option X
nearest field [] = None
nearest field (l ∷ layers) = or_else (field l) (nearest field layers)

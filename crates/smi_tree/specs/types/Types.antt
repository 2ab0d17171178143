-- The types of modules, and the syntax of objects (RFC 2578, sections 7.1 and 9; RFC 2579, section
-- 3).
use Rattle.std.specs.Prelude.{◌≡◌, ℕ, List, Option, Some, None}
use Rattle.std.specs.{List.slice_get, Option.option_and_then}
use Rattle.smi_text.specs.{declared.trees.tree.Module.Module, declared.trees.tree.Def.Def}
use Rattle.smi_text.specs.{declared.trees.tree.DefKind.DefKind, declared.trees.tree.Syntax.Syntax}
use Rattle.smi_text.specs.{declared.trees.tree.Base.Base, declared.trees.tree.Range.Range}
use Rattle.smi_text.specs.declared.trees.tree.DefKind.TheVariants as D
use Rattle.smi_text.specs.declared.trees.tree.Syntax.TheVariants as S
use Rattle.smi_text.specs.declared.trees.tree.SimpleType.{SimpleType}
use Rattle.smi_text.specs.declared.trees.tree.Base.TheVariants as B
use Rattle.smi_text.specs.declared.trees.tree.Refinement.{Refinement}
use Rattle.smi_text.specs.declared.trees.tree.Refinement.TheVariants as R
use Rattle.smi_text.specs.declared.trees.tree.NamedNumber.{NamedNumber}
use Rattle.smi_names.specs.meaning.Meaning.{QualifiedName, Decision, defined, imported, root}
use Rattle.smi_names.specs.meaning.Meaning.{decision, module_named}
use Rattle.smi_names.specs.{declared.meaning.base.TypeBase.TypeBase, meaning.Base.base_named}
use Rattle.smi_names.specs.declared.meaning.base.TypeBase.TheVariants as T
use Rattle.smi_tree.specs.types.Chain.{Layer, TypeOrigin, at_base, on_name, no_type, TypeChain}
use Rattle.smi_tree.specs.types.Chain.{nearest}

abbrev pub names_in : Option Refinement → Option (List NamedNumber)
names_in None = None
names_in (Some (R.Numbers names)) = Some names
names_in (Some (R.Values ranges)) = None
names_in (Some (R.Size ranges)) = None

abbrev pub sizes_in : Option Refinement → Option (List Range)
sizes_in None = None
sizes_in (Some (R.Numbers names)) = None
sizes_in (Some (R.Values ranges)) = None
sizes_in (Some (R.Size ranges)) = Some ranges

-- what a type with this display hint and this refinement defines itself
abbrev pub layer : Option (List ℕ) → Option Refinement → Layer
layer hint refinement =
    record { hint = hint; names = names_in refinement; sizes = sizes_in refinement }

-- the base type that a type refines, by keywords or by name; `None` if it refines another type
abbrev pub base_in : Base → Option TypeBase
base_in B.Integer = Some T.Integer
base_in B.OctetString = Some T.OctetString
base_in B.ObjectIdentifier = Some T.ObjectIdentifier
base_in B.Bits = Some T.Bits
base_in (B.Named x) = base_named x.octets

-- the origin of a type in the module named `home`, which refines `base` and defines `l` itself; the
-- last argument is the base type that `base` is, or `None` if it isn't one
abbrev pub origin_of_base : List ℕ → Layer → Base → Option TypeBase → TypeOrigin QualifiedName
origin_of_base home l base (Some b) = at_base l b
origin_of_base home l (B.Named x) None = on_name l (record { home = home; name = x.octets })
origin_of_base home l _ None = no_type

-- the syntax unless it is a SEQUENCE OF, which isn't a type of values
abbrev pub simple_in : Syntax → Option SimpleType
simple_in (S.SequenceOf x) = None
simple_in (S.Simple s) = Some s

abbrev pub origin_of_simple : List ℕ → Option (List ℕ) → Option SimpleType
    → TypeOrigin QualifiedName
origin_of_simple home hint None = no_type
origin_of_simple home hint (Some s) =
    origin_of_base home (layer hint s.refinement) s.base (base_in s.base)

-- the origin of a type with this syntax in the module `home`, and with the display hint of its
-- textual convention
abbrev pub origin_of_syntax : List ℕ → Option (List ℕ) → Option Syntax → TypeOrigin QualifiedName
origin_of_syntax home hint syntax =
    origin_of_simple home hint (option_and_then simple_in syntax)

-- the syntax of a textual convention or an assigned type; `None` for any other definition, also for
-- a SEQUENCE or a CHOICE, which aren't types of values
abbrev pub type_syntax : DefKind → Option Syntax
type_syntax (D.TextualConvention d) = Some d.syntax
type_syntax (D.TypeAssignment d) = Some d.syntax
type_syntax _ = None

-- the display hint of a textual convention
abbrev pub type_hint : DefKind → Option (List ℕ)
type_hint (D.TextualConvention d) = d.display_hint
type_hint _ = None

-- what an import defines itself: nothing
abbrev pub no_layer : Layer
no_layer = record { hint = None; names = None; sizes = None }

-- the origin of the type named `a`, by what decides this name in its module: a definition or, if
-- it is imported, the same name in the module after FROM; `no_type` if a root decides it, or
-- nothing does
abbrev pub type_origin_by : QualifiedName → Option Decision → TypeOrigin QualifiedName
type_origin_by a None = no_type
type_origin_by a (Some (defined d)) =
    origin_of_syntax a.home (type_hint d.kind) (type_syntax d.kind)
type_origin_by a (Some (imported i)) = on_name no_layer
    (record { home = i.source.octets; name = a.name })
type_origin_by a (Some (root n)) = no_type

-- the origin of the type named `a`, which is looked up in the module; `no_type` without a module
abbrev pub type_origin_in : QualifiedName → Option Module → TypeOrigin QualifiedName
type_origin_in a None = no_type
type_origin_in a (Some m) = type_origin_by a (decision m a.name)

abbrev pub type_origin : List Module → QualifiedName → TypeOrigin QualifiedName
type_origin ms a = type_origin_in a (module_named ms a.home)

-- the SYNTAX of an OBJECT-TYPE; any other definition has none
abbrev pub object_syntax : DefKind → Option Syntax
object_syntax (D.ObjectType d) = Some d.syntax
object_syntax _ = None

-- the origin of the type of an object's values
abbrev pub origin_of_object : List ℕ → Def → TypeOrigin QualifiedName
origin_of_object home d = origin_of_syntax home None (object_syntax d.kind)

abbrev pub object_in : Option Module → Option Def → TypeOrigin QualifiedName
object_in None d = no_type
object_in (Some m) None = no_type
object_in (Some m) (Some d) = origin_of_object m.name.octets d

-- definition `k` of module `i`
abbrev pub def_at : List Module → ℕ → ℕ → Option Def
def_at ms i k = option_and_then (λ m. slice_get m.defs k) (slice_get ms i)

-- the origin of the type of definition `k` of module `i`, if it is an object
abbrev pub object_origin : List Module → ℕ → ℕ → TypeOrigin QualifiedName
object_origin ms i k = object_in (slice_get ms i) (def_at ms i k)

-- a syntax: the base type at the end of the chain of types, and the first hint, names and SIZE on
-- the chain
pub record Facts : Type 0 where
  pub base : TypeBase
  pub hint : Option (List ℕ)
  pub names : Option (List NamedNumber)
  pub sizes : Option (List Range)

-- the chain of types from `origin` ends at the base type in `facts`, and the hint, names and SIZE
-- in `facts` are the first ones on the chain
pub record HasSyntax (ms : List Module) (origin : TypeOrigin QualifiedName) (facts : Facts)
    : Type 0 where
  pub layers : List Layer
  pub chain : TypeChain (type_origin ms) origin layers facts.base
  pub hint : facts.hint ≡ nearest (λ l. l.hint) layers
  pub names : facts.names ≡ nearest (λ l. l.names) layers
  pub sizes : facts.sizes ≡ nearest (λ l. l.sizes) layers

-- no chain of types from `origin` ends at a base type
abbrev pub HasNoSyntax : List Module → TypeOrigin QualifiedName → Type 0
HasNoSyntax ms origin = (facts : Facts) → HasSyntax ms origin facts → ⊥

-- ---- for private functions

-- the name of the type that a type refines, unless it is a base type
abbrev pub name_in_base : Base → Option TypeBase → Option (List ℕ)
name_in_base (B.Named x) None = Some x.octets
name_in_base _ _ = None

abbrev pub name_in : Base → Option (List ℕ)
name_in base = name_in_base base (base_in base)

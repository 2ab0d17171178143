-- What is stored of the types of modules, and the syntaxes that it represents.
use Rattle.std.specs.Prelude.{ℕ, Bool, List, is_some, MatchOption, Option, Some, None, option_map}
use Rattle.std.specs.Prelude.{if◌then◌else◌, Vec}
use Rattle.std.specs.{Global.Global, List.slice_get, Option.option_and_then, Option.option_copied}
use Rattle.smi_text.specs.{declared.trees.tree.Module.Module, declared.trees.tree.Def.Def}
use Rattle.smi_text.specs.{declared.trees.tree.DefKind.DefKind, declared.trees.tree.Range.Range}
use Rattle.smi_text.specs.declared.trees.tree.SimpleType.{SimpleType}
use Rattle.smi_text.specs.declared.trees.tree.NamedNumber.{NamedNumber}
use Rattle.smi_names.specs.meaning.Meaning.{QualifiedName, or_else}
use Rattle.smi_names.specs.{meaning.Scopes.KnownNames, chains.Order.option_at}
use Rattle.smi_names.specs.{meaning.Along.AreMeant}
use Rattle.smi_tree.specs.{Pairwise.ArePairwise, types.Chain.TypeOrigin}
use Rattle.smi_tree.specs.types.Types.{base_in, name_in, names_in, sizes_in, simple_in, type_hint}
use Rattle.smi_tree.specs.types.Types.{type_syntax, object_syntax, origin_of_object, object_origin}
use Rattle.smi_tree.specs.types.Types.{def_at, Facts, HasSyntax, HasNoSyntax}
use Rattle.smi_names.specs.declared.meaning.base.TypeBase.{TypeBase}
use Rattle.smi_tree.specs.declared.syntax.TypeSyntax.{TypeSyntax}
use Rattle.smi_tree.specs.declared.types.KeptSyntax.{KeptSyntax}
use Rattle.smi_tree.specs.declared.types.Types.{Types}

-- a syntax that the code returns, as a value
abbrev pub facts_of : TypeSyntax → Facts
facts_of s = record {
  base = s.base;
  hint = option_copied s.hint;
  names = option_copied s.names;
  sizes = option_copied s.sizes;
}

-- the syntax in the definition of a type or an object, unless it is a SEQUENCE OF
abbrev pub type_in : DefKind → Option SimpleType
type_in kind = or_else (option_and_then simple_in (type_syntax kind))
    (option_and_then simple_in (object_syntax kind))

abbrev pub names_of : Def → Option (List NamedNumber)
names_of d = option_and_then (λ s. names_in s.refinement) (type_in d.kind)

abbrev pub sizes_of : Def → Option (List Range)
sizes_of d = option_and_then (λ s. sizes_in s.refinement) (type_in d.kind)

-- the definition at `at`, which has the index of a module and the index of a definition in it, if
-- there is one
abbrev pub def_of : List Module → Option (ℕ × ℕ) → Option Def
def_of ms at = option_and_then (λ p. def_at ms p.0 p.1) at

abbrev pub facts_at : List Module → KeptSyntax → Facts
facts_at ms s = record {
  base = s.base;
  hint = option_and_then (λ d. type_hint d.kind) (def_of ms s.hint);
  names = option_and_then names_of (def_of ms s.names);
  sizes = option_and_then sizes_of (def_of ms s.sizes);
}

-- the stored syntax of definition `k` of module `i`
abbrev pub kept_syntax : List Module → Types → ℕ → ℕ → Option Facts
kept_syntax ms t i k = option_map (facts_at ms)
    (option_and_then (λ kept. option_at kept.items k) (slice_get t.objects.items i))

-- `facts` is the syntax of a type with the origin `o`, or `None` if this type has no syntax
abbrev pub IsSyntax : List Module → TypeOrigin QualifiedName → Option Facts → Type 0
IsSyntax ms o facts = MatchOption facts (HasNoSyntax ms o) (λ f. HasSyntax ms o f)

-- the syntax that is stored for each definition is the syntax of the object that it defines; none
-- is stored if it defines no object with a syntax
abbrev pub AreTypesOf : List Module → Types → Type 0
AreTypesOf ms t = (i k : ℕ) → IsSyntax ms (object_origin ms i k) (kept_syntax ms t i k)

-- ---- for private functions

abbrev pub IsKept : List Module → TypeOrigin QualifiedName → Option KeptSyntax → Type 0
IsKept ms o kept = IsSyntax ms o (option_map (facts_at ms) kept)

-- the syntax of the base type, if there is one, otherwise `far`, the syntax of the refined type
abbrev pub base_or : Option TypeBase → Option KeptSyntax → Option KeptSyntax
base_or None far = far
base_or (Some b) far = Some (record { base = b; hint = None; names = None; sizes = None })

-- the syntax of the type `s` in the definition at `at`; `hint` says whether this definition has a
-- display hint, and `far` is the syntax of the type that `s` refines, unless that is a base type
abbrev pub refined_by : ℕ × ℕ → Bool → SimpleType → Option KeptSyntax → Option KeptSyntax
refined_by at hint s far = option_map (λ f. record {
  base = f.base;
  hint = if hint then Some at else f.hint;
  names = if is_some (names_in s.refinement) then Some at else f.names;
  sizes = if is_some (sizes_in s.refinement) then Some at else f.sizes;
}) (base_or (base_in s.base) far)

-- the name of the type that the type defined by `d` refines; `None` if that is a base type, or if
-- `d` doesn't define a type of values
abbrev pub refines : Def → Option (List ℕ)
refines d = option_and_then (λ s. name_in s.base)
    (option_and_then simple_in (type_syntax d.kind))

-- the syntax of the type that `d` defines; `at` has the indices of `d`, and `far` is the syntax of
-- the type that this type refines, unless that is a base type
abbrev pub type_at : ℕ × ℕ → Def → Option KeptSyntax → Option KeptSyntax
type_at at d far = option_and_then (λ s. refined_by at (is_some (type_hint d.kind)) s far)
    (option_and_then simple_in (type_syntax d.kind))

-- `types` has at the index of each name the syntax of the type of that name, if there is one
abbrev pub AreFollowed : KnownNames → List (Option KeptSyntax) → Type 0
AreFollowed k types = AreMeant k refines type_at types

-- `kept` has for each definition of module `m` the syntax of the object that it defines, if it
-- defines an object that has one
abbrev pub AreKeptOf : List Module → Module → List (Option KeptSyntax) → Type 0
AreKeptOf ms m kept =
    ArePairwise (λ k d syntax. IsKept ms (origin_of_object m.name.octets d) syntax) m.defs kept

-- `objects` has, for each module, the list of the syntaxes of its objects, as `AreKeptOf` says
abbrev pub AreKeptOfAll : List Module → List (Vec (Option KeptSyntax) Global) → Type 0
AreKeptOfAll ms objects = ArePairwise (λ i m kept. AreKeptOf ms m kept.items) ms objects

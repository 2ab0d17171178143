-- A scope is the map of one module, from each name that has a meaning in it to the index of the
-- name's entry.
use Rattle.std.specs.Prelude.{◌≡◌, ℕ, ◌<◌, List, ◌++◌, length, Option, Some, option_map, All}
use Rattle.std.specs.{List.slice_get, Option.option_and_then, Str.bytes_eq}
use Rattle.indexmap.specs.IndexMap.{IndexMap, get, hasher_of}
use Rattle.smi_text.specs.{declared.trees.tree.Module.Module, declared.trees.tree.Def.Def}
use Rattle.smi_names.specs.{declared.hash.NameHash.NameHash, declared.meaning.entry.Entry.Entry}
use Rattle.smi_names.specs.meaning.Meaning.{QualifiedName, Decision, defined, imported, root}
use Rattle.smi_names.specs.meaning.Meaning.{or_else, decision, module_named}
use Rattle.smi_names.specs.declared.meaning.entry.Decider.{Decider}
use Rattle.smi_names.specs.declared.meaning.entry.Decider.TheVariants as D

-- a map from names to indices
abbrev pub NameIndices : Type 0
NameIndices = IndexMap (List ℕ) ℕ NameHash

-- the index of a name in a map, if the map has the name
abbrev pub index_in : NameIndices → List ℕ → Option ℕ
index_in scope x = get bytes_eq scope x

-- what a `Decider` of the code says: a definition, an import, or the list of roots decides a name
abbrev pub decision_of : Decider → Decision
decision_of (D.Definition d) = defined d.now
decision_of (D.Import i) = imported i.now
decision_of (D.Root n) = root n

-- the value of an entry: in the module `home`, `decided` decides the meaning of `name`
pub record Content : Type 0 where
  pub home : Module
  pub name : List ℕ
  pub decided : Decision

-- what an `Entry` of the code says: its module, its name, and what decides the name
abbrev pub content_of : Entry → Content
content_of e = record { home = e.«module».now; name = e.name.now; decided = decision_of e.decider }

-- the name of an entry, with its module
abbrev pub qualified : Content → QualifiedName
qualified c = record { home = c.home.name.octets; name = c.name }

-- the entry that a scope has for the name `x`, if it has one
abbrev pub known : List Entry → NameIndices → List ℕ → Option Content
known entries scope x =
    option_and_then (λ p. option_map content_of (slice_get entries p)) (index_in scope x)

abbrev pub decided_as : Module → List ℕ → Option Decision → Option Content
decided_as m x d = option_map (λ v. record { home = m; name = x; decided = v }) d

abbrev pub IsWithin : List Entry → NameIndices → Type 0
IsWithin entries scope = (x : List ℕ) (p : ℕ) → index_in scope x ≡ Some p → p < length entries

-- if a definition decides the name of entry `e`, then that definition is at index `e.source.1` of
-- the definitions of the entry's module
abbrev pub IsDefinedAt : Entry → Type 0
IsDefinedAt e = (d : Def) → decision_of e.decider ≡ defined d
    → slice_get e.«module».now.defs e.source.1 ≡ Some d

-- the decider of entry `e` is what decides the meaning of the entry's name in the entry's module
abbrev pub IsDecided : Entry → Type 0
IsDecided e = decision e.«module».now e.name.now ≡ Some (decision_of e.decider)

-- the loaded modules, and the names that have a meaning in them, by their indices
pub record KnownNames : Type 0 where
  pub modules : List Module
  pub names : List Content

-- the entry of the name `a`, if `a` has a meaning
abbrev pub content_named : List Module → QualifiedName → Option Content
content_named ms a =
    option_and_then (λ m. decided_as m a.name (decision m a.name)) (module_named ms a.home)

-- ---- for private functions

-- entry `e` belongs to module `m`, which has the index `i`; if a definition decides the entry's
-- name, then that definition is at index `e.source.1` of the definitions of `m`
abbrev pub IsEntryOf : Module → ℕ → Entry → Type 0
IsEntryOf m i e = (e.«module».now ≡ m) × (e.source.0 ≡ i) × IsDefinedAt e

-- a name `x` has in `scope` the entry that it has in `before` or, if it has none there, an entry
-- that `more x` decides, if that isn't `None`; `new` is `old` with entries of module `m`, at index
-- `i`, appended, and `scope` has each of them for its name; `scope` hashes names as `before` does
pub record KnowsMore (old : List Entry) (before : NameIndices) (new : List Entry)
    (scope : NameIndices) (m : Module) (i : ℕ) (more : List ℕ
    → Option Decision) : Type 0 where
  pub knows : (x : List ℕ)
      → known new scope x ≡ or_else (known old before x) (decided_as m x (more x))
  pub added : List Entry
  pub grown : new ≡ old ++ added
  pub of : All (IsEntryOf m i) added
  pub there : All (λ e. known new scope e.name.now ≡ Some (content_of e)) added
  pub within : IsWithin new scope
  pub hashed : hasher_of scope ≡ hasher_of before

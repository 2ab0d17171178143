-- What names mean along chains: an import refers to the same name in the module after FROM, and a
-- definition can refer to a name in its own module (RFC 2578, sections 3.1 and 3.2).
use Rattle.std.specs.Prelude.{◌≡◌, ◌⊎◌, ℕ, List, length, MatchOption, Option, Some, None}
use Rattle.std.specs.Prelude.{option_map}
use Rattle.std.specs.{List.slice_get, Option.option_and_then}
use Rattle.smi_text.specs.{declared.trees.tree.Module.Module, declared.trees.tree.Def.Def}
use Rattle.smi_text.specs.declared.trees.tree.Import.{Import}
use Rattle.smi_names.specs.{chains.Chain.HasEnd, chains.Order.next_at, chains.Order.option_at}
use Rattle.smi_names.specs.meaning.Meaning.{QualifiedName, Decision, defined, imported, root}
use Rattle.smi_names.specs.meaning.Meaning.{decision, module_named}
use Rattle.smi_names.specs.meaning.Scopes.{KnownNames, content_named}

-- the name that the name `a` refers to, if any, by what decides the meaning of `a`; a definition
-- refers to the name in its own module that `refers_to` returns
abbrev pub next_by : (Def → Option (List ℕ)) → QualifiedName → Option Decision
    → Option QualifiedName
next_by refers_to a None = None
next_by refers_to a (Some (defined d)) =
    option_map (λ x. record { home = a.home; name = x }) (refers_to d)
next_by refers_to a (Some (imported i)) = Some (record { home = i.source.octets; name = a.name })
next_by refers_to a (Some (root n)) = None

-- what decides the meaning of the name `a`, if it has one
abbrev pub decided : List Module → QualifiedName → Option Decision
decided ms a = option_and_then (λ m. decision m a.name) (module_named ms a.home)

abbrev pub next_name : List Module → (Def → Option (List ℕ)) → QualifiedName → Option QualifiedName
next_name ms refers_to a = next_by refers_to a (decided ms a)

-- definition `d` decides the name `a`, and has the index `k` in the module at index `i`
pub record IsOwn (ms : List Module) (a : QualifiedName) (i k : ℕ) (d : Def) : Type 0 where
  pub home : Module
  pub named : module_named ms a.home ≡ Some home
  pub decides : decision home a.name ≡ Some (defined d)
  pub at_module : slice_get ms i ≡ Some home
  pub there : slice_get home.defs k ≡ Some d

-- `Comes ms refers_to means a x`: the name `a` means `x`. This is the least relation with these
-- five rules. `means` returns what a definition means, from the meaning of the name that the
-- definition refers to.
pub data Comes {X : Type 0} (ms : List Module) (refers_to : Def → Option (List ℕ))
    (means : ℕ × ℕ → Def → Option X → Option X) : QualifiedName → Option X → Type 0 where
  -- a name that nothing decides, or of a module that isn't loaded, means nothing
  unknown : {a : QualifiedName} → decided ms a ≡ None → Comes ms refers_to means a None
  -- a root means nothing
  of_root : {a : QualifiedName} {n : ℕ} → decided ms a ≡ Some (root n)
      → Comes ms refers_to means a None
  -- an import means what the same name means in the module after FROM
  through : {a : QualifiedName} {m : Module} {i : Import} {x : Option X}
      → module_named ms a.home ≡ Some m → decision m a.name ≡ Some (imported i)
      → Comes ms refers_to means (record { home = i.source.octets; name = a.name }) x
      → Comes ms refers_to means a x
  -- if the definition of a name refers to no name, the name means what `means` returns for the
  -- definition and `None`
  at_end : {a : QualifiedName} {i k : ℕ} {d : Def} {x : Option X} → IsOwn ms a i k d
      → refers_to d ≡ None → x ≡ means (i, k) d None → Comes ms refers_to means a x
  -- if the definition of a name refers to the name `y` in its own module, which may be imported
  -- there, the name means what `means` returns for the definition and the meaning of `y`
  after : {a : QualifiedName} {i k : ℕ} {d : Def} {y : List ℕ} {far x : Option X}
      → IsOwn ms a i k d → refers_to d ≡ Some y
      → Comes ms refers_to means (record { home = a.home; name = y }) far
      → x ≡ means (i, k) d far → Comes ms refers_to means a x

-- the name `a` means `x`; if its chain has no end, as in a ring of imports, `x` is `None`
abbrev pub IsMeant : {X : Type 0} → List Module → (Def → Option (List ℕ))
    → (ℕ × ℕ → Def → Option X → Option X) → QualifiedName → Option X → Type 0
IsMeant ms refers_to means a x =
    Comes ms refers_to means a x ⊎ ((HasEnd (next_name ms refers_to) a → ⊥) × (x ≡ None))

-- `found` has at the index of each name what the name means, if the name's module is the first of
-- the modules with the same module name
abbrev pub AreMeant : {X : Type 0} → KnownNames → (Def → Option (List ℕ))
    → (ℕ × ℕ → Def → Option X → Option X) → List (Option X) → Type 0
AreMeant k refers_to means found =
    (p : ℕ) (a : QualifiedName) → slice_get k.names p ≡ content_named k.modules a
    → IsMeant k.modules refers_to means a (option_at found p)

-- no definition refers to a name; this belongs to `source_as_meaning`, by which a definition means
-- two indices: the index of its module, and its own index in the module
abbrev pub refers_to_nothing : Def → Option (List ℕ)
refers_to_nothing d = None

abbrev pub source_as_meaning : ℕ × ℕ → Def → Option (ℕ × ℕ) → Option (ℕ × ℕ)
source_as_meaning at d far = Some at

-- ---- for private functions

-- The name at index `p` refers to the name at index `to`, or to no name if `to` is `None`. An
-- index past the end represents every name without a meaning.
abbrev pub IsNext : KnownNames → (Def → Option (List ℕ)) → ℕ → Option ℕ → Type 0
IsNext k refers_to p to =
    (a : QualifiedName) → slice_get k.names p ≡ content_named k.modules a
    → MatchOption to (next_name k.modules refers_to a ≡ None)
    (λ q. (b : QualifiedName) × (next_name k.modules refers_to a ≡ Some b)
    × (slice_get k.names q ≡ content_named k.modules b))

-- `next` has for each name the index of the name that it refers to, if it refers to one; the index
-- is past the end if the other name has no meaning
pub record AreNext (k : KnownNames) (refers_to : Def → Option (List ℕ))
    (next : List (Option ℕ)) : Type 0 where
  pub long : length next ≡ length k.names
  pub each : (p : ℕ) → IsNext k refers_to p (next_at next p)

-- the name at index `p` means `x`; if `p` is past the end, each name without a meaning means `x`
abbrev pub MeansAt : {X : Type 0} → KnownNames → (Def → Option (List ℕ))
    → (ℕ × ℕ → Def → Option X → Option X) → ℕ → Option X → Type 0
MeansAt k refers_to means p x =
    (a : QualifiedName) → slice_get k.names p ≡ content_named k.modules a
    → Comes k.modules refers_to means a x

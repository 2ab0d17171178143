-- What names resolve to, by their indices.
use Rattle.std.specs.Prelude.{◌≡◌, ℕ, List, [], length, Option, Some, None, option_map}
use Rattle.std.specs.List.{slice_get}
use Rattle.smi_text.specs.{declared.trees.tree.Def.Def, trees.Lookup.identifier_value_of}
use Rattle.smi_names.specs.chains.Chain.{Origin, next_of, nowhere}
use Rattle.smi_names.specs.{chains.Resolution.ComesTo, chains.Resolution.resolution_at}
use Rattle.smi_names.specs.declared.chains.shared.Resolution.{Resolution}
use Rattle.smi_names.specs.meaning.Meaning.{QualifiedName, origin, origin_by, origin_of_value}
use Rattle.smi_names.specs.meaning.Scopes.{Content, qualified, KnownNames, content_named}

-- The name without a number that a definition's identifier value begins with, if it begins with
-- one and each part after it has a number. The module is passed as `[]`, since only the name is
-- taken from the origin.
abbrev pub parent_of : Def → Option (List ℕ)
parent_of d = option_map (λ a. a.name) (next_of (origin_of_value [] (identifier_value_of d.kind)))

-- `rs` has at the index of each name what the name resolves to, if the name's module is the first
-- of the modules with the same module name
pub record AreResolved (k : KnownNames) (rs : List Resolution) : Type 0 where
  pub long : length rs ≡ length k.names
  pub each : (p : ℕ) (a : QualifiedName) → slice_get k.names p ≡ content_named k.modules a
      → ComesTo (origin k.modules) a (resolution_at rs p)

-- ---- for private functions

-- the origin of the name of an entry; `nowhere` without an entry
abbrev pub origin_here : Option Content → Origin QualifiedName
origin_here None = nowhere
origin_here (Some c) = origin_by (qualified c) (Some c.decided)

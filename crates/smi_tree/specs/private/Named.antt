-- The definitions that names refer to, by their indices, for private clauses.
use Rattle.std.specs.{Prelude.◌≡◌, Prelude.ℕ, Prelude.List, Prelude.Some, List.slice_get}
use Rattle.smi_text.specs.{declared.trees.tree.Module.Module, declared.trees.tree.Def.Def}
use Rattle.smi_names.specs.meaning.Meaning.{QualifiedName}
use Rattle.smi_tree.specs.columns.Definitions.{IsDefinedBy}

-- the name `p` refers to the definition at index `k` of the module at index `i`
pub record IsFoundAt (ms : List Module) (p : QualifiedName) (i k : ℕ) : Type 0 where
  pub home : Module
  pub at_module : slice_get ms i ≡ Some home
  pub definition : Def
  pub there : slice_get home.defs k ≡ Some definition
  pub named : IsDefinedBy ms p home definition

-- the name `p` refers to no definition
abbrev pub IsUndefined : List Module → QualifiedName → Type 0
IsUndefined ms p = (m : Module) (d : Def) → IsDefinedBy ms p m d → ⊥

-- What a directory of names contains.
use Rattle.std.specs.Prelude.{◌≡◌, ℕ, List, map}
use Rattle.smi_text.specs.declared.trees.tree.Module.{Module}
use Rattle.smi_names.specs.meaning.Scopes.{index_in, content_of}
use Rattle.smi_names.specs.meaning.Names.{AreEach, module_index}
use Rattle.smi_names.specs.{meaning.Scopes.KnownNames, meaning.Parents.parent_of}
use Rattle.smi_names.specs.meaning.Directory.{next_index}
use Rattle.smi_names.specs.declared.meaning.directory.Directory.{Directory}

-- `d` is the directory of the modules `ms`: `d.homes` has the index of the first module of each
-- name, `d.entries` an entry for each name with a meaning in a module, `d.scopes` the index of each
-- entry, and `d.parents` for each entry what `next_index` returns with `parent_of`
pub record IsDirectory (ms : List Module) (d : Directory) : Type 0 where
  pub placed : (x : List ℕ) → index_in d.homes x ≡ module_index ms x
  pub named : AreEach ms d.scopes.items d.entries.items
  pub parents : d.parents.items ≡ map (next_index d parent_of) d.entries.items

-- the modules `ms`, and the names that have entries in directory `d`
abbrev pub known_names : List Module → Directory → KnownNames
known_names ms d = record { modules = ms; names = map content_of d.entries.items }

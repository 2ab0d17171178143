-- Entries: an entry has a name that has a meaning in a module, and what decides the meaning.
use Rattle.std.specs.Prelude.{◌≡◌, ℕ, List, length, Option, Some, All}
use Rattle.std.specs.{List.slice_get, List.position_from}
use Rattle.smi_text.specs.{trees.Mark.same_text, declared.trees.tree.Module.Module}
use Rattle.smi_names.specs.meaning.Meaning.{decision}
use Rattle.smi_names.specs.meaning.Scopes.{NameIndices, known, decided_as, IsWithin}
use Rattle.smi_names.specs.meaning.Scopes.{IsDefinedAt, IsDecided}
use Rattle.smi_names.specs.{declared.hash.NameHash.NameHash, declared.meaning.entry.Entry.Entry}

-- the names of `modules`, found by maps that hash names with `key`
pub record KeyedNames : Type 0 where
  pub modules : List Module
  pub key : NameHash

-- the index of the first of the modules `ms` that is named `x`, if one is
abbrev pub module_index : List Module → List ℕ → Option ℕ
module_index ms x = position_from (λ m. same_text m.name.octets x) 0 ms

-- the module of entry `e` is at index `e.source.0` of the modules; if a definition decides the
-- entry's name, then that definition is at index `e.source.1` of the module's definitions
abbrev pub IsSourced : List Module → Entry → Type 0
IsSourced ms e = (slice_get ms e.source.0 ≡ Some e.«module».now) × IsDefinedAt e

-- `entries` has an entry for each name with a meaning in a module of `ms`, and for no other name;
-- the module's map in `scopes` has the index of the entry
pub record AreEach (ms : List Module) (scopes : List NameIndices) (entries : List Entry)
    : Type 0 where
  pub long : length scopes ≡ length ms
  pub each : (i : ℕ) (m : Module) (scope : NameIndices) → slice_get ms i ≡ Some m
      → slice_get scopes i ≡ Some scope
      → (x : List ℕ) → known entries scope x ≡ decided_as m x (decision m x)
  pub within : (i : ℕ) (scope : NameIndices) → slice_get scopes i ≡ Some scope
      → IsWithin entries scope
  pub sourced : All (IsSourced ms) entries
  pub decided : All IsDecided entries

use Rattle.std.proofs.Common.{◌≡◌, ℕ, List, take}
use Rattle.indexmap.specs.IndexMap.{hasher_of}
use Rattle.smi_names.specs.{meaning.Names.module_index, meaning.Scopes.index_in}
use Rattle.smi_tree.proofs.indices.homes.Given as goal

abbrev pub invariant-modules : goal.invariant-modules
invariant-modules l = record {
  placed : (x : List ℕ) → index_in l.homes x ≡ module_index (take l.i l.modules) x;
  hashed : hasher_of l.homes ≡ l.fn.hash;
}

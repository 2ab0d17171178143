use Rattle.std.proofs.Common.{◌≡◌, All, take}
use Rattle.indexmap.specs.IndexMap.{hasher_of}
use Rattle.smi_names.specs.meaning.Names.{AreEach}
use Rattle.smi_names.proofs.meaning.directory.scopes.Given as goal

abbrev pub invariant-modules : goal.invariant-modules
invariant-modules l = record {
  each : AreEach (take l.i l.modules) l.scopes.items l.entries.items;
  hashed : All (λ scope. hasher_of scope ≡ l.fn.hash) l.scopes.items;
}

use Rattle.std.proofs.Common.{◌≡◌, ℕ, List, take, map}
use Rattle.std.specs.List.{position_from}
use Rattle.indexmap.specs.IndexMap.{hasher_of}
use Rattle.smi_names.specs.meaning.Scopes.{index_in}
use Rattle.smi_tree.specs.Indices.{label_from, has_label, AreOthers, ArePrevious}
use Rattle.smi_tree.proofs.indices.labels.Given as goal

abbrev pub invariant-sources : goal.invariant-sources
invariant-sources l = record {
  labels : (x : List ℕ) → index_in l.labels x ≡ position_from (has_label l.modules x) 0 (take l.k l.sources);
  others : AreOthers l.modules l.sources l.others (take l.k l.sources);
  previous : ArePrevious (map (label_from l.modules) l.sources) l.k l.previous.items;
  hashed_labels : hasher_of l.labels ≡ l.fn.hash;
  hashed_others : hasher_of l.others ≡ l.fn.hash;
}

-- `Resolved` has the tree of the modules, for private clauses.
use Rattle.std.specs.Prelude.{◌≡◌, List, length}
use Rattle.smi_text.specs.declared.trees.tree.Module.{Module}
use Rattle.smi_tree.specs.types.Numbers.{AreNumbersOfAll}
use Rattle.smi_tree.specs.{Tree.IsTree, Kept.contents, declared.tree.loaded.Resolved.Resolved}

pub record IsResolved (ms : List Module) (r : Resolved) : Type 0 where
  pub long : length r.sources.items ≡ length r.identifiers
  pub tree : IsTree ms (contents ms r.sources.items r.identifiers r.types r.indexes)
      r.warnings.items
  pub numbers : AreNumbersOfAll ms r.types.numbers.items

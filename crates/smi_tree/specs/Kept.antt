-- What a tree stores of its nodes.
use Rattle.std.specs.Prelude.{◌≡◌, ℕ, List, length, map, Option}
use Rattle.std.specs.List.{position_from}
use Rattle.indexmap.specs.IndexMap.{hasher_of}
use Rattle.smi_text.specs.declared.trees.tree.Module.{Module}
use Rattle.smi_names.specs.{meaning.Names.module_index, nodes.Gathered.nodes_of}
use Rattle.smi_names.specs.meaning.Scopes.{NameIndices, index_in}
use Rattle.smi_names.specs.declared.nodes.gather.Source.{Source}
use Rattle.smi_names.specs.declared.nodes.warning.Warning.{Warning}
use Rattle.smi_tree.specs.{declared.types.Types.Types, types.Numbers.AreNumbersOfAll}
use Rattle.smi_tree.specs.{declared.columns.index_part.IndexPart.IndexPart, Shown.syntaxes_from}
use Rattle.smi_tree.specs.declared.indices.LabelIndices.{LabelIndices}
use Rattle.smi_tree.specs.declared.tree.loaded.Resolved.{Resolved}
use Rattle.smi_tree.specs.Tree.{Contents, IsTree, Load}
use Rattle.smi_tree.specs.Indices.{Others, label_from, has_label, AreOthers, ArePrevious}

abbrev pub contents : List Module → List Source → List (List ℕ) → Types
    → List (Option (List IndexPart)) → Contents
contents ms ss os types indexes = record {
  modules = ms;
  nodes = nodes_of ms ss os;
  syntaxes = syntaxes_from ms types ss;
  indexes = indexes;
}

-- What a `Tree` stores is the tree of its modules, `ms`. `of_homes` has the index of the first
-- module of each name, and `of_labels` the index of the first source with each label. `of_others`
-- has the index of a label's first source in any other module. `of_previous` has for each source
-- the last one before it with the same label; for a label's first source, the last one with this
-- label. The indexes of named numbers or bits in `types` belong to the lists in `ms`.
pub record IsTreeKept (ms : List Module) (ss : List Source) (os : List (List ℕ)) (types : Types)
    (indexes : List (Option (List IndexPart))) (of_homes of_labels : NameIndices)
    (of_others : Others) (of_previous : List ℕ) : Type 0 where
  pub long : length ss ≡ length os
  pub warnings : List Warning
  pub tree : IsTree ms (contents ms ss os types indexes) warnings
  pub numbers : AreNumbersOfAll ms types.numbers.items
  pub homes : (x : List ℕ) → index_in of_homes x ≡ module_index ms x
  pub labels : (x : List ℕ) → index_in of_labels x ≡ position_from (has_label ms x) 0 ss
  pub others : AreOthers ms ss of_others ss
  pub previous : ArePrevious (map (label_from ms) ss) (length ss) of_previous

-- what a load stores, as a value: the tree, the warnings and the key
abbrev pub load_kept : List Module → Resolved → Load
load_kept ms r = record {
  tree = contents ms r.sources.items r.identifiers r.types r.indexes;
  warnings = r.warnings.items;
  key = r.key;
}

-- what a load stores satisfies `IsTreeKept`, and each of its maps has the key `r.key`
pub record IsLoadKept (ms : List Module) (r : Resolved) (of_homes : NameIndices)
    (indices : LabelIndices) : Type 0 where
  pub kept : IsTreeKept ms r.sources.items r.identifiers r.types r.indexes of_homes indices.labels
      indices.others indices.previous.items
  pub key_of_homes : hasher_of of_homes ≡ r.key
  pub key_of_labels : hasher_of indices.labels ≡ r.key
  pub key_of_others : hasher_of indices.others ≡ r.key

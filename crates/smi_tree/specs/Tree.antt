-- The contents of a tree of names.
use Rattle.std.specs.{Prelude.◌≡◌, Prelude.List, Prelude.◌++◌, Prelude.Option, Option.option_copied}
use Rattle.smi_text.specs.declared.trees.tree.Module.{Module}
use Rattle.smi_names.specs.{declared.hash.NameHash.NameHash, nodes.Nodes.Node, nodes.Nodes.roots}
use Rattle.smi_names.specs.nodes.Nodes.{Loads}
use Rattle.smi_names.specs.declared.nodes.warning.Warning.{Warning}
use Rattle.smi_tree.specs.{types.Types.Facts, columns.Index.AreIndexesOf, Shown.AreSyntaxesOf}
use Rattle.smi_tree.specs.declared.columns.index_part.IndexPart.{IndexPart}
use Rattle.smi_tree.specs.declared.node.Node.{Node as Seen}

-- the modules that were passed, and the nodes in order of loading, each with the syntax of its
-- object and with its index, if it has them
pub record Contents : Type 0 where
  pub modules : List Module
  pub nodes : List Node
  pub syntaxes : List (Option Facts)
  pub indexes : List (Option (List IndexPart))

-- `tree` has `modules`, the roots, and then the nodes of `modules`; `warnings` are the warnings
-- about `modules`; each node that is an object has the syntax that its chain of types defines, if
-- it defines one; each column has the index that the INDEX or AUGMENTS clause of its row defines,
-- if it defines one
pub record IsTree (modules : List Module) (tree : Contents) (warnings : List Warning)
    : Type 0 where
  pub passed : tree.modules ≡ modules
  pub ns : List Node
  pub nodes : tree.nodes ≡ roots ++ ns
  pub loads : Loads modules modules ns warnings
  pub syntaxes : AreSyntaxesOf modules tree.nodes tree.syntaxes
  pub indexes : AreIndexesOf modules tree.nodes tree.indexes

-- a tree as it was loaded, with the warnings about its modules, and with the key of its maps of
-- names: all maps of names that the load made have this key
pub record Load : Type 0 where
  pub tree : Contents
  pub warnings : List Warning
  pub key : NameHash

-- the node that the code returns, as a value
abbrev pub seen_node : Seen → Node
seen_node n = record {
  home = option_copied n.home;
  label = n.label.now;
  oid = n.oid.now;
  definition = option_copied n.definition;
}

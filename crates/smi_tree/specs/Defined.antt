-- The nodes of a tree are roots and definitions (RFC 2578, sections 3.5 and 3.6).
use Rattle.std.specs.Prelude.{◌≡◌, ℕ, ◌<◌, List, Some}
use Rattle.std.specs.List.{slice_get}
use Rattle.smi_text.specs.{declared.trees.tree.Module.Module, declared.trees.tree.Def.Def}
use Rattle.smi_names.specs.{chains.Resolution.ComesTo, meaning.Meaning.origin}
use Rattle.smi_names.specs.{meaning.Meaning.module_named, nodes.Nodes.Node, nodes.Nodes.node_of}
use Rattle.smi_names.specs.nodes.Nodes.{node_of_root}
use Rattle.smi_names.specs.declared.chains.shared.Resolution.TheVariants as R
use Rattle.smi_tree.specs.columns.Definitions.{qualified_name}

-- `node` is one of the three roots
abbrev pub IsRoot : Node → Type 0
IsRoot node = (n : ℕ) × (n < 3) × (node ≡ node_of_root n)

-- `node` is the node of a definition in a module, and the module is the first with its name; the
-- identifier of `node` is what the label of the definition resolves to in that module
pub record IsDefined (ms : List Module) (node : Node) : Type 0 where
  pub home : Module
  pub first : module_named ms home.name.octets ≡ Some home
  pub definition : Def
  pub id : ℕ
  pub there : slice_get home.defs id ≡ Some definition
  pub is : node ≡ node_of home definition node.oid
  pub identifier : ComesTo (origin ms) (qualified_name home definition.label.octets)
      (R.Numbers node.oid)

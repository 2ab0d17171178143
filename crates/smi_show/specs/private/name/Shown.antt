-- Computes the name of an identifier that `Name` defines, for contracts of private functions.
use Rattle.std.specs.Prelude.{ℕ, Bool, if◌then◌else◌, List, ◌++◌, drop, Option, Some, None}
use Rattle.snmp_oid.specs.Numeric.{numeric_text}
use Rattle.smi_show.specs.{index.Pieces.shown_pieces, private.index.IndexValues.instance_pieces}
use Rattle.smi_show.specs.{name.Name.node_text}
use Rattle.smi_tree.specs.Tree.{Contents}
use Rattle.smi_tree.specs.Naming.{NodeView, nearest_node}
use Rattle.smi_value.specs.declared.letters.NameForm.{NameForm}
use Rattle.smi_value.specs.declared.letters.NameForm.TheVariants.{Numeric}

-- the text of the numbers of `o` after `node`
abbrev pub instance_text : Bool → List ℕ → NodeView → List ℕ
instance_text numeric_index o node =
    shown_pieces (instance_pieces (if numeric_index then None else node.index) (drop node.depth o))

abbrev pub nearest_text : Contents → NameForm → Bool → List ℕ → Option NodeView → List ℕ
nearest_text tree form numeric_index o None = numeric_text o
nearest_text tree form numeric_index o (Some node) =
    node_text tree form o node ++ instance_text numeric_index o node

-- the name of `o`: in numbers if the form is numeric or no node is at `o` or above, otherwise the
-- name of the deepest such node and the text of the numbers after the node
abbrev pub name_text : Contents → NameForm → Bool → List ℕ → List ℕ
name_text tree Numeric numeric_index o = numeric_text o
name_text tree form numeric_index o = nearest_text tree form numeric_index o (nearest_node tree o)

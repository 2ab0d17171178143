-- The columns of a table in a tree of names (RFC 2578, section 7.1.12).
use Rattle.std.specs.Prelude.{◌≡◌, ℕ, Bool, true, false, List, Option, Some, None}
use Rattle.std.specs.Prelude.{if◌then◌else◌}
use Rattle.std.specs.{List.slice_get, List.filter_map, Option.option_and_then}
use Rattle.smi_text.specs.{declared.trees.tree.Def.Def, declared.trees.tree.DefKind.DefKind}
use Rattle.smi_text.specs.declared.trees.tree.DefKind.TheVariants as kind
use Rattle.smi_names.specs.nodes.Nodes.{Node}
use Rattle.smi_tree.specs.{Nodes.oids_of, branches.FirstIndex.AreChildren}
use Rattle.uses.specs.declared.listing.Column.{Column}

-- the label of a column, and its identifier
pub record Seen : Type 0 where
  pub label : List ℕ
  pub oid : List ℕ

-- the label and the identifier of a `Column`, which the code returns
abbrev pub seen_column : Column → Seen
seen_column column = record { label = column.label.now; oid = column.oid.now }

-- whether a definition is an OBJECT-TYPE
abbrev pub is_object : DefKind → Bool
is_object (kind.ObjectType object) = true
is_object _ = false

-- the label and identifier of `node`, if its definition `definition` is an OBJECT-TYPE
abbrev pub column_by : Node → Def → Option Seen
column_by node definition = if is_object definition.kind
    then Some (record { label = node.label; oid = node.oid })
    else None

-- the label and identifier of the node at index `id`, if its definition is an OBJECT-TYPE; None
-- without such a node
abbrev pub column_at : List Node → ℕ → Option Seen
column_at nodes id = option_and_then
    (λ node. option_and_then (column_by node) node.definition) (slice_get nodes id)

-- the columns are the objects among the children of the node at index `entry`, in the same order
pub record AreColumnsOf (nodes : List Node) (entry : ℕ) (columns : List Seen) : Type 0 where
  pub node : Node
  pub there : slice_get nodes entry ≡ Some node
  pub children : List ℕ
  pub are_children : AreChildren (oids_of nodes) node.oid children
  pub objects : columns ≡ filter_map (column_at nodes) children

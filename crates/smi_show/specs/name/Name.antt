-- The name of an identifier as text.
use Rattle.std.specs.Prelude.{◌≡◌, ℕ, Bool, ◌⊎◌, ◌==◌, if◌then◌else◌, List, [], ◌++◌, length, take}
use Rattle.std.specs.Prelude.{drop, codes, decimal, Option, Some, None}
use Rattle.std.specs.List.{flat_map}
use Rattle.snmp_oid.specs.Numeric.{numeric_text}
use Rattle.smi_show.specs.index.Pieces.{AreInstancePieces, Piece, shown_pieces}
use Rattle.smi_show.specs.name.Beginnings.{beginnings}
use Rattle.smi_tree.specs.{Nodes.last_number, Tree.Contents}
use Rattle.smi_tree.specs.Naming.{NodeView, nearest_node}
use Rattle.smi_value.specs.declared.letters.NameForm.{NameForm}
use Rattle.smi_value.specs.declared.letters.NameForm.TheVariants.{Numeric, Full, Label}
use Rattle.smi_value.specs.declared.letters.NameForm.TheVariants.{ModuleLabel}

-- the name of the module, `::` and the label; only the label if there is no module, as for a root
abbrev pub qualified : Option (List ℕ) → List ℕ → List ℕ
qualified None label = label
qualified (Some home) label = home ++ codes "::" ++ label

-- the text of `n`, the last number of `o`: the label of `node` if `node` is at `o`, otherwise the
-- decimal digits of `n`; `node` is the deepest node at `o` or above, if there is one
abbrev pub arc_text : Option NodeView → List ℕ → ℕ → List ℕ
arc_text None o n = decimal n
arc_text (Some node) o n = if node.depth == length o then node.label else decimal n

-- for each number of `o`, a dot and a text: if a node's identifier is `o` up to and with this
-- number, the label of that node, otherwise the number
abbrev pub path_text : Contents → List ℕ → List ℕ
path_text tree o =
    flat_map (λ here. codes "." ++ arc_text (nearest_node tree here) here (last_number here))
    (beginnings o)

-- the name of `node`, the deepest node at `o` or above, as the form says: the texts of all numbers
-- down to the node, its label, or `MODULE::label` (see `qualified`); nothing in the numeric form
abbrev pub node_text : Contents → NameForm → List ℕ → NodeView → List ℕ
node_text tree Numeric o node = []
node_text tree Full o node = path_text tree (take node.depth o)
node_text tree Label o node = node.label
node_text tree ModuleLabel o node = qualified node.home node.label

-- `text` shows the numbers of `o` after `node`: by the node's index, or as numbers if the node has
-- no index, if the index doesn't read them all, or if `numeric_index` is set
abbrev pub IsInstanceText : Bool → List ℕ → NodeView → (text : List ℕ) → Type 0
IsInstanceText numeric_index o node text =
    (pieces : List Piece) × AreInstancePieces (if numeric_index then None else node.index)
    (drop node.depth o) pieces × (text ≡ shown_pieces pieces)

-- `text` shows `o` by the name of its deepest node and the numbers after the node, or in numbers if
-- there is no node
abbrev pub IsNearestText : Contents → NameForm → Bool → List ℕ → Option NodeView
    → (text : List ℕ) → Type 0
IsNearestText tree form numeric_index o None text = text ≡ numeric_text o
IsNearestText tree form numeric_index o (Some node) text =
    (instance : List ℕ) × IsInstanceText numeric_index o node instance
    × (text ≡ node_text tree form o node ++ instance)

-- `text` is the name of `o`: in numbers if the form is numeric or no node is at `o` or above,
-- otherwise the name of the deepest such node and the text of the numbers after the node
abbrev pub IsName : Contents → NameForm → Bool → List ℕ → (text : List ℕ) → Type 0
IsName tree Numeric numeric_index o text = text ≡ numeric_text o
IsName tree form numeric_index o text =
    IsNearestText tree form numeric_index o (nearest_node tree o) text

-- a name in this form is read back as the identifier that it shows: the form is in numbers, or by
-- module and label
abbrev pub ReadsBack : NameForm → Type 0
ReadsBack form = (form ≡ Numeric) ⊎ (form ≡ ModuleLabel)

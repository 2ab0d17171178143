-- Look-ups in a tree, for reading names and showing identifiers: by module and label, by
-- identifier, or for a child.
use Rattle.std.specs.Prelude.{◌≡◌, ℕ, ◌≤◌, Bool, true, List, length, take, Option, Some, None}
use Rattle.std.specs.Prelude.{is_some, option_map, slice_index_or}
use Rattle.std.specs.{List.slice_get, Option.option_and_then, Option.option_copied}
use Rattle.smi_text.specs.trees.Word.{is_word}
use Rattle.smi_text.specs.{declared.trees.tree.Module.Module, declared.trees.tree.Def.Def}
use Rattle.smi_names.specs.{meaning.Meaning.module_named, nodes.Nodes.Node, nodes.Nodes.roots}
use Rattle.smi_value.specs.Syntax.{ObjectSyntax}
use Rattle.smi_tree.specs.declared.columns.index_part.IndexPart.{IndexPart}
use Rattle.smi_tree.specs.declared.nearest.NearestNode.{NearestNode}
use Rattle.smi_tree.specs.{Shown.shown_at, Tree.Contents}
use Rattle.smi_tree.specs.Nodes.{oids_of, index_in_module, index_anywhere, child_of}
use Rattle.smi_tree.specs.LongestPrefix.{Longest, longest}

-- a node: its module, `None` for a built-in root; its label; the number of numbers in its
-- identifier; the parts of its index, `None` if it isn't a column or its index can't be read
pub record NodeView : Type 0 where
  pub home : Option (List ℕ)
  pub label : List ℕ
  pub depth : ℕ
  pub index : Option (List IndexPart)

-- the node that a look-up returned, as a value
abbrev pub view_of : NearestNode → NodeView
view_of node = record {
  home = option_copied node.home;
  label = node.label.now;
  depth = node.depth;
  index = option_copied node.index;
}

-- ---- the nodes of a tree, as names use them

abbrev pub home_name : Option Module → Option (List ℕ)
home_name m = option_map (λ m. m.name.octets) m

-- the node `n`, with the length of its identifier and its index
abbrev pub view_from : ℕ → Option (List IndexPart) → Node → NodeView
view_from depth index n =
    record { home = home_name n.home; label = n.label; depth = depth; index = index }

abbrev pub view_of_longest : Contents → Longest → Option NodeView
view_of_longest t l =
    option_map (view_from l.depth (slice_index_or t.indexes l.id None))
    (slice_get t.nodes l.id)

-- the identifier of the node at index `id`, if there is one
abbrev pub oid_of : List Node → Option ℕ → Option (List ℕ)
oid_of nodes id = option_and_then (slice_get (oids_of nodes)) id

-- whether a module named `home` is loaded
unfoldable pub is_module_loaded : Contents → List ℕ → Bool
is_module_loaded tree home = is_some (module_named tree.modules home)

-- the identifier of the first node with this label in the module named `home`
unfoldable pub oid_in_module : Contents → List ℕ → List ℕ → Option (List ℕ)
oid_in_module tree home label = oid_of tree.nodes (index_in_module tree.nodes home label)

-- the identifier of the first node with this label
unfoldable pub oid_anywhere : Contents → List ℕ → Option (List ℕ)
oid_anywhere tree label = oid_of tree.nodes (index_anywhere tree.nodes label)

-- the identifier of the root with this label
unfoldable pub oid_of_root : List ℕ → Option (List ℕ)
oid_of_root label = oid_of roots (index_anywhere roots label)

-- the identifier of the first child of `o` with this label
unfoldable pub oid_of_child : Contents → List ℕ → List ℕ → Option (List ℕ)
oid_of_child tree o label = oid_of tree.nodes (child_of tree.nodes o label)

-- the node of the longest prefix of `o` that has a node
unfoldable pub nearest_node : Contents → List ℕ → Option NodeView
nearest_node tree o = option_and_then (view_of_longest tree) (longest tree.nodes o)

-- the definition of the node of the longest prefix of `o` that has a node; `None` if that node is a
-- root, or if no prefix has a node
unfoldable pub nearest_definition : Contents → List ℕ → Option Def
nearest_definition tree o =
    option_and_then (λ l. option_and_then (λ n. n.definition) (slice_get tree.nodes l.id))
    (longest tree.nodes o)

-- the syntax, for showing values, of the node of the longest prefix of `o` that has a node
unfoldable pub nearest_syntax : Contents → List ℕ → Option ObjectSyntax
nearest_syntax tree o =
    option_and_then (λ l. shown_at tree.nodes tree.syntaxes l.id) (longest tree.nodes o)

-- a look-up of `label` returns `o`: for `Some home`, in the module named `home`, which is loaded
-- and whose name is a word; for `None`, in the whole tree
abbrev pub LabelRefersTo : Contents → Option (List ℕ) → List ℕ → List ℕ → Type 0
LabelRefersTo tree None label o = oid_anywhere tree label ≡ Some o
LabelRefersTo tree (Some home) label o =
    (is_word home ≡ true) × (is_module_loaded tree home ≡ true)
    × (oid_in_module tree home label ≡ Some o)

-- if a node is found for an identifier, its depth is at most the length of the identifier, its
-- label is a word, and a look-up of the label returns the prefix of the identifier with this depth
pub record IsSound (tree : Contents) : Type 0 where
  pub within : (o : List ℕ) (node : NodeView) → nearest_node tree o ≡ Some node
      → node.depth ≤ length o
  pub words : (o : List ℕ) (node : NodeView) → nearest_node tree o ≡ Some node
      → is_word node.label ≡ true
  pub refers_to : (o : List ℕ) (node : NodeView) → nearest_node tree o ≡ Some node
      → LabelRefersTo tree node.home node.label (take node.depth o)

-- The details of an identifier: its name, its deepest node with its definition, and the identifier
-- as a value.
use Rattle.std.specs.Prelude.{◌≡◌, ℕ, Bool, List, [], ◌++◌, codes, Option, Some, None}
use Rattle.smi_value.specs.declared.letters.NameForm.{NameForm}
use Rattle.smi_text.specs.{declared.trees.tree.Def.Def, trees.Lookup.kind_words}
use Rattle.smi_show.specs.{name.Name.IsName}
use Rattle.smi_tree.specs.Tree.{Contents}
use Rattle.smi_tree.specs.Naming.{NodeView, nearest_definition, nearest_node}
use Rattle.smi_show.specs.{private.name.Shown.name_text, details.Value.identifier_text}
use Rattle.smi_show.specs.details.Definition.{definition_text}

-- the kind of a node's definition; a root has no definition and is shown as an OBJECT IDENTIFIER
abbrev pub kind_text : Option Def → List ℕ
kind_text None = codes "OBJECT IDENTIFIER"
kind_text (Some d) = kind_words d.kind

abbrev pub from_text : Option (List ℕ) → List ℕ
from_text None = []
from_text (Some home) = codes "  -- FROM\t" ++ home ++ codes "\n"

abbrev pub clauses_text : Option Def → List ℕ
clauses_text None = []
clauses_text (Some d) = definition_text d.kind

abbrev pub node_detail : Option NodeView → Option Def → List ℕ
node_detail None definition = []
node_detail (Some node) definition =
    node.label ++ codes " " ++ kind_text definition ++ codes "\n" ++ from_text node.home
    ++ clauses_text definition

-- `text` is the details of `o`: its name, the lines of its deepest node, and `o` as a value
pub record IsDetail (tree : Contents) (form : NameForm) (numeric_index : Bool)
    (o text : List ℕ) : Type 0 where
  pub name : List ℕ
  pub is_name : IsName tree form numeric_index o name
  pub whole : text ≡ name ++ codes "\n"
      ++ node_detail (nearest_node tree o) (nearest_definition tree o) ++ identifier_text tree o

-- ---- for private functions

abbrev pub detail_text : Contents → NameForm → Bool → List ℕ → List ℕ
detail_text tree form numeric_index o =
    name_text tree form numeric_index o ++ codes "\n"
    ++ node_detail (nearest_node tree o) (nearest_definition tree o) ++ identifier_text tree o

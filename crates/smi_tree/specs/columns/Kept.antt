-- What is stored: the parts of each INDEX clause, and for each node the clause that identifies its
-- rows.
use Rattle.std.specs.Prelude.{◌≡◌, ℕ, List, Bool, Option, Some, None, option_map, map, Vec, ⊤}
use Rattle.std.specs.{List.slice_get, Option.option_and_then, Global.Global}
use Rattle.smi_tree.specs.declared.columns.index_part.IndexPart.{IndexPart}
use Rattle.smi_text.specs.{declared.trees.tree.Module.Module, declared.trees.tree.Def.Def}
use Rattle.smi_text.specs.declared.trees.tree.IndexParts.{IndexParts}
use Rattle.smi_names.specs.nodes.Nodes.{Node}
use Rattle.smi_tree.specs.{Pairwise.ArePairwise, branches.FirstIndex.first_index}
use Rattle.smi_tree.specs.declared.columns.rows.LastRow.{LastRow}
use Rattle.smi_tree.specs.columns.Index.{IsIndexPart, AreParts, IsIndexed, IsColumnOf, UsesIndexOf}
use Rattle.smi_tree.specs.columns.Index.{clause_of}

-- the stored parts of a definition's INDEX clause, if it has one that can be read
abbrev pub KeptParts : Type 0
KeptParts = Option (Vec IndexPart Global)

abbrev pub KeptOfModule : Type 0
KeptOfModule = Vec KeptParts Global

abbrev pub items_of : KeptParts → Option (List IndexPart)
items_of kept = option_map (λ v. v.items) kept

-- the stored parts of definition `k` of module `i`
abbrev pub parts_at : List KeptOfModule → ℕ → ℕ → Option (List IndexPart)
parts_at kept i k =
    option_and_then items_of (option_and_then (λ own. slice_get own.items k) (slice_get kept i))

-- the index of each node, from what is stored
abbrev pub indexes_of : List KeptOfModule → List (Option (ℕ × ℕ))
    → List (Option (List IndexPart))
indexes_of kept rows = map (λ at. option_and_then (λ p. parts_at kept p.0 p.1) at) rows

-- ---- for private functions

-- `name`, after IMPLIED or not, has no part in an INDEX clause of module `m`
abbrev pub HasNoPart : List Module → Module → List ℕ → Bool → Type 0
HasNoPart ms m name implied = (part : IndexPart) → IsIndexPart ms m name implied part → ⊥

-- the result is the parts of the INDEX clause `clause`, or `None` if this can't be read
abbrev pub IsReading : List Module → Module → IndexParts → Option (List IndexPart) → Type 0
IsReading ms m clause None = (parts : List IndexPart) → AreParts ms m clause parts → ⊥
IsReading ms m clause (Some parts) = AreParts ms m clause parts

-- the result is the parts of the INDEX clause of `d` itself, or `None` if `d` has no INDEX clause
-- that can be read
abbrev pub IsOwn : List Module → Module → Def → Option (List IndexPart) → Type 0
IsOwn ms m d None = (parts : List IndexPart) → IsIndexed ms m d parts → ⊥
IsOwn ms m d (Some parts) = IsIndexed ms m d parts

-- `kept` has, for each definition of module `m`, the parts of its own INDEX clause, if it has one
-- that can be read
abbrev pub AreOwn : List Module → Module → List (KeptParts) → Type 0
AreOwn ms m kept = ArePairwise (λ k d own. IsOwn ms m d (items_of own)) m.defs kept

-- `kept` has, for each definition of each module, the parts of its own INDEX clause, if it has one
-- that can be read
abbrev pub AreOwnOfAll : List Module → List KeptOfModule → Type 0
AreOwnOfAll ms kept = ArePairwise (λ i m own. AreOwn ms m own.items) ms kept

-- `row` uses the INDEX clause of definition `k` of module `i`, if that definition has one
pub record UsesAt (ms : List Module) (row : Node) (i k : ℕ) : Type 0 where
  pub row_module : Module
  pub home : row.home ≡ Some row_module
  pub row_definition : Def
  pub defined : row.definition ≡ Some row_definition
  pub index_module : Module
  pub at_module : slice_get ms i ≡ Some index_module
  pub index_definition : Def
  pub there : slice_get index_module.defs k ≡ Some index_definition
  pub uses : UsesIndexOf ms row_module row_definition (clause_of row_definition.kind) index_module
      index_definition

-- `row` uses the INDEX clause of no definition
abbrev pub UsesNone : List Module → Node → Type 0
UsesNone ms row =
    (m : Module) (d : Def) (n : Module) (e : Def) → row.home ≡ Some m → row.definition ≡ Some d
    → UsesIndexOf ms m d (clause_of d.kind) n e → ⊥

-- the INDEX clause of definition `k` of module `i`, if it has one, identifies the rows of `column`
pub record HasRowAt (ms : List Module) (nodes : List Node) (column : Node) (i k : ℕ) : Type 0 where
  pub row : Node
  pub of_row : IsColumnOf nodes column row
  pub used : UsesAt ms row i k

-- `node` isn't a column, or its row uses the INDEX clause of no definition
abbrev pub HasNoRow : List Module → List Node → Node → Type 0
HasNoRow ms nodes node = (row : Node) → IsColumnOf nodes node row → UsesNone ms row

-- the result is the definition whose INDEX clause, if it has one, identifies the rows of `node`,
-- or `None` if there is no such definition
abbrev pub HasRowOrNone : List Module → List Node → Node → Option (ℕ × ℕ) → Type 0
HasRowOrNone ms nodes node None = HasNoRow ms nodes node
HasRowOrNone ms nodes node (Some at) = HasRowAt ms nodes node at.0 at.1

-- `rows` has, for each node, the definition whose INDEX clause the node's row uses, or `None`
abbrev pub AreRows : List Module → List Node → List (Option (ℕ × ℕ)) → Type 0
AreRows ms nodes rows = ArePairwise (λ k node at. HasRowOrNone ms nodes node at) nodes rows

-- if a row was looked up last, then its `id` is the first index of its identifier in the list, or
-- `None` if the identifier isn't in the list
abbrev pub IsLastRow : List (List ℕ) → Option LastRow → Type 0
IsLastRow oids None = ⊤
IsLastRow oids (Some row) = row.id ≡ first_index oids row.numbers.now

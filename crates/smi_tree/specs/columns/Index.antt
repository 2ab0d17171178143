-- The index of a column: what identifies the rows of its table (RFC 2578, sections 7.7 and 7.8).
use Rattle.std.specs.Prelude.{◌≡◌, ℕ, ◌+◌, ◌==◌, Bool, ◌&&◌, List, [], ◌∷◌, ◌++◌, length, map}
use Rattle.std.specs.Prelude.{slice_index_or, Option, Some, None}
use Rattle.std.specs.List.{slice_get}
use Rattle.smi_names.specs.{chains.Resolution.ComesTo, meaning.Meaning.origin, nodes.Nodes.Node}
use Rattle.smi_names.specs.declared.chains.shared.Resolution.TheVariants as R
use Rattle.smi_tree.specs.{Pairwise.ArePairwise, branches.FirstIndex.first_index}
use Rattle.smi_tree.specs.{columns.Parts.IsPartOf}
use Rattle.smi_tree.specs.declared.columns.index_part.IndexPart.{IndexPart}
use Rattle.smi_text.specs.{declared.trees.tree.Module.Module, declared.trees.tree.Def.Def}
use Rattle.smi_text.specs.{declared.trees.tree.DefKind.DefKind, declared.trees.tree.Index.Index}
use Rattle.smi_text.specs.declared.trees.tree.DefKind.TheVariants as D
use Rattle.smi_text.specs.declared.trees.tree.ObjectType.{ObjectType}
use Rattle.smi_text.specs.declared.trees.tree.Index.TheVariants.{Own, Augments}
use Rattle.smi_text.specs.declared.trees.tree.IndexParts.{IndexParts}
use Rattle.smi_tree.specs.types.Types.{Facts, HasSyntax, origin_of_object}
use Rattle.smi_tree.specs.columns.Definitions.{qualified_name, IsDefinedBy}

-- ---- the objects of an INDEX clause

-- `part` is the part for `name`, after IMPLIED or not, in an INDEX clause of module `m`: the name
-- has an identifier, and refers to an object with a syntax; `part` is the part for the base type
-- and the SIZE of this syntax
pub record IsIndexPart (ms : List Module) (m : Module) (name : List ℕ) (implied : Bool)
    (part : IndexPart) : Type 0 where
  pub home : Module
  pub object : Def
  pub named : IsDefinedBy ms (qualified_name m name) home object
  pub oid : List ℕ
  pub identified : ComesTo (origin ms) (qualified_name m name) (R.Numbers oid)
  pub facts : Facts
  pub syntax : HasSyntax ms (origin_of_object home.name.octets object) facts
  pub reads : IsPartOf facts.base facts.sizes implied part

-- whether IMPLIED precedes the name at index `i`
abbrev pub is_implied : IndexParts → ℕ → Bool
is_implied clause i = clause.implied && (i + 1 == length clause.names)

-- `parts` has the part for each name of an INDEX clause of module `m`
abbrev pub AreParts : List Module → Module → IndexParts → List IndexPart → Type 0
AreParts ms m clause parts =
    ArePairwise (λ i name part. IsIndexPart ms m name.octets (is_implied clause i) part)
    clause.names parts

-- ---- INDEX and AUGMENTS

-- the INDEX or AUGMENTS clause of a definition
abbrev pub clause_of : DefKind → Option Index
clause_of (D.ObjectType o) = o.index
clause_of _ = None

-- definition `e` of module `n` is the one whose INDEX clause, if it has one, identifies the rows
-- of definition `d` of module `m`: `e` is `d` itself if the clause of `d` is INDEX, and what the
-- name after AUGMENTS refers to if it is AUGMENTS
abbrev pub UsesIndexOf : List Module → Module → Def → Option Index → Module → Def → Type 0
UsesIndexOf ms m d None n e = ⊥
UsesIndexOf ms m d (Some (Own clause)) n e = (n ≡ m) × (e ≡ d)
UsesIndexOf ms m d (Some (Augments name)) n e = IsDefinedBy ms (qualified_name m name.octets) n e

-- `parts` are the parts of the INDEX clause of `d` itself
pub record IsIndexed (ms : List Module) (m : Module) (d : Def) (parts : List IndexPart)
    : Type 0 where
  pub clause : IndexParts
  pub states : clause_of d.kind ≡ Some (Own clause)
  pub read : AreParts ms m clause parts

-- ---- columns

abbrev pub IsObjectType : Option Def → Type 0
IsObjectType definition = (d : Def) × (o : ObjectType) × (definition ≡ Some d)
    × (d.kind ≡ D.ObjectType o)

-- `node` represents the identifier `oid`: it is the first node with it
pub record IsNodeAt (nodes : List Node) (oid : List ℕ) (node : Node) : Type 0 where
  pub id : ℕ
  pub first : first_index (map (λ n. n.oid) nodes) oid ≡ Some id
  pub there : slice_get nodes id ≡ Some node

-- `column` is a column of `row`: an object whose identifier is the identifier that `row`
-- represents, with one number appended
pub record IsColumnOf (nodes : List Node) (column row : Node) : Type 0 where
  pub object : IsObjectType column.definition
  pub prefix : List ℕ
  pub last : ℕ
  pub below : column.oid ≡ prefix ++ last ∷ []
  pub is_at : IsNodeAt nodes prefix row

-- `parts` are the parts of the index of `column`
pub record IsIndexOf (ms : List Module) (nodes : List Node) (column : Node)
    (parts : List IndexPart) : Type 0 where
  pub row : Node
  pub of_row : IsColumnOf nodes column row
  pub row_module : Module
  pub home : row.home ≡ Some row_module
  pub row_definition : Def
  pub defined : row.definition ≡ Some row_definition
  pub index_module : Module
  pub index_definition : Def
  pub uses : UsesIndexOf ms row_module row_definition (clause_of row_definition.kind) index_module
      index_definition
  pub indexed : IsIndexed ms index_module index_definition parts

-- ---- the indexes of all nodes

-- the result is the parts of the index of `node`, or `None` if it isn't a column or its index
-- can't be read
abbrev pub IsIndex : List Module → List Node → Node → Option (List IndexPart) → Type 0
IsIndex ms nodes node None = (parts : List IndexPart) → IsIndexOf ms nodes node parts → ⊥
IsIndex ms nodes node (Some parts) = IsIndexOf ms nodes node parts

-- the index of the node at index `k`
abbrev pub index_at : List (Option (List IndexPart)) → ℕ → Option (List IndexPart)
index_at indexes k = slice_index_or indexes k None

-- `indexes` has the index of each node, in the order of the nodes
pub record AreIndexesOf (ms : List Module) (nodes : List Node)
    (indexes : List (Option (List IndexPart))) : Type 0 where
  pub long : length indexes ≡ length nodes
  pub each : (k : ℕ) (node : Node) → slice_get nodes k ≡ Some node
      → IsIndex ms nodes node (index_at indexes k)

-- The nodes and warnings that a value of the code's type `Gathered` represents.
use Rattle.std.specs.Prelude.{◌≡◌, ℕ, List, [], ◌∷◌, ◌++◌, length, Option, Some, None}
use Rattle.std.specs.List.{slice_get}
use Rattle.smi_names.specs.declared.chains.shared.Resolution.{Resolution}
use Rattle.smi_names.specs.declared.chains.shared.Resolution.TheVariants as R
use Rattle.smi_text.specs.{declared.trees.tree.Module.Module, declared.trees.tree.Def.Def}
use Rattle.smi_names.specs.{meaning.Meaning.root_label, declared.nodes.gather.Source.Source}
use Rattle.smi_names.specs.nodes.Nodes.{Node, node_of, warnings_by, roots, Loads}
use Rattle.smi_names.specs.declared.nodes.warning.Warning.{Warning}
use Rattle.smi_names.specs.declared.nodes.gather.Source.TheVariants as S
use Rattle.smi_names.specs.declared.nodes.gather.Gathered.{Gathered}

abbrev pub label_of : Option Def → List ℕ
label_of None = []
label_of (Some d) = d.label.octets

abbrev pub def_of_module : Option Module → ℕ → Option Def
def_of_module None k = None
def_of_module (Some m) k = slice_get m.defs k

-- the node with source `s`, a root or a definition, and identifier `o`
abbrev pub node_from : List Module → Source → List ℕ → Node
node_from ms (S.Root n) o = record { home = None; label = root_label n; oid = o; definition = None }
node_from ms (S.Definition i k) o =
    let d = def_of_module (slice_get ms i) k in
    record { home = slice_get ms i; label = label_of d; oid = o; definition = d }

-- the nodes made from a list of sources and a list of identifiers, paired by index up to the end of
-- the shorter list
abbrev pub nodes_of : List Module → List Source → List (List ℕ) → List Node
nodes_of ms [] os = []
nodes_of ms (s ∷ ss) [] = []
nodes_of ms (s ∷ ss) (o ∷ os) = node_from ms s o ∷ nodes_of ms ss os

-- `g` holds the nodes of the roots, then the nodes of the modules `before`, and the warnings about
-- these modules; `ms` are all modules
pub record AreGathered (ms : List Module) (g : Gathered) (before : List Module) : Type 0 where
  pub ns : List Node
  pub long : length g.sources.items ≡ length g.oids.items
  pub nodes : nodes_of ms g.sources.items g.oids.items ≡ roots ++ ns
  pub loads : Loads ms before ns g.warnings.items

-- ---- for private functions

abbrev pub sources_by : Source → Resolution → List Source
sources_by s (R.Numbers o) = s ∷ []
sources_by s _ = []

abbrev pub oids_by : Resolution → List (List ℕ)
oids_by (R.Numbers o) = o ∷ []
oids_by _ = []

-- `new` is `old` with one node or one warning appended: if `r` is an identifier, the node of
-- definition `d`, with source `s`; otherwise the warning that `d` has no identifier, and why
pub record GrowsByDefinition (old new : Gathered) (s : Source) (m : Module) (d : Def)
    (r : Resolution) : Type 0 where
  pub sources : new.sources.items ≡ old.sources.items ++ sources_by s r
  pub oids : new.oids.items ≡ old.oids.items ++ oids_by r
  pub warnings : new.warnings.items ≡ old.warnings.items ++ warnings_by m d r

-- `s` is the source of definition `d` of module `m`
abbrev pub IsSourceOf : List Module → Source → Module → Def → Type 0
IsSourceOf ms s m d = (o : List ℕ) → node_from ms s o ≡ node_of m d o

-- `new` is `old` with the nodes `ns` and the warnings `ws` appended
pub record AddsNodes (ms : List Module) (old new : Gathered) (ns : List Node)
    (ws : List Warning) : Type 0 where
  pub long : length new.sources.items ≡ length new.oids.items
  pub nodes : nodes_of ms new.sources.items new.oids.items ≡ nodes_of ms old.sources.items
      old.oids.items ++ ns
  pub warnings : new.warnings.items ≡ old.warnings.items ++ ws

-- `new` is `old` with some nodes `ns` and warnings `ws` appended, and `are_returned ns ws` holds
pub record Adds (ms : List Module) (old new : Gathered)
    (are_returned : List Node → List Warning → Type 0) : Type 0 where
  pub ns : List Node
  pub ws : List Warning
  pub gives : are_returned ns ws
  pub adds : AddsNodes ms old new ns ws

-- The nodes of the tree of names, in order of loading (RFC 2578, sections 3.5 and 3.6).
use Rattle.std.specs.Prelude.{◌≡◌, ℕ, Bool, true, false, List, [], ◌∷◌, ◌++◌, Option, Some, None}
use Rattle.std.specs.Prelude.{is_some}
use Rattle.smi_names.specs.{chains.Resolution.ComesTo, nodes.Imports.import_warnings}
use Rattle.smi_names.specs.declared.chains.shared.Resolution.{Resolution}
use Rattle.smi_names.specs.declared.chains.shared.Resolution.TheVariants as R
use Rattle.smi_text.specs.{declared.trees.tree.Module.Module, declared.trees.tree.Def.Def}
use Rattle.smi_text.specs.{declared.trees.tree.Part.Part, trees.Lookup.identifier_value_of}
use Rattle.smi_names.specs.meaning.Meaning.{origin, module_named, root_label}
use Rattle.smi_names.specs.declared.nodes.warning.Warning.{Warning}
use Rattle.smi_names.specs.declared.nodes.warning.Warning.TheVariants as W

-- a node: the module that defines it, its label, its identifier and its definition; a root has no
-- module and no definition
pub record Node : Type 0 where
  pub home : Option Module
  pub label : List ℕ
  pub oid : List ℕ
  pub definition : Option Def

abbrev pub node_of_root : ℕ → Node
node_of_root n = record { home = None; label = root_label n; oid = n ∷ []; definition = None }

-- the nodes of the roots, which count as loaded before every module
abbrev pub roots : List Node
roots = node_of_root 0 ∷ node_of_root 1 ∷ node_of_root 2 ∷ []

abbrev pub node_of : Module → Def → List ℕ → Node
node_of m d o = record { home = Some m; label = d.label.octets; oid = o; definition = Some d }

-- the nodes of definition `d` of module `m`: one if the name of `d` resolves to an identifier,
-- otherwise none
abbrev pub nodes_by : Module → Def → Resolution → List Node
nodes_by m d (R.Numbers o) = node_of m d o ∷ []
nodes_by m d _ = []

-- the warnings about definition `d` of module `m`: none if its name resolves to an identifier,
-- otherwise one, which says why it doesn't
abbrev pub warnings_by : Module → Def → Resolution → List Warning
warnings_by m d (R.Numbers o) = []
warnings_by m d R.Cycle = W.Cycle m.name.octets d.label.octets ∷ []
warnings_by m d R.Unresolved = W.Unresolved m.name.octets d.label.octets ∷ []
warnings_by m d R.TooLong = W.TooLong m.name.octets d.label.octets ∷ []

-- definition `d` of module `m`, with this identifier value, has the nodes `ns` and the warnings
-- `ws`: none if the value is `None`, as for a type or a macro; otherwise what `nodes_by` and
-- `warnings_by` return for the resolution of its name
abbrev pub GivesNodesBy : List Module → Module → Def → Option (List Part) → List Node → List Warning
    → Type 0
GivesNodesBy ms m d None ns ws = (ns ≡ []) × (ws ≡ [])
GivesNodesBy ms m d (Some value) ns ws =
    (r : Resolution) × ComesTo (origin ms)
    (record { home = m.name.octets; name = d.label.octets }) r
    × (ns ≡ nodes_by m d r) × (ws ≡ warnings_by m d r)

abbrev pub GivesNodes : List Module → Module → Def → List Node → List Warning → Type 0
GivesNodes ms m d ns ws = GivesNodesBy ms m d (identifier_value_of d.kind) ns ws

-- the definitions in a list, all of module `m`, have these nodes and these warnings, in order
pub data Gathers (ms : List Module) (m : Module) : List Def → List Node → List Warning
    → Type 0 where
  none : Gathers ms m [] [] []
  more : (ds : List Def) (d : Def) (ns more_nodes : List Node) (ws more_warnings : List Warning)
      → Gathers ms m ds ns ws → GivesNodes ms m d more_nodes more_warnings
      → Gathers ms m (ds ++ d ∷ []) (ns ++ more_nodes) (ws ++ more_warnings)

-- whether one of the modules `ms` is named `name`
abbrev pub is_loaded : List Module → List ℕ → Bool
is_loaded ms name = is_some (module_named ms name)

-- module `m`, loaded after the modules `before`, has these nodes and warnings. If a module of
-- `before` has the name of `m`, there is only the warning that `m` is left out; otherwise there
-- are the warnings about its imports, and then the nodes and warnings of its definitions.
pub data Contributes (ms before : List Module) (m : Module) : List Node → List Warning
    → Type 0 where
  left_out : is_loaded before m.name.octets ≡ true
      → Contributes ms before m [] (W.DoubleModule m.name.octets ∷ [])
  loaded : (ns : List Node) (ws : List Warning) → is_loaded before m.name.octets ≡ false
      → Gathers ms m m.defs ns ws → Contributes ms before m ns (import_warnings ms m ++ ws)

-- the modules in a list, loaded in this order, have these nodes and these warnings
pub data Loads (ms : List Module) : List Module → List Node → List Warning → Type 0 where
  none_yet : Loads ms [] [] []
  then_module : (before : List Module) (m : Module) (ns more_nodes : List Node)
      (ws more_warnings : List Warning)
      → Loads ms before ns ws → Contributes ms before m more_nodes more_warnings
      → Loads ms (before ++ m ∷ []) (ns ++ more_nodes) (ws ++ more_warnings)

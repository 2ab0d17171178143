-- What a tree finds for an identifier: the node of the longest prefix that has a node, and the
-- syntax of that node.
use Rattle.std.specs.Prelude.{◌≡◌, ℕ, List, option_map, MatchOption}
use Rattle.snmp_oid.specs.Identifier.{IsBelow}
use Rattle.smi_tree.specs.{Tree.Contents, declared.nearest.Found.Found}
use Rattle.smi_tree.specs.Naming.{nearest_node, nearest_syntax, view_of}

-- `found` has what `tree` finds for `o`: the node of the longest prefix of `o` that has a node, and
-- the syntax of that node
abbrev pub IsFound : Contents → List ℕ → Found → Type 0
IsFound tree o found =
    (option_map view_of found.node ≡ nearest_node tree o)
    × (found.syntax ≡ nearest_syntax tree o)

-- if `found.below` is an identifier, then `found` is found for each identifier below it
abbrev pub IsFoundBelow : Contents → Found → Type 0
IsFoundBelow tree found =
    MatchOption found.below (Unit {0})
    (λ root. (o : List ℕ) → IsBelow o root.now → IsFound tree o found)

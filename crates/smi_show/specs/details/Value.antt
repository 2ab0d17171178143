-- An identifier as the value of a definition: `{ iso(1) 3 6 internet(1) 4 }`.
use Rattle.std.specs.Prelude.{ℕ, ◌==◌, if◌then◌else◌, List, [], ◌∷◌, ◌++◌, length, take}
use Rattle.std.specs.Prelude.{codes, decimal, Option, Some, None}
use Rattle.std.specs.List.{flat_map}
use Rattle.smi_show.specs.name.Beginnings.{beginnings}
use Rattle.smi_tree.specs.{Nodes.last_number, Tree.Contents}
use Rattle.smi_tree.specs.Naming.{NodeView, nearest_node}

-- the label of `node` and `n` in parentheses if `node` is at `here`, otherwise only `n`; `node` is
-- the deepest node at `here` or above, if there is one
abbrev pub labelled_number : Option NodeView → List ℕ → ℕ → List ℕ
labelled_number None here n = decimal n
labelled_number (Some node) here n =
    if node.depth == length here then node.label ++ codes "(" ++ decimal n ++ codes ")"
    else decimal n

-- the last number of `here` and a blank; if a node is at `here`, the number is in parentheses after
-- the label of that node
abbrev pub labelled_part : Contents → List ℕ → List ℕ
labelled_part tree here =
    labelled_number (nearest_node tree here) here (last_number here) ++ codes " "

-- for each number of `o`, the number and a blank; if a node's identifier is `o` up to and with this
-- number, the number is in parentheses after the label of that node
abbrev pub labelled_parts : Contents → List ℕ → List ℕ
labelled_parts tree o = flat_map (labelled_part tree) (beginnings o)

-- each number but the last as in `labelled_parts`, then the last number without a label, and a
-- blank; nothing if there are no numbers
abbrev pub parts_text : Contents → List ℕ → List ℕ
parts_text tree [] = []
parts_text tree (n ∷ more) =
    let o = n ∷ more in
    labelled_parts tree (take (length more) o) ++ decimal (last_number o) ++ codes " "

abbrev pub identifier_text : Contents → List ℕ → List ℕ
identifier_text tree o = codes "::= { " ++ parts_text tree o ++ codes "}\n"

-- Look-ups of nodes by name and by identifier, in a list in order of loading.
use Rattle.std.specs.Prelude.{◌≡◌, ℕ, Bool, false, ◌&&◌, zero, suc, List, [], ◌∷◌, ◌++◌, ◌<◌, max}
use Rattle.std.specs.Prelude.{unwrap_or, Option, Some, None, map, option_map, if◌then◌else◌}
use Rattle.std.specs.List.{slice_get, position_from}
use Rattle.smi_text.specs.{trees.Mark.same_text, declared.trees.tree.Module.Module}
use Rattle.smi_tree.specs.branches.FirstIndex.{first_index}
use Rattle.smi_names.specs.{meaning.Meaning.or_else, nodes.Nodes.Node}

-- whether `n` has this label
abbrev pub has_label : List ℕ → Node → Bool
has_label label n = same_text n.label label

-- whether there is a module, and it has the name `home`
abbrev pub is_named : List ℕ → Option Module → Bool
is_named home None = false
is_named home (Some m) = same_text m.name.octets home

abbrev pub is_of : List ℕ → List ℕ → Node → Bool
is_of home label n = is_named home n.home && has_label label n

-- the index of the first node with this label in a module named `home`
abbrev pub index_in_module : List Node → List ℕ → List ℕ → Option ℕ
index_in_module nodes home label = position_from (is_of home label) 0 nodes

-- the index of the first node with this label
abbrev pub index_anywhere : List Node → List ℕ → Option ℕ
index_anywhere nodes label = position_from (has_label label) 0 nodes

-- the identifiers of the nodes
abbrev pub oids_of : List Node → List (List ℕ)
oids_of nodes = map (λ n. n.oid) nodes

-- whether there is a node at index `k` that has this label
abbrev pub is_labelled : List Node → List ℕ → ℕ → Bool
is_labelled nodes label k = unwrap_or (option_map (has_label label) (slice_get nodes k)) false

abbrev pub if_labelled : List Node → List ℕ → Option ℕ → Option ℕ
if_labelled nodes label None = None
if_labelled nodes label (Some k) = if is_labelled nodes label k then Some k else None

-- the result is what `f` returns for the lowest number for which `f` isn't `None`, or `None` if
-- `f` is `None` for all numbers
pub data IsOfLowest (f : ℕ → Option ℕ) : Option ℕ → Type 0 where
  nothing : ((n : ℕ) → f n ≡ None) → IsOfLowest f None
  lowest : (n k : ℕ) → f n ≡ Some k → ((m : ℕ) → m < n → f m ≡ None) → IsOfLowest f (Some k)

-- the result of `f` for the lowest number for which `f` isn't `None`, if that number is below the
-- bound, the second argument; otherwise `None`
unfoldable pub of_lowest : (ℕ → Option ℕ) → ℕ → Option ℕ
of_lowest f zero = None
of_lowest f (suc n) = or_else (of_lowest f n) (f n)

-- the last number of an identifier, or 0 if it is empty
abbrev pub last_number : List ℕ → ℕ
last_number [] = 0
last_number (n ∷ []) = n
last_number (n ∷ next ∷ more) = last_number (next ∷ more)

-- the highest of the last numbers of identifiers, or 0 if the list is empty
abbrev pub highest : List (List ℕ) → ℕ
highest [] = 0
highest (o ∷ os) = max (last_number o) (highest os)

-- the index of the node that represents `o` with `n` appended, if it has this label
abbrev pub child_at : List Node → List ℕ → List ℕ → ℕ → Option ℕ
child_at nodes o label n = if_labelled nodes label (first_index (oids_of nodes) (o ++ n ∷ []))

-- the result is the index of the first child of `o` with this label, the one with the lowest
-- number, or `None` if there is none
abbrev pub IsFirstChild : List Node → List ℕ → List ℕ → Option ℕ → Type 0
IsFirstChild nodes o label = IsOfLowest (child_at nodes o label)

-- the index of the first child of `o` with this label, computed; the law `look_ups` says that this
-- is the first child, by `IsFirstChild`
abbrev pub child_of : List Node → List ℕ → List ℕ → Option ℕ
child_of nodes o label = of_lowest (child_at nodes o label) (suc (highest (oids_of nodes)))

-- ---- for private functions

-- the labels of the nodes
abbrev pub labels_of : List Node → List (List ℕ)
labels_of nodes = map (λ n. n.label) nodes

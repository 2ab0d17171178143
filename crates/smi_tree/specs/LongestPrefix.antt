-- The longest prefix of an identifier that is in a list of identifiers, or that has a node.
use Rattle.std.specs.Prelude.{ℕ, zero, suc, List, [], length, take, Option, Some, None}
use Rattle.smi_tree.specs.{branches.FirstIndex.first_index, Nodes.oids_of}
use Rattle.smi_tree.specs.declared.branches.identifiers.Deepest.{Deepest}
use Rattle.smi_names.specs.{meaning.Meaning.or_else, nodes.Nodes.Node}

-- the first index of a prefix in a list, and the number of numbers in the prefix
pub record Longest : Type 0 where
  pub id : ℕ
  pub depth : ℕ

abbrev pub at_depth : ℕ → Option ℕ → Option Longest
at_depth depth None = None
at_depth depth (Some id) = Some (record { id = id; depth = depth })

-- The longest prefix of `o` of at most `j` numbers that is in the list, if `j` is at most the
-- length of `o`.
unfoldable pub longest_up_to : List (List ℕ) → List ℕ → ℕ → Option Longest
longest_up_to oids o zero = at_depth 0 (first_index oids [])
longest_up_to oids o (suc j) =
    or_else (at_depth (suc j) (first_index oids (take (suc j) o))) (longest_up_to oids o j)

-- the longest prefix of `o` that has a node: the index of the node, and the length of the prefix;
-- `None` if no prefix of `o` has a node; the law `look_ups` says that what is computed here is this
-- prefix, by `IsDeepestAt`
abbrev pub longest : List Node → List ℕ → Option Longest
longest nodes o = longest_up_to (oids_of nodes) o (length o)

-- the length of the prefix, or 0 if there is none
abbrev pub depth_of : Option Longest → ℕ
depth_of None = 0
depth_of (Some l) = l.depth

-- ---- for private functions

-- the longest prefix that the code returns, as a value: its index and its length
abbrev pub longest_of : Deepest → Longest
longest_of d = record { id = d.id; depth = d.depth }

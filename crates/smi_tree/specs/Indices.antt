-- Look-ups of sources by name, and maps from names to indices. A source is what a node comes from:
-- a root or a definition.
use Rattle.std.specs.Prelude.{◌≡◌, ◌≢◌, ℕ, ◌<◌, ◌≤◌, ◌==◌, ◌&&◌, Bool, false, List, [], length}
use Rattle.std.specs.Prelude.{if◌then◌else◌, Option, Some, None, option_map, slice_index_or}
use Rattle.std.specs.{Option.option_and_then, List.slice_get, List.position_from}
use Rattle.indexmap.specs.IndexMap.{IndexMap, get}
use Rattle.smi_text.specs.{trees.Mark.same_text, declared.trees.tree.Def.Def}
use Rattle.smi_text.specs.declared.trees.tree.Module.{Module}
use Rattle.smi_names.specs.{meaning.Meaning.root_label, meaning.Names.module_index}
use Rattle.smi_names.specs.meaning.Scopes.{NameIndices, index_in}
use Rattle.smi_names.specs.{nodes.Gathered.def_of_module, declared.hash.NameHash.NameHash}
use Rattle.smi_names.specs.declared.nodes.gather.Source.{Source}
use Rattle.smi_names.specs.declared.nodes.gather.Source.TheVariants as S
use Rattle.smi_tree.specs.Nodes.{is_named}

abbrev pub home_from : List Module → Source → Option Module
home_from ms (S.Root n) = None
home_from ms (S.Definition i k) = slice_get ms i

abbrev pub label_in : Option Def → List ℕ
label_in None = []
label_in (Some d) = d.label.octets

abbrev pub label_from : List Module → Source → List ℕ
label_from ms (S.Root n) = root_label n
label_from ms (S.Definition i k) = label_in (def_of_module (slice_get ms i) k)

-- whether the source `s` has the label `x`
abbrev pub has_label : List Module → List ℕ → Source → Bool
has_label ms x s = same_text (label_from ms s) x

-- whether the source `s` has the label `x` and is in a module named `home`
abbrev pub is_of : List Module → List ℕ → List ℕ → Source → Bool
is_of ms home x s = is_named home (home_from ms s) && has_label ms x s

-- a map to the index of a label's first source in a module; the key is the index of the module,
-- and the index of the label's first source in the whole list
abbrev pub Others : Type 0
Others = IndexMap (ℕ × ℕ) ℕ NameHash

abbrev pub same_key : ℕ × ℕ → ℕ × ℕ → Bool
same_key a b = (a.0 == b.0) && (a.1 == b.1)

-- for each module name `home` and each label `x` whose first source in `ss` isn't in that module,
-- `others` has the index of the first source of `prefix` in that module with that label, if there
-- is one; `ms` are the modules
abbrev pub AreOthers : List Module → List Source → Others → List Source → Type 0
AreOthers ms ss others prefix = (home x : List ℕ) (p f : ℕ) (s : Source)
    → module_index ms home ≡ Some p → position_from (has_label ms x) 0 ss ≡ Some f
    → slice_get ss f ≡ Some s → is_named home (home_from ms s) ≡ false
    → get same_key others (p, f) ≡ position_from (is_of ms home x) 0 prefix

-- the label at index `k`
abbrev pub label_at : List (List ℕ) → ℕ → List ℕ
label_at labels k = slice_index_or labels k []

-- `p` is the last index before `k`, among the first `n` labels, of the label at index `k`; if `k`
-- is the first index of this label, then `p` is its last one
pub record IsPrevious (labels : List (List ℕ)) (n k p : ℕ) : Type 0 where
  pub within : p < n
  pub same : label_at labels p ≡ label_at labels k
  pub between : (j : ℕ) → p < j → j < k → label_at labels j ≢ label_at labels k
  pub around : k ≤ p → (j : ℕ) → j < n → label_at labels j ≡ label_at labels k → (k ≤ j) × (j ≤ p)

-- `previous` has, for each of the first `n` labels, the previous index of the same label
pub record ArePrevious (labels : List (List ℕ)) (n : ℕ) (previous : List ℕ) : Type 0 where
  pub long : length previous ≡ n
  pub each : (k : ℕ) → k < n → IsPrevious labels n k (slice_index_or previous k 0)

-- ---- for private functions

abbrev pub definition_from : List Module → Source → Option Def
definition_from ms (S.Root n) = None
definition_from ms (S.Definition i k) = def_of_module (slice_get ms i) k

-- the key of the source `s` at index `index`, whose label has its first source at index `first`;
-- `None` if it is that first source, if it is in no module, or if `homes` doesn't have the name of
-- its module
abbrev pub key_of : List Module → NameIndices → Source → ℕ → ℕ → Option (ℕ × ℕ)
key_of ms homes s first index = if first == index then None else
    option_and_then (λ m. option_map (λ p. (p, first)) (index_in homes m.name.octets))
    (home_from ms s)

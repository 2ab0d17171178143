-- The branches of a list of identifiers: one for each prefix of an identifier.
use Rattle.std.specs.Prelude.{◌≡◌, ◌≢◌, ℕ, ◌+◌, ◌<◌, ◌≤◌, ◌⊎◌, List, [], ◌∷◌, ◌++◌, length, take}
use Rattle.std.specs.Prelude.{slice_index_or, Option, Some, None}
use Rattle.std.specs.{List.slice_get, Option.option_and_then, Ordering.nat_cmp, BTreeMap.get}
use Rattle.smi_tree.specs.branches.FirstIndex.{first_index, oid_at}
use Rattle.smi_tree.specs.declared.branches.branch.Branch.{Branch}
use Rattle.smi_tree.specs.declared.branches.identifiers.Deepest.{Deepest}

-- the branch that `n` reaches from the branch `at`: the branch that is stored there for `n`
abbrev pub follower : List Branch → ℕ → ℕ → Option ℕ
follower bs at n = option_and_then (λ b. get nat_cmp b.after n) (slice_get bs at)

-- the index that is stored at the branch `at`
abbrev pub id_at : List Branch → ℕ → Option ℕ
id_at bs at = option_and_then (λ b. b.node_id) (slice_get bs at)

-- the branch that numbers reach from the branch `at`, one after the other; `next b n` is the branch
-- that `n` reaches from the branch `b`
abbrev pub walk : (ℕ → ℕ → Option ℕ) → ℕ → List ℕ → Option ℕ
walk next at [] = Some at
walk next at (n ∷ rest) = option_and_then (λ b. walk next b rest) (next at n)

-- the branch that the numbers of `o` reach from the first branch
abbrev pub branch_of : List Branch → List ℕ → Option ℕ
branch_of bs o = walk (follower bs) 0 o

-- one of the identifiers `oids` begins with `o`
abbrev pub IsBeginning : List (List ℕ) → List ℕ → Type 0
IsBeginning oids o = (k : ℕ) × (rest : List ℕ) × (k < length oids) × (oid_at oids k ≡ o ++ rest)

-- exactly one list of numbers reaches each branch: the empty list for the first branch, and a
-- prefix of one of `known` for each other one; the index that is stored at a branch is the first
-- index of this list in `oids`, if it has one; and each identifier of `oids` reaches a branch
pub record AreBranches (known oids : List (List ℕ)) (bs : List Branch) : Type 0 where
  pub some : 0 < length bs
  pub within : (at n b : ℕ) → follower bs at n ≡ Some b → b < length bs
  pub apart : (o p : List ℕ) (b : ℕ) → branch_of bs o ≡ Some b → branch_of bs p ≡ Some b → o ≡ p
  pub node_id : (o : List ℕ) (b : ℕ) → branch_of bs o ≡ Some b → id_at bs b ≡ first_index oids o
  pub each : (k : ℕ) → k < length oids → (b : ℕ) × (branch_of bs (oid_at oids k) ≡ Some b)
  pub only : (o : List ℕ) (b : ℕ) → branch_of bs o ≡ Some b → o ≢ [] → IsBeginning known o
  pub reached : (at : ℕ) → at < length bs → (o : List ℕ) × (branch_of bs o ≡ Some at)

-- `bs` are the branches of the identifiers `oids`: one for each prefix, also for the empty one
abbrev pub AreBranchesOf : List (List ℕ) → List Branch → Type 0
AreBranchesOf oids bs = AreBranches oids oids bs

-- ---- for private functions

-- branch `b` was added at the end; `n` reached no branch from the branch `at` before; each step
-- from branch to branch in `new` is one in `old`, or the step by `n` from `at` to `b`; and no
-- stored index was changed
pub record AddsBranch (old new : List Branch) (at n b : ℕ) : Type 0 where
  pub is : b ≡ length old
  pub long : length new ≡ b + 1
  pub none : follower old at n ≡ None
  pub back : (c m d : ℕ) → follower new c m ≡ Some d
      → (follower old c m ≡ Some d) ⊎ ((c ≡ at) × (m ≡ n) × (d ≡ b))
  pub node_id : (c : ℕ) → id_at new c ≡ id_at old c

-- `n` reaches branch `b` from the branch `at` in `new`; either `new` is `old`, or `b` was added and
-- nothing else was changed
pub record GrowsBranch (old new : List Branch) (at n b : ℕ) : Type 0 where
  pub refers_to : follower new at n ≡ Some b
  pub kept : (c m d : ℕ) → follower old c m ≡ Some d → follower new c m ≡ Some d
  pub adds : (new ≡ old) ⊎ AddsBranch old new at n b

-- the longest prefix once numbers have reached `branch`: the `depth` numbers that reach it, if an
-- index is stored there (the first argument), otherwise `before`, the longest prefix up to then
abbrev pub deeper_of : Option ℕ → (branch depth : ℕ) → Option Deepest → Option Deepest
deeper_of None branch depth before = before
deeper_of (Some id) branch depth before =
    Some (record { id = id; depth = depth; branch = branch })

-- the result is `Some d` for the longest prefix `d` of `o` with at most `i` numbers that is in the
-- list, or `None` if no such prefix is
abbrev pub SoFar : List (List ℕ) → List ℕ → ℕ → Option Deepest → Type 0
SoFar oids o i None = (j : ℕ) → j ≤ i → first_index oids (take j o) ≡ None
SoFar oids o i (Some d) =
    (d.depth ≤ i) × (first_index oids (take d.depth o) ≡ Some d.id)
    × ((j : ℕ) → d.depth < j → j ≤ i → first_index oids (take j o) ≡ None)

-- the first `depth` numbers of `o` reach `branch`, and `deepest` is the longest prefix of them
-- that is in the list
pub record IsUnderWay (oids : List (List ℕ)) (bs : List Branch) (o : List ℕ) (depth branch : ℕ)
    (deepest : Option Deepest) : Type 0 where
  pub within : depth ≤ length o
  pub here : branch_of bs (take depth o) ≡ Some branch
  pub so_far : SoFar oids o depth deepest

-- for `j` from 0 to the length of `o`, `way` has at index `j` the branch that the first `j` numbers
-- of `o` reach
pub record IsWay (bs : List Branch) (o way : List ℕ) : Type 0 where
  pub each : (j : ℕ) → j ≤ length o → branch_of bs (take j o) ≡ Some (slice_index_or way j 0)

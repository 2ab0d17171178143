-- The numbers after the prefix that is shared with the last identifier are followed, and the index is stored at the last branch, if none was stored there.
use Rattle.std.proofs.{lemmas.Grind.common_steps, lemmas.Bool.cases_lt}
use Rattle.std.proofs.Common.{rules, ◌≡◌, ℕ, ◌+◌, ◌<◌, ◌≤◌, is_some, Option, List, [], ◌∷◌, ◌++◌, Some, None, get_or, set, take, length, refl}
use Rattle.std.proofs.Common.{◌∙◌, arith}
use Rattle.std.proofs.lemmas.List.{take_more, take_all, length-set, length-take-le, get_or_default, get_or-set_same, get_or-set_other, take-take}
use Rattle.smi_tree.specs.branches.Branches.{AreBranches, AreBranchesOf, branch_of, IsWay, GrowsBranch}
use Rattle.smi_tree.specs.declared.branches.branch.Branch.{Branch}
use Rattle.smi_tree.proofs.BranchLists.{Branches-known, Branches-grown, Branches-ended, branch_grown, begins_push, branch_inside, branch_kept, stays}
use Rattle.smi_names.specs.meaning.Meaning.{or_else}
use Rattle.smi_tree.proofs.branches.branch.add.Goals as goal

-- if two identifiers share a prefix, their ways are the same up to its length
way_shared : (bs : List Branch) (last o way : List ℕ) (from j : ℕ) → IsWay bs last way → take from last ≡ take from o → from ≤ length last → j ≤ from
    → branch_of bs (take j o) ≡ Some (get_or way j 0)
way_shared bs last o way from j is same within l = grind (arith, take-take j from o, take-take j from last, is.each j)

pub numbers-init : goal.numbers-init
numbers-init c =
    let prefix : (j : ℕ) → j ≤ c.common_prefix_len-from.result
    → branch_of c.args.branches.now.items (take j c.as_slice-numbers.result.now) ≡ Some (get_or c.args.way.now j 0) =
    λ j l. way_shared c.args.branches.now.items c.args.last.now c.as_slice-numbers.result.now c.args.way.now c.common_prefix_len-from.result j c.requires.on_way
    c.common_prefix_len-from.ensures.same c.common_prefix_len-from.ensures.within l in
    record {
      branches = rw (take_more c.args.oids.now c.args.id [] c.requires.within) (Branches-known _ _ _ _ c.requires.before);
      here = prefix c.common_prefix_len-from.result (omega arith);
      long = search rules;
      way = prefix;
    }

pub grow-requires : goal.grow-requires
grow-requires c = branch_inside _ _ _ c.numbers.invariant.branches _ _ c.numbers.invariant.here

module _ (oids : List (List ℕ)) (id : ℕ) (o p : List ℕ) (i : ℕ) (bs : List Branch) (at : ℕ) (within : id < length oids)
    (read : p ≡ get_or oids id p) (same : o ≡ p) (are : AreBranches (take (id + 1) oids) (take id oids) bs)
    (here : branch_of bs (take i o) ≡ Some at) where
  is : o ≡ get_or oids id []
  is = same ∙ read ∙ get_or_default oids id p [] within

  prefix : take (id + 1) oids ≡ take id oids ++ o ∷ []
  prefix = take_more oids id [] within ∙ rw (← is) refl

  -- if one more number is followed, then the first `i + 1` numbers reach the new branch, and the branches stay right
  module _ (new : List Branch) (b : ℕ) (inside : i < length o) (grows : GrowsBranch bs new at (get_or o i 0) b) where
    here_more : branch_of new (take (i + 1) o) ≡ Some b
    here_more = rw (take_more o i 0 inside) (branch_grown bs new at (get_or o i 0) b grows (take i o) here)

    more : (way : List ℕ) → ((j : ℕ) → j ≤ i → branch_of bs (take j o) ≡ Some (get_or way j 0)) → i + 1 < length way
        → AreBranches (take (id + 1) oids) (take id oids) new × (branch_of new (take (i + 1) o) ≡ Some b)
        × ((j : ℕ) → j ≤ i + 1 → branch_of new (take j o) ≡ Some (get_or (set way (i + 1) b) j 0))
    more way before room = (
      Branches-grown (take (id + 1) oids) (take id oids) bs are new (take i o) at (get_or o i 0) b here grows
          (rw (prefix, ← take_more o i 0 inside) (begins_push (take id oids) o (i + 1))),
      here_more,
      λ j l. grind (
        arith,
        cases_lt i j,
        get_or-set_same way (i + 1) b 0 room,
        get_or-set_other way (i + 1) j b 0,
        here_more,
        before j,
        branch_kept bs new at (get_or o i 0) b grows (take j o),
      ),
    )

  -- if the index is stored at the branch of the whole identifier, unless one was stored before, then the branches are right for the list with it
  module _ (a : Branch) (s : Option ℕ) (end : length o ≤ i) (branch : a ≡ get_or bs at a) where
    ended : s ≡ or_else a.node_id (Some id) → AreBranchesOf (take (id + 1) oids) (set bs at (record { after = a.after; node_id = s }))
    ended is_at = rw prefix (Branches-ended (take id oids) o bs at a s (rw prefix at are) (rw (take_all i o end) at here) branch
        (rw (length-take-le id oids (omega arith)) is_at))

    way_ended : (way : List ℕ) → ((j : ℕ) → j ≤ i → branch_of bs (take j o) ≡ Some (get_or way j 0))
        → IsWay (set bs at (record { after = a.after; node_id = s })) (get_or oids id []) way
    way_ended way before = record {
      each = λ j l. rw (← is) (stays (take id oids) o bs at a s (rw prefix at are) (rw (take_all i o end) at here) branch
          (take j o) (get_or way j 0) (before j (omega (arith, rw (← is) at l))));
    }

pub numbers-preserved : goal.numbers-preserved
numbers-preserved c =
    let short : length c.as_slice-numbers.result.now ≤ 128 = rw c.as_slice-numbers.ensures.value c.as_slice-numbers.ensures.at_most_128 in
    let inside : c.numbers.i < length c.as_slice-numbers.result.now = search rules in
    let m = more c.args.oids.now c.args.id c.as_slice-numbers.result.now c.index-oids-id.result c.numbers.i c.numbers.branches.items c.numbers.at
    c.requires.within c.index-oids-id.is c.as_slice-numbers.ensures.value c.numbers.invariant.branches c.numbers.invariant.here
    c.grow.new.branches.items c.in_ok-at.at inside c.in_ok-at.ensures.grows c.numbers.way c.numbers.invariant.way
    (omega (arith, inside, short, c.numbers.invariant.long)) in
    record { branches = m.0; here = m.1; long = length-set c.numbers.way (c.numbers.i + 1) c.in_ok-at.at ∙ c.numbers.invariant.long; way = m.2 }

pub index_mut-branch-requires : goal.index_mut-branch-requires
index_mut-branch-requires c = let inside = branch_inside _ _ _ c.numbers.invariant.branches _ _ c.numbers.invariant.here in search (rules, inside)

pub returns-then-is_none : goal.returns-then-is_none
returns-then-is_none c =
    let a = c.index_mut-branch.result.now in
    let none : a.node_id ≡ None = search rules in
    record {
      added = ended c.args.oids.now c.args.id c.as_slice-numbers.result.now c.index-oids-id.result c.numbers.i c.numbers.branches.items c.numbers.at
          c.requires.within c.index-oids-id.is c.as_slice-numbers.ensures.value c.numbers.invariant.branches c.numbers.invariant.here
          a (Some c.args.id) (search rules) (search rules) (rw none refl);
      on_way = way_ended c.args.oids.now c.args.id c.as_slice-numbers.result.now c.index-oids-id.result c.numbers.i c.numbers.branches.items c.numbers.at
          c.requires.within c.index-oids-id.is c.as_slice-numbers.ensures.value c.numbers.invariant.branches c.numbers.invariant.here
          a (Some c.args.id) (search rules) (search rules) c.numbers.way c.numbers.invariant.way;
    }

pub returns-else-is_none : goal.returns-else-is_none
returns-else-is_none c = grind (arith, common_steps, is_some, ended, way_ended)

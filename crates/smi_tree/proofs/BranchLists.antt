-- If the branches of a list of identifiers are right (`AreBranches`), then they stay right as an identifier is appended and its branches are added.
use Rattle.std.proofs.{lemmas.Grind.common_steps, lemmas.Bool.cases_lt, lemmas.Bool.cases_eq, Math.Seq.take-append_seam}
use Rattle.std.proofs.lemmas.Option.{slice_get_past, slice_get_read}
use Rattle.std.proofs.Common.{◌≡◌, ◌≢◌, ℕ, ◌+◌, ◌<◌, ◌⊎◌, inl, inr, List, [], ◌∷◌, ◌++◌, length, take, drop, set, get_or, MatchOption, Option, Some}
use Rattle.std.proofs.Common.{None, refl, sym, ap, ◌∙◌, arith}
use Rattle.std.proofs.lemmas.List.{length-append, length_push, length-set, get_or_append_left, get_or_push, take-append-drop, take_more, take-take}
use Rattle.std.specs.List.{slice_get}
use Rattle.smi_tree.specs.branches.FirstIndex.{first_index, oid_at, HasNoBeginning, IsDeepestAt}
use Rattle.smi_tree.specs.branches.Branches.{follower, id_at, branch_of, IsBeginning, AreBranches, AreBranchesOf, SoFar, IsUnderWay}
use Rattle.smi_tree.specs.branches.Branches.{GrowsBranch, AddsBranch}
use Rattle.snmp_oid.specs.Identifier.{IsBelow}
use Rattle.smi_tree.specs.{declared.branches.branch.Branch.Branch, declared.branches.identifiers.Deepest.Deepest}
use Rattle.smi_names.specs.meaning.Meaning.{or_else}
use Rattle.smi_tree.proofs.{First.none_if, FirstIndex.index_found, FirstIndex.index_push_itself, FirstIndex.index_push_other}
use Rattle.smi_tree.proofs.NewBranches.{follower_past, id_inside, get-set_same, get-set_other}
use Rattle.smi_tree.proofs.BranchWalks.{walk_push, walk_off, walk_within, walk_kept, walk_back}

module _ (bs new : List Branch) (at n b : ℕ) (grows : GrowsBranch bs new at n b) where
  -- if numbers reached a branch before `bs` grew to `new`, then they still reach it
  pub branch_kept : (o : List ℕ) (c : ℕ) → branch_of bs o ≡ Some c → branch_of new o ≡ Some c
  branch_kept o = walk_kept (follower bs) (follower new) grows.kept o 0

  -- if numbers reached the branch `at`, then with `n` appended they reach `b`
  pub branch_grown : (q : List ℕ) → branch_of bs q ≡ Some at → branch_of new (q ++ n ∷ []) ≡ Some b
  branch_grown q here = walk_push (follower new) 0 q n ∙ rw (branch_kept q at here) grows.refers_to

module _ (known oids : List (List ℕ)) (bs : List Branch) (are : AreBranches known oids bs) where
  -- if numbers reach no branch, they aren't one of the identifiers
  pub index_off : (o : List ℕ) → branch_of bs o ≡ None → first_index oids o ≡ None
  index_off o e = none_if (first_index oids o) (λ k h. let f = index_found oids o k h in let b = are.each k f.0 in let same = rw f.1 at b.1 in cc)

  -- if numbers reach no branch, no identifier begins with them
  pub indices_off : (xs ys : List ℕ) → branch_of bs xs ≡ None → first_index oids (xs ++ ys) ≡ None
  indices_off xs ys e = index_off (xs ++ ys) (walk_off (follower bs) 0 xs ys e)

  -- if numbers reach a branch, it is in the list of branches
  pub branch_inside : (o : List ℕ) (b : ℕ) → branch_of bs o ≡ Some b → b < length bs
  branch_inside o b e = walk_within (follower bs) (length bs) are.within o 0 b are.some e

  -- if an index is stored at a branch, the numbers of the identifier at that index reach the branch
  pub id_way : (at id : ℕ) → id_at bs at ≡ Some id → branch_of bs (oid_at oids id) ≡ Some at
  id_way at id e =
      let r = are.reached at (id_inside bs at id e) in rw (index_found oids r.0 id (sym (are.node_id r.0 at r.1) ∙ e)).1 r.1

  module _ (new : List Branch) (q : List ℕ) (at n b : ℕ) (here : branch_of bs q ≡ Some at) (grows : GrowsBranch bs new at n b) where
    module _ (a : AddsBranch bs new at n b) (begins : IsBeginning known (q ++ n ∷ [])) where
      off : first_index oids (q ++ n ∷ []) ≡ None
      off = index_off (q ++ n ∷ []) (walk_push (follower bs) 0 q n ∙ rw here a.none)

      empty : (m : ℕ) → follower new b m ≡ None
      empty m = grind (arith, follower_past bs b m, a.is, a.back b m, branch_inside q at here)

      old_or_new : (o : List ℕ) (c : ℕ) → branch_of new o ≡ Some c → (branch_of bs o ≡ Some c) ⊎ ((o ≡ q ++ n ∷ []) × (c ≡ b))
      old_or_new o c e = grind (arith, walk_back (follower bs) (follower new) at n b a.back empty o 0 c e, are.apart, here)

      added : AreBranches known oids new
      added = record {
        some = omega (arith, a.long);
        within = λ c m d e. grind (arith, are.within c m d, a.back c m d, a.is, a.long);
        apart = λ o p c eo ep. grind (arith, old_or_new o c eo, old_or_new p c ep, are.apart o p c, branch_inside o c, branch_inside p c, a.is);
        node_id = λ o c e. grind (arith, old_or_new o c e, are.node_id o c, a.node_id c, off, slice_get_past bs c, a.is);
        each = λ k l. let c = are.each k l in (c.0, branch_kept bs new at n b grows (oid_at oids k) c.0 c.1);
        only = λ o c e f. grind (arith, common_steps, old_or_new, are.only);
        reached = λ c l. elim (cases_lt c b) [
          | inl m ↦ let r = are.reached c (omega (arith, a.is)) in (r.0, branch_kept bs new at n b grows r.0 c r.1)
          | inr m ↦ let is : c ≡ b = omega (arith, a.long, l) in (q ++ n ∷ [], rw is (branch_grown bs new at n b grows q here))
        ];
      }

    pub Branches-grown : IsBeginning known (q ++ n ∷ []) → AreBranches known oids new
    Branches-grown begins = elim grows.adds [ inl e ↦ rw e are | inr a ↦ added a begins ]

-- if branches are right for the identifiers `known`, then they are right with one more identifier, `p`, in this list
pub Branches-known : (known oids : List (List ℕ)) (p : List ℕ) (bs : List Branch) → AreBranches known oids bs → AreBranches (known ++ p ∷ []) oids bs
Branches-known known oids p bs are = grind (arith, common_steps, length_push, get_or_append_left)

-- if `p` is appended to the identifiers `known`, then one identifier of the longer list begins with the first `j` numbers of `p`
pub begins_push : (known : List (List ℕ)) (p : List ℕ) (j : ℕ) → IsBeginning (known ++ p ∷ []) (take j p)
begins_push known p j =
    (length known, drop j p, omega (arith, length_push known p), get_or_push known p [] (length known) refl ∙ sym (take-append-drop j p))

-- if the branches `bs` are right for the list `oids`, and they also have the prefixes of `p`, whose numbers reach the branch `at`, then `new` is right for
-- `oids ++ p ∷ []`; in `new`, the index of `p` is stored at `at`, or the index that was stored there before
module _ (oids : List (List ℕ)) (p : List ℕ) (bs : List Branch) (at : ℕ) (a : Branch) (s : Option ℕ) (are : AreBranches (oids ++ p ∷ []) oids bs)
    (here : branch_of bs p ≡ Some at) (read : a ≡ get_or bs at a) where
  abbrev new : List Branch
  new = set bs at (record { after = a.after; node_id = s })

  inside : at < length bs
  inside = branch_inside (oids ++ p ∷ []) oids bs are p at here

  was : slice_get bs at ≡ Some a
  was = slice_get_read bs (length bs) at a refl inside read

  is : slice_get new at ≡ Some (record { after = a.after; node_id = s })
  is = get-set_same bs at (record { after = a.after; node_id = s }) inside

  elsewhere : (c : ℕ) → c ≢ at → slice_get new c ≡ slice_get bs c
  elsewhere c f = get-set_other bs at c (record { after = a.after; node_id = s }) f

  same : (c m : ℕ) → follower new c m ≡ follower bs c m
  same c m = grind (arith, cases_eq c at, was, is, elsewhere c)

  pub stays : (o : List ℕ) (b : ℕ) → branch_of bs o ≡ Some b → branch_of new o ≡ Some b
  stays o = walk_kept (follower bs) (follower new) (λ c m d e. same c m ∙ e) o 0

  back : (o : List ℕ) (b : ℕ) → branch_of new o ≡ Some b → branch_of bs o ≡ Some b
  back o = walk_kept (follower new) (follower bs) (λ c m d e. sym (same c m) ∙ e) o 0

  pub Branches-ended : s ≡ or_else a.node_id (Some (length oids)) → AreBranchesOf (oids ++ p ∷ []) new
  Branches-ended is_at =
      let long = length-set bs at (record { after = a.after; node_id = s }) in record {
        some = omega (arith, inside, long);
        within = λ c m b e. omega (arith, long, are.within c m b (sym (same c m) ∙ e));
        apart = λ o r b eo er. are.apart o r b (back o b eo) (back r b er);
        node_id = λ o b e. grind (
          arith,
          cases_eq b at,
          are.apart p o at here,
          back o b e,
          was,
          is,
          elsewhere b,
          index_push_itself oids p,
          index_push_other oids p o,
          are.node_id p at here,
          are.node_id o b,
          is_at,
        );
        each = λ k l. elim (cases_lt k (length oids)) [
          | inl m ↦ let b = are.each k m in (b.0, rw (get_or_append_left oids (p ∷ []) [] k m) (stays (oid_at oids k) b.0 b.1))
          | inr m ↦ (at, rw (get_or_push oids p [] k (omega (arith, length_push oids p))) (stays p at here))
        ];
        only = λ o b e f. are.only o b (back o b e) f;
        reached = λ c l. let r = are.reached c (omega (arith, l, long)) in (r.0, stays r.0 c r.1);
      }

-- if no number follows the only branch in a list, and no index is stored at it, then this list of branches is right for no identifiers
pub Branches-none : (b : Branch) → ((n : ℕ) → follower (b ∷ []) 0 n ≡ None) → b.node_id ≡ None → AreBranchesOf [] (b ∷ [])
Branches-none b none is_at = record {
  some = omega arith;
  within = λ c n d e. grind (arith, cases_eq c 0, none n, follower_past (b ∷ []) c n);
  apart = λ o p c eo ep. grind (arith, first o c, first p c);
  node_id = λ o c e. grind (arith, first o c, is_at);
  each = λ k l. absurd (omega arith);
  only = λ o c e f. grind (arith, first o c);
  reached = λ c l. grind (arith, cases_eq c 0);
}
  where
    first : (o : List ℕ) (c : ℕ) → branch_of (b ∷ []) o ≡ Some c → (o ≡ []) × (c ≡ 0)
    first [] c e = (refl, cc)
    first (n ∷ o) c e = grind (arith, common_steps, none n)

-- if the first `i` numbers of `o` reach the branch `at`, then the first `i + 1` numbers reach what the last of them reaches from `at`
pub branch_more : (bs : List Branch) (o : List ℕ) (i at : ℕ) → i < length o → branch_of bs (take i o) ≡ Some at
    → branch_of bs (take (i + 1) o) ≡ follower bs at (get_or o i 0)
branch_more bs o i at l e = rw (take_more o i 0 l, walk_push (follower bs) 0 (take i o) (get_or o i 0), e) refl

pub branch_off : (bs : List Branch) (o : List ℕ) (i at : ℕ) → i < length o → branch_of bs (take i o) ≡ Some at
    → follower bs at (get_or o i 0) ≡ None → branch_of bs o ≡ None
branch_off bs o i at l e f = grind (arith, common_steps, take-append-drop (i + 1) o, walk_off, branch_more)

pub SoFar-whole : (oids : List (List ℕ)) (o : List ℕ) (r : Option Deepest) → SoFar oids o (length o) r
    → MatchOption r (HasNoBeginning oids o) (λ d. IsDeepestAt oids o d.id d.depth)
SoFar-whole oids o r f = grind (arith, common_steps)

-- if the first `i` numbers of `o` reach the branch `at`, and the next number reaches no branch from `at`, then no prefix of more than `i` numbers is in the
-- list
pub none_beyond : (oids : List (List ℕ)) (bs : List Branch) → AreBranchesOf oids bs → (o : List ℕ) (i at : ℕ) → i < length o → branch_of bs (take i o) ≡ Some at
    → follower bs at (get_or o i 0) ≡ None → (j : ℕ) → i < j → first_index oids (take j o) ≡ None
none_beyond oids bs are o i at l e f j m =
    let none = rw (← take-take (i + 1) j o (omega arith)) at (branch_more bs o i at l e ∙ f) in
    rw take-append-drop at (indices_off oids oids bs are (take (i + 1) (take j o)) (drop (i + 1) (take j o)) none)

-- if `o` is below `known`, whose index is stored at the branch `at`, then a search for `o` can begin at that branch
pub way_known : (oids : List (List ℕ)) (bs : List Branch) → AreBranchesOf oids bs → (o known : List ℕ) (at id : ℕ) → id_at bs at ≡ Some id
    → oid_at oids id ≡ known → IsBelow o known
    → IsUnderWay oids bs o (length known) at (Some (record { id = id; depth = length known; branch = at }))
way_known oids bs are o known at id is_at read (rest, some, is) =
    let way = rw read at (id_way oids oids bs are at id is_at) in
    let prefix : take (length known) o ≡ known = rw is (take-append_seam known rest) in
    record {
      within = omega (arith, ap length is, length-append known rest);
      here = rw prefix way;
      so_far = (omega arith, rw prefix (sym (are.node_id known at way) ∙ is_at), λ j l m. absurd (omega arith));
    }

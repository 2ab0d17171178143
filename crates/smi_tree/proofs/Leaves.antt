-- If no identifier of a list is below `root`, which is in the list, then `root` is the longest prefix, in the list, of each identifier below `root`.
use Rattle.std.proofs.Common.{◌≡◌, ℕ, ◌+◌, List, [], ◌∷◌, ◌++◌, length, take, drop, Option, Some, None, IfSome, MatchOption, refl, ap, ◌∙◌}
use Rattle.std.proofs.Common.{append_assoc, arith}
use Rattle.std.proofs.lemmas.List.{length-append, length-take-le, length-drop, take-take, take-append-drop}
use Rattle.std.proofs.{Math.Seq.take-append_seam, lemmas.Grind.common_steps}
use Rattle.smi_tree.specs.branches.FirstIndex.{first_index, oid_at, HasNoneBelow, IsDeepestAt}
use Rattle.smi_tree.specs.branches.Branches.{follower, id_at, AreBranchesOf}
use Rattle.snmp_oid.specs.Identifier.{IsBelow}
use Rattle.smi_tree.specs.declared.branches.branch.Branch.{Branch}
use Rattle.smi_tree.proofs.{BranchLists.indices_off, BranchLists.id_way, FirstIndex.index_found, BranchWalks.walk_push}

-- if no number follows a branch, then no identifier is below the identifier whose index is stored at the branch
pub none_below : (oids : List (List ℕ)) (bs : List Branch) → AreBranchesOf oids bs → (at id : ℕ) → id_at bs at ≡ Some id
    → ((n : ℕ) → follower bs at n ≡ None) → HasNoneBelow oids (oid_at oids id)
none_below oids bs are at id is_at ends p ([], some, is) = absurd (some refl)
none_below oids bs are at id is_at ends p (n ∷ more, some, is) =
    let known = oid_at oids id in
    let off = walk_push (follower bs) 0 (oid_at oids id) n ∙ rw (id_way oids oids bs are at id is_at) (ends n) in
    rw (is, ← append_assoc known (n ∷ []) more) (indices_off oids oids bs are (known ++ n ∷ []) more off)

-- if no identifier of the list is below `root`, the longest prefix of `o`, then `root` is also the longest prefix of each identifier below `root`
pub deepest_below : (oids : List (List ℕ)) (o p root : List ℕ) (id depth : ℕ) → IsDeepestAt oids o id depth → root ≡ oid_at oids id
    → HasNoneBelow oids root → IsBelow p root → IsDeepestAt oids p id depth
deepest_below oids o p root id depth at read last (rest, some, is) =
    let same : root ≡ take depth o = read ∙ (index_found oids (take depth o) id at.here).1 in
    let long : length root ≡ depth = ap length same ∙ length-take-le depth o at.within in
    let all : length p ≡ length root + length rest = ap length is ∙ length-append root rest in
    let prefix : take depth p ≡ root = rw (← long, is) (take-append_seam root rest) in record {
      within = omega (arith, long, all);
      here = ap (first_index oids) (prefix ∙ same) ∙ at.here;
      none_longer = λ j more within. last (take j p) (
        drop depth (take j p),
        λ none. absurd (omega (arith, ap length none, length-drop depth (take j p), length-take-le j p within)),
        grind (arith, take-append-drop depth (take j p), take-take depth j p, prefix),
      );
    }

-- if `r` is `None` or has the value of the identifier at index `id`, and no identifier of the list is below that one, then none is below the value of `r`
pub last_if_some : {X : Type 0} (value : X → List ℕ) (r : Option X) (oids : List (List ℕ)) (id : ℕ) → IfSome r (λ o. value o ≡ oid_at oids id)
    → HasNoneBelow oids (oid_at oids id) → IfSome r (λ o. HasNoneBelow oids (value o))
last_if_some value r oids id at last = grind (arith, common_steps)

-- if no identifier of the list is below `root`, the longest prefix of `o`, then what holds of each identifier with this longest prefix holds of each
-- identifier below `root`
pub holds_below : {X : Type 0} (value : X → List ℕ) (r : Option X) (oids : List (List ℕ)) (o : List ℕ) (id depth : ℕ) → IsDeepestAt oids o id depth
    → IfSome r (λ root. value root ≡ oid_at oids id) → IfSome r (λ root. HasNoneBelow oids (value root))
    → (Holds : List ℕ → Type 0) → ((p : List ℕ) → IsDeepestAt oids p id depth → Holds p)
    → MatchOption r (Unit {0}) (λ root. (p : List ℕ) → IsBelow p (value root) → Holds p)
holds_below value None oids o id depth at read last Holds holds = tt
holds_below value (Some root) oids o id depth at read last Holds holds =
    λ p below. holds p (deepest_below oids o p (value root) id depth at read last below)

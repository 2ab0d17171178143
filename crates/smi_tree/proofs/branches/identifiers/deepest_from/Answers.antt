-- The invariant of the loop holds after one more number. If no branch follows, then the longest prefix so far is the longest of all.
use Rattle.std.proofs.lemmas.Grind.{common_steps}
use Rattle.std.proofs.Common.{rules, ◌≡◌, ℕ, ◌+◌, ◌<◌, Option, List, Some, None, get_or, take, length, sym, arith}
use Rattle.smi_tree.specs.branches.Branches.{follower, branch_of, id_at, deeper_of, AreBranchesOf, SoFar}
use Rattle.smi_tree.specs.{declared.branches.branch.Branch.Branch, declared.branches.identifiers.Deepest.Deepest}
use Rattle.smi_tree.proofs.BranchLists.{SoFar-whole, branch_more, none_beyond}
use Rattle.smi_tree.proofs.branches.identifiers.deepest_from.Goals as goal

preserved : (oids : List (List ℕ)) (bs : List Branch) → AreBranchesOf oids bs → (o : List ℕ) (i at b : ℕ) (r new : Option Deepest) → i < length o
    → branch_of bs (take i o) ≡ Some at → SoFar oids o i r → follower bs at (get_or o i 0) ≡ Some b → new ≡ deeper_of (id_at bs b) b (i + 1) r
    → (branch_of bs (take (i + 1) o) ≡ Some b) × SoFar oids o (i + 1) new
preserved oids bs are o i at b r new l here far refers_to is = grind (arith, common_steps, branch_more)

ended : (oids : List (List ℕ)) (bs : List Branch) → AreBranchesOf oids bs → (o : List ℕ) (i at : ℕ) (r : Option Deepest) → i < length o
    → branch_of bs (take i o) ≡ Some at → SoFar oids o i r → follower bs at (get_or o i 0) ≡ None → SoFar oids o (length o) r
ended oids bs are o i at r l here far none = grind (arith, common_steps, none_beyond)

pub numbers-preserved : goal.numbers-preserved
numbers-preserved c =
    preserved c.args.oids.now c.args.branches.now c.requires.branches c.as_slice-numbers.result.now c.numbers.i c.numbers.at c.in-Some.longer
    c.numbers.deepest c.deeper-deepest.result (search rules) c.numbers.invariant.0 c.numbers.invariant.1 (search rules) (search rules)

pub returns-in_default : goal.returns-in_default
returns-in_default c = rw (sym c.as_slice-numbers.ensures.value) (SoFar-whole c.args.oids.now c.as_slice-numbers.result.now c.numbers.deepest
    (ended c.args.oids.now c.args.branches.now c.requires.branches c.as_slice-numbers.result.now c.numbers.i c.numbers.at c.numbers.deepest (search rules)
    c.numbers.invariant.0 c.numbers.invariant.1 (search rules)))

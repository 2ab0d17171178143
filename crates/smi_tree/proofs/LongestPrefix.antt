-- `longest_up_to` is the longest prefix of an identifier that is in a list (`longest_is`), and searches find it (`longest_found`).
use Rattle.std.proofs.{lemmas.Grind.common_steps, lemmas.Bool.cases_eq}
use Rattle.std.proofs.Common.{◌≡◌, ℕ, zero, suc, ◌≤◌, inl, inr, List, length, take, Option, Some, None, refl, arith}
use Rattle.std.specs.Prelude.{MatchOption, ◌<◌, option_map}
use Rattle.smi_tree.specs.branches.FirstIndex.{first_index, IsDeepestAt, HasNoBeginning}
use Rattle.smi_names.specs.meaning.Meaning.{or_else}
use Rattle.smi_tree.specs.LongestPrefix.{Longest, at_depth, longest_up_to}

up_to-some : (oids : List (List ℕ)) (o : List ℕ) (p d j : ℕ) → IsDeepestAt oids o p d → d ≤ j → j ≤ length o
    → longest_up_to oids o j ≡ Some (record { id = p; depth = d })
unfolding longest_up_to
up_to-some oids o p d zero at below within = grind (arith, common_steps)
up_to-some oids o p d (suc j) at below within = grind (arith, cases_eq d (suc j), up_to-some oids o p d j at, at.here, at.none_longer (suc j))

up_to-none : (oids : List (List ℕ)) (o : List ℕ) (j : ℕ) → HasNoBeginning oids o → j ≤ length o → longest_up_to oids o j ≡ None
unfolding longest_up_to
up_to-none oids o zero h within = grind (arith, h 0)
up_to-none oids o (suc j) h within = grind (arith, h (suc j), up_to-none oids o j h)

pub longest-some : (oids : List (List ℕ)) (o : List ℕ) (p d : ℕ) → IsDeepestAt oids o p d
    → longest_up_to oids o (length o) ≡ Some (record { id = p; depth = d })
longest-some oids o p d at = up_to-some oids o p d (length o) at at.within (omega arith)

pub longest-none : (oids : List (List ℕ)) (o : List ℕ) → HasNoBeginning oids o → longest_up_to oids o (length o) ≡ None
longest-none oids o h = up_to-none oids o (length o) h (omega arith)

-- if no prefix of more than `j` numbers is in the list, then the longest of at most `j` is the longest of all
up_to : (oids : List (List ℕ)) (o : List ℕ) (j : ℕ) → j ≤ length o → ((k : ℕ) → j < k → k ≤ length o → first_index oids (take k o) ≡ None)
    → MatchOption (longest_up_to oids o j) (HasNoBeginning oids o) (λ at. IsDeepestAt oids o at.id at.depth)
unfolding longest_up_to
up_to oids o zero within above = grind (arith, common_steps, cases_eq)
up_to oids o (suc j) within above = by (first_index oids (take (suc j) o)) refl (up_to oids o j (omega arith))
  where
    Is : Option Longest → Type 0
    Is r = MatchOption r (HasNoBeginning oids o) (λ at. IsDeepestAt oids o at.id at.depth)

    by : (r : Option ℕ) → first_index oids (take (suc j) o) ≡ r
        → (((k : ℕ) → j < k → k ≤ length o → first_index oids (take k o) ≡ None) → Is (longest_up_to oids o j))
        → Is (or_else (at_depth (suc j) r) (longest_up_to oids o j))
    by None e rest = rest (λ k more l. elim (cases_eq k (suc j)) [ inl same ↦ rw same e | inr other ↦ above k (omega arith) l ])
    by (Some id) e rest = record { within = within; here = e; none_longer = above }

-- if the result `r` of a search is the longest prefix of `o` in the list, or `None` if no prefix is in it, then `r` is what `longest_up_to` computes
pub longest_found : {D : Type 0} (of : D → Longest) (oids : List (List ℕ)) (o : List ℕ) (r : Option D)
    → MatchOption r (HasNoBeginning oids o) (λ d. IsDeepestAt oids o (of d).id (of d).depth) → option_map of r ≡ longest_up_to oids o (length o)
longest_found of oids o r h = grind (arith, common_steps, longest-none, longest-some)

pub longest_is : (oids : List (List ℕ)) (o : List ℕ)
    → MatchOption (longest_up_to oids o (length o)) (HasNoBeginning oids o) (λ at. IsDeepestAt oids o at.id at.depth)
longest_is oids o = up_to oids o (length o) (omega arith) (λ k more l. absurd (omega arith))

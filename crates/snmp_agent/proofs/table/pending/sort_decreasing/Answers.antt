use Rattle.std.proofs.{lemmas.Grind.common_steps, lemmas.List.drop_all, lemmas.List.take_all, lemmas.List.Sorted.length_permutation}
use Rattle.std.proofs.Common.{◌≡◌, ◌++◌, ℕ, List, length, take, drop, arith, append-nil}
use Rattle.std.specs.List.Sorted.{IsPermutation}
use Rattle.snmp_agent.proofs.table.pending.sort_decreasing.Goals as goal

-- if all of a list is overwritten by a permutation of the list, then the new list is a permutation of the old one
written : {X : Type 0} (n : ℕ) (xs ys zs : List X) → IsPermutation zs ys → zs ≡ xs → length zs ≡ n
    → IsPermutation xs (take n (ys ++ drop (length ys) xs))
written n xs ys zs moved same size = grind (arith, common_steps, length_permutation, drop_all, append-nil, take_all)

pub returns : goal.returns
returns c = grind (arith, common_steps, written)

use Rattle.std.proofs.{lemmas.Grind.common_steps, Common.ℕ, Common.◌<◌, Common.List, Common.arith, lemmas.Bool.cases_lt}
use Rattle.smi_tree.specs.branches.FirstIndex.{IsDeepestAt}
use Rattle.smi_tree.proofs.laws.one_deepest.Goals as goal

-- if two prefixes of `o` are each the longest one in a list, then the first isn't shorter than the second
not_longer : (oids : List (List ℕ)) (o : List ℕ) (id other depth more : ℕ) → IsDeepestAt oids o id depth → IsDeepestAt oids o other more → depth < more → ⊥
not_longer oids o id other depth more h k l = let none = h.none_longer more l k.within in let some = k.here in cc

-- neither prefix is longer, so both have the same length; a prefix of one length has one first index
pub returns : goal.returns
returns c = grind (arith, common_steps, cases_lt, not_longer)

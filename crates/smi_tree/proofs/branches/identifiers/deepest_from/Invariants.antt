use Rattle.std.proofs.Common.{◌≡◌, take, Some}
use Rattle.smi_tree.specs.branches.Branches.{branch_of, SoFar}
use Rattle.smi_tree.proofs.branches.identifiers.deepest_from.Given as goal

abbrev pub invariant-numbers : goal.invariant-numbers
invariant-numbers l =
    (branch_of l.branches (take l.i l.numbers) ≡ Some l.at) × SoFar l.oids l.numbers l.i l.deepest

use Rattle.std.proofs.Common.{◌≡◌, take, Some}
use Rattle.smi_tree.specs.branches.Branches.{branch_of}
use Rattle.smi_tree.proofs.branches.identifiers.branch_of.Given as goal

abbrev pub invariant-numbers : goal.invariant-numbers
invariant-numbers l = branch_of l.branches (take l.number-index l.numbers) ≡ Some l.at

use Rattle.std.proofs.Common.{◌≡◌, ◌≤◌, ◌+◌, ℕ, take, get_or, length, Some}
use Rattle.smi_tree.specs.branches.Branches.{AreBranches, branch_of}
use Rattle.smi_tree.proofs.branches.branch.add.Given as goal

abbrev pub invariant-numbers : goal.invariant-numbers
invariant-numbers l = record {
  branches : AreBranches (take (l.id + 1) l.oids) (take l.id l.oids) l.branches.items;
  here : branch_of l.branches.items (take l.i l.numbers) ≡ Some l.at;
  long : length l.way ≡ 129;
  way : (j : ℕ) → j ≤ l.i → branch_of l.branches.items (take j l.numbers) ≡ Some (get_or l.way j 0);
}

use Rattle.std.proofs.Common.{◌≡◌, ◌≤◌, ◌-◌, take, length}
use Rattle.smi_tree.proofs.branches.branch.common_prefix_len.Given as goal

abbrev pub invariant-numbers : goal.invariant-numbers
invariant-numbers l = record {
  within : l.count ≤ length l.a;
  too : l.count ≤ length l.b;
  same : take l.count l.a ≡ take l.count l.b;
}

abbrev pub decreases-numbers : goal.decreases-numbers
decreases-numbers l = length l.a - l.count

use Rattle.std.proofs.Common.{take}
use Rattle.smi_tree.specs.branches.Branches.{AreBranchesOf, IsWay}
use Rattle.smi_tree.proofs.branches.identifiers.Identifiers.new.Given as goal

abbrev pub invariant-indices : goal.invariant-indices
invariant-indices l = record {
  branches : AreBranchesOf (take l.id l.fn.oids.items) l.branches.items;
  way : IsWay l.branches.items l.last l.way;
}

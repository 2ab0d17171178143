use Rattle.std.proofs.Common.{take}
use Rattle.smi_names.specs.nodes.Gathered.{AreGathered}
use Rattle.smi_names.proofs.nodes.gather.gather_nodes.Given as goal

abbrev pub invariant-modules : goal.invariant-modules
invariant-modules l = AreGathered l.modules l.gathered (take l.i l.modules)

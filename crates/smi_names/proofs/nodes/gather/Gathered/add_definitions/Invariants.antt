use Rattle.std.proofs.Common.{take}
use Rattle.smi_names.specs.{nodes.Gathered.Adds, nodes.Nodes.Gathers}
use Rattle.smi_names.proofs.nodes.gather.Gathered.add_definitions.Given as goal

abbrev pub invariant-defs : goal.invariant-defs
invariant-defs l = Adds l.names.modules l.initial.self l.self (Gathers l.names.modules l.module (take l.k l.defs))

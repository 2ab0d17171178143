use Rattle.smi_tree.specs.types.Numbers.{AreNumbersOf}
use Rattle.smi_tree.proofs.types.numbers.indexes_of.Given as goal

abbrev pub invariant-defs : goal.invariant-defs
invariant-defs l = AreNumbersOf l.defs l.numbers

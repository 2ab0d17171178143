use Rattle.smi_tree.specs.types.Numbers.{AreNumbersOf}
use Rattle.smi_tree.proofs.Pairwise.{AreFirst}
use Rattle.smi_tree.proofs.types.numbers.number_indexes.Given as goal

abbrev pub invariant-modules : goal.invariant-modules
invariant-modules l = AreFirst (λ i m numbers. AreNumbersOf m.defs numbers) l.modules l.module-index l.numbers.items

use Rattle.smi_tree.specs.types.Kept.{AreKeptOf}
use Rattle.smi_tree.proofs.Pairwise.{AreFirst}
use Rattle.smi_tree.proofs.types.objects.Given as goal

abbrev pub invariant-modules : goal.invariant-modules
invariant-modules l = AreFirst (λ i m kept. AreKeptOf l.modules m kept.items) l.modules l.i l.objects.items

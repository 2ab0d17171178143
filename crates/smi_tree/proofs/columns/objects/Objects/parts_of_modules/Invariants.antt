use Rattle.smi_tree.specs.columns.Kept.{AreOwn}
use Rattle.smi_tree.proofs.Pairwise.{AreFirst}
use Rattle.smi_tree.proofs.columns.objects.Objects.parts_of_modules.Given as goal

abbrev pub invariant-modules : goal.invariant-modules
invariant-modules l = AreFirst (λ i m own. AreOwn l.self m own.items) l.self l.home-index l.kept.items

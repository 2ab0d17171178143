use Rattle.smi_tree.specs.columns.Kept.{IsOwn, items_of}
use Rattle.smi_tree.proofs.Pairwise.{AreFirst}
use Rattle.smi_tree.proofs.columns.objects.Objects.parts_of_module.Given as goal

abbrev pub invariant-defs : goal.invariant-defs
invariant-defs l = AreFirst (λ k d own. IsOwn l.self l.home d (items_of own)) l.defs l.def-index l.kept.items

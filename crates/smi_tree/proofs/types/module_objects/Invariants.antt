use Rattle.smi_tree.specs.{types.Types.origin_of_object, types.Kept.IsKept}
use Rattle.smi_tree.proofs.Pairwise.{AreFirst}
use Rattle.smi_tree.proofs.types.module_objects.Given as goal

abbrev pub invariant-defs : goal.invariant-defs
invariant-defs l = AreFirst (λ j d syntax. IsKept l.entries.modules (origin_of_object l.module.name.octets d) syntax) l.defs l.k l.kept.items

use Rattle.smi_tree.specs.columns.Index.{IsIndexPart, is_implied}
use Rattle.smi_tree.proofs.Pairwise.{AreFirst}
use Rattle.smi_tree.proofs.columns.objects.Objects.parts.Given as goal

abbrev pub invariant-names : goal.invariant-names
invariant-names l =
    AreFirst (λ i name part. IsIndexPart l.self l.home name.octets (is_implied l.clause i) part) l.clause.names l.i l.parts.items

use Rattle.smi_names.specs.nodes.Gathered.{nodes_of}
use Rattle.smi_tree.specs.columns.Kept.{HasRowOrNone, IsLastRow}
use Rattle.smi_tree.proofs.Pairwise.{AreFirst}
use Rattle.smi_tree.proofs.columns.objects.Objects.rows.Given as goal

abbrev pub invariant-indices : goal.invariant-indices
invariant-indices l = record {
  rows : AreFirst (λ k node at. HasRowOrNone l.self (nodes_of l.self l.sources l.identifiers) node at) (nodes_of l.self l.sources l.identifiers)
      l.id l.rows.items;
  last : IsLastRow l.identifiers l.last;
}

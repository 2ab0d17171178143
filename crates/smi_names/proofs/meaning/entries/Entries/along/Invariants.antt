use Rattle.std.proofs.Common.{◌≡◌, length, None, take}
use Rattle.smi_names.specs.meaning.Along.{MeansAt}
use Rattle.smi_names.proofs.Order.{Fills}
use Rattle.smi_names.proofs.meaning.entries.Entries.along.Given as goal

abbrev pub invariant-indices : goal.invariant-indices
invariant-indices g l =
    (length l.found.items ≡ length l.next.items)
    × Fills (MeansAt l.self g.M.References.refers_to g.M.Meaning.means) None None (take l.index-index l.index-items) l.found.items

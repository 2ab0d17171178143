use Rattle.std.proofs.Common.{◌≡◌, map, take}
use Rattle.smi_names.specs.meaning.Directory.{IsFound, next_index}
use Rattle.smi_names.proofs.meaning.directory.Directory.next_indices.Given as goal

abbrev pub invariant-entries : goal.invariant-entries
invariant-entries g l = (l.next.items ≡ map (next_index l.self g.M.References.refers_to) (take l.index l.self.entries.items)) × IsFound l.self l.last

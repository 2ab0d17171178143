use Rattle.std.proofs.Common.{◌≡◌, take, Some}
use Rattle.smi_names.specs.meaning.Meaning.{arcs}
use Rattle.smi_names.proofs.meaning.parents.arcs.Given as goal

abbrev pub invariant-parts : goal.invariant-parts
invariant-parts l = arcs (take l.part-index l.parts) ≡ Some l.numbers.items

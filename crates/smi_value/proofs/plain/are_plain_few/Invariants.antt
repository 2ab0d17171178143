use Rattle.smi_value.specs.Pieces.{ArePlain}
use Rattle.smi_value.proofs.plain.are_plain_few.Given as goal

abbrev pub invariant-octets : goal.invariant-octets
invariant-octets l = ArePlain l.octets 0 l.octet-index

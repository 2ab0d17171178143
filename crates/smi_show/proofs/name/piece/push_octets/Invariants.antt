use Rattle.std.proofs.Common.{◌≡◌, ◌++◌, take}
use Rattle.smi_show.proofs.name.piece.push_octets.Given as goal

abbrev pub invariant-octets : goal.invariant-octets
invariant-octets l = l.oid ≡ l.initial.oid ++ take l.octet-index l.octets

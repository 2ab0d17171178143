use Rattle.std.proofs.Common.{◌≡◌, ◌<◌, ◌^◌, ◌*◌, take}
use Rattle.smi_value.specs.hint.Pieces.{number_of_octets}
use Rattle.smi_value.proofs.hint.octets.number_of.Given as goal

abbrev pub invariant-octets : goal.invariant-octets
invariant-octets l = record {
  value : l.number ≡ number_of_octets (take l.octet-index l.octets);
  below : l.number < 2 ^ (8 * l.octet-index);
}

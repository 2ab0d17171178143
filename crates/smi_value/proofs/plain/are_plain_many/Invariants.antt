use Rattle.std.proofs.Common.{◌-◌, ◌<◌, length}
use Rattle.smi_value.specs.Pieces.{ArePlain}
use Rattle.smi_value.proofs.plain.are_plain_many.Given as goal

abbrev pub invariant-pieces : goal.invariant-pieces
invariant-pieces l = record {
  within : l.at < length l.octets;
  plain : ArePlain l.octets 0 l.at;
}

abbrev pub decreases-pieces : goal.decreases-pieces
decreases-pieces l = length l.octets - l.at

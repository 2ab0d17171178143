use Rattle.std.proofs.Common.{◌+◌, length}
use Rattle.smi_value.proofs.HintPieces.{GroupsAhead}
use Rattle.smi_value.proofs.hint.octets.append_octets.Given as goal

abbrev pub invariant-groups : goal.invariant-groups
invariant-groups l = GroupsAhead l.hint l.octets l.initial.draft l.spec l.ahead l.left l.draft

abbrev pub decreases-groups : goal.decreases-groups
decreases-groups l = length l.ahead + length l.left

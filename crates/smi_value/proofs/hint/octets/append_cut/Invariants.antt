use Rattle.smi_value.proofs.HintPieces.{PiecesAhead}
use Rattle.smi_value.proofs.hint.octets.append_cut.Given as goal

abbrev pub invariant-pieces : goal.invariant-pieces
invariant-pieces l = PiecesAhead l.spec l.initial.ahead l.initial.left l.initial.draft l.ahead l.left l.draft

abbrev pub decreases-pieces : goal.decreases-pieces
decreases-pieces l = l.ahead

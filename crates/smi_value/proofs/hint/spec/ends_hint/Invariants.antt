use Rattle.std.proofs.Common.{length}
use Rattle.smi_value.proofs.HintSpec.{GoesOn}
use Rattle.smi_value.proofs.hint.spec.ends_hint.Given as goal

abbrev pub invariant-specs : goal.invariant-specs
invariant-specs l = GoesOn l.text l.rest l.ends_well

abbrev pub decreases-specs : goal.decreases-specs
decreases-specs l = length l.rest

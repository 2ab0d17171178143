use Rattle.std.proofs.Common.{[], arith}
use Rattle.smi_value.proofs.HintNumber.{no_places}
use Rattle.smi_value.proofs.hint.number.decimal_places.Goals as goal

pub returns-in_default-clause-none : goal.returns-in_default-clause-none
returns-in_default-clause-none c = no_places c.args.text.now (λ indices h le. absurd (omega (arith, le, c.in_default.ensures.none indices [] h)))

use Rattle.std.proofs.Common.{◌≡◌, drop}
use Rattle.smi_text.specs.trees.Number.{number_value}
use Rattle.smi_text.proofs.Digits.{worth}
use Rattle.smi_text.proofs.trees.numbers.value_up_to.Given as goal

abbrev pub invariant-loop-digit : goal.invariant-loop-digit
invariant-loop-digit l = worth l.base l.value (drop l.digit-index l.digits) ≡ number_value l.base l.digits

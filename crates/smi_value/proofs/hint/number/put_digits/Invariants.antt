use Rattle.std.proofs.Common.{◌≤◌, drop}
use Rattle.smi_value.proofs.HintNumber.{AreLeft}
use Rattle.smi_value.proofs.hint.number.put_digits.Given as goal

abbrev pub invariant-digits : goal.invariant-digits
invariant-digits l = record {
  within : l.at ≤ 64;
  left : AreLeft l.at l.base l.left (drop l.at l.text) l.n;
}

abbrev pub decreases-digits : goal.decreases-digits
decreases-digits l = l.at

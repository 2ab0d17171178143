use Rattle.std.proofs.Common.{◌≡◌, ◌≤◌, take}
use Rattle.std.specs.Str.Parse.{digits_value}
use Rattle.smi_value.proofs.hint.number.long_number.Given as goal

abbrev pub invariant-digits : goal.invariant-digits
invariant-digits l = (l.number ≡ digits_value 10 (take l.octet-index l.prefix)) × (l.number ≤ l.most)

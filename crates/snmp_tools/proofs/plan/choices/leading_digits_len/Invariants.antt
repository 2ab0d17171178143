use Rattle.std.proofs.Common.{◌≡◌, take, true}
use Rattle.std.specs.{List.list_all, Char.is_ascii_digit}
use Rattle.snmp_tools.proofs.plan.choices.leading_digits_len.Given as goal

abbrev pub invariant-octets : goal.invariant-octets
invariant-octets l = list_all is_ascii_digit (take l.i l.text) ≡ true

use Rattle.std.proofs.Common.{◌+◌, length, List, ℕ, Option, Some, None, option_map}
use Rattle.snmp_oid.proofs.ParseState.{IsParsedTo}
use Rattle.snmp_oid.proofs.numeric.read_numeric.Given as goal

abbrev pub invariant-parts : goal.invariant-parts
invariant-parts l = IsParsedTo l.text (option_map (λ s. s.now) l.left) l.oid l.too_long

-- one more than the number of octets left, or 0 if nothing is left
abbrev octets_left : Option (List ℕ) → ℕ
octets_left None = 0
octets_left (Some here) = length here + 1

abbrev pub decreases-parts : goal.decreases-parts
decreases-parts l = octets_left (option_map (λ s. s.now) l.left)

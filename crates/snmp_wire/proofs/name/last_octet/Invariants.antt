use Rattle.std.proofs.Common.{ℕ, ◌-◌, ◌<◌, ◌≤◌, length, get_or}
use Rattle.snmp_wire.proofs.name.last_octet.Given as goal

-- all octets from `at` to before `end` have the high bit set
abbrev pub invariant-octets : goal.invariant-octets
invariant-octets l =
    (l.at ≤ l.end) × (l.end < length l.content) × ((k : ℕ) → l.at ≤ k → k < l.end → 128 ≤ get_or l.content k 0)

abbrev pub decreases-octets : goal.decreases-octets
decreases-octets l = length l.content - l.end

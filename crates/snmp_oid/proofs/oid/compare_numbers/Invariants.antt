use Rattle.std.proofs.Common.{◌≡◌, ◌≤◌, take}
use Rattle.snmp_oid.proofs.oid.compare_numbers.Given as goal

-- the numbers before index i are the same
abbrev pub invariant-numbers : goal.invariant-numbers
invariant-numbers l = (l.i ≤ l.both) × (take l.i l.o ≡ take l.i l.p)

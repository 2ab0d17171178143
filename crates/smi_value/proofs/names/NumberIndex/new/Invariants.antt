use Rattle.std.proofs.Common.{◌≡◌, drop}
use Rattle.std.specs.{Prelude.ℤ, List.position_from, BTreeMap.get, Ordering.int_cmp}
use Rattle.smi_value.specs.Syntax.{is_number_of}
use Rattle.smi_value.proofs.names.NumberIndex.new.Given as goal

-- `positions` has, for each number with a name among the names from index `position` on, the position of the first such name
abbrev pub invariant-names : goal.invariant-names
invariant-names l = (n : ℤ) → get int_cmp l.positions n ≡ position_from (is_number_of n) l.position (drop l.position l.names)

use Rattle.std.proofs.Common.{◌≡◌, drop, is_some}
use Rattle.smi_show.specs.private.index.IndexValues.{values_of}
use Rattle.smi_show.proofs.index.reads.Given as goal

-- the parts left read the numbers left if and only if all parts read all numbers
abbrev pub invariant-parts : goal.invariant-parts
invariant-parts l = is_some (values_of (drop l.part-index l.parts) l.left) ≡ is_some (values_of l.fn.parts l.fn.numbers)

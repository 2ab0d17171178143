use Rattle.std.proofs.Common.{◌≡◌, drop, is_some}
use Rattle.smi_show.specs.private.index.IndexValues.{has_text, values_of}
use Rattle.smi_show.proofs.index.shown.reads_some_text.Given as goal

-- the parts left read the numbers left if and only if all parts read all numbers; and they read a value that is shown as a text if and only if all parts read
-- such a value from all numbers
abbrev pub invariant-parts : goal.invariant-parts
invariant-parts l = record {
  read : is_some (values_of (drop l.at l.parts) l.left) ≡ is_some (values_of l.fn.parts l.fn.numbers);
  text : has_text (drop l.at l.parts) l.left ≡ has_text l.fn.parts l.fn.numbers;
}

use Rattle.std.proofs.Common.{◌≡◌, ◌≤◌, ◌*◌, ◌-◌, length, take}
use Rattle.smi_show.specs.index.Pieces.{as_numbers, shown_pieces}
use Rattle.smi_show.proofs.index.shown.put_leading_numbers.Given as goal

-- the buffer begins with the text of the numbers so far
abbrev pub invariant-fours : goal.invariant-fours
invariant-fours l = record {
  within : l.prefix ≤ length l.numbers;
  fits : l.prefix ≤ 60;
  text : take (2 * l.prefix) l.room ≡ shown_pieces (as_numbers (take l.prefix l.numbers));
}

abbrev pub decreases-fours : goal.decreases-fours
decreases-fours l = length l.numbers - l.prefix

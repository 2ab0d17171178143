use Rattle.std.proofs.Common.{◌≡◌, ◌≤◌, ◌++◌, ℕ, List, take}
use Rattle.snmp_io.specs.Draft.{Grows}
use Rattle.smi_show.specs.index.Pieces.{as_numbers, shown_pieces}
use Rattle.smi_show.proofs.index.shown.numbers_text.Given as goal

-- the text appended and then the filled part of the buffer are the text of the numbers so far
abbrev pub invariant-numbers : goal.invariant-numbers
invariant-numbers l = record {
  done : List ℕ;
  within : l.filled ≤ 128;
  grows : Grows l.initial.draft done l.draft;
  text : done ++ take l.filled l.room ≡ shown_pieces (as_numbers (take l.at l.numbers));
}

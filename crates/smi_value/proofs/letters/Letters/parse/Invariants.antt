use Rattle.std.proofs.Common.{◌≡◌, take, None}
use Rattle.smi_value.specs.Letters.{AreLetters, first_other}
use Rattle.smi_value.proofs.letters.Letters.parse.Given as goal

abbrev pub invariant-letters : goal.invariant-letters
invariant-letters l = record {
  are_letters : AreLetters (take l.octet-index l.text) l.letters;
  none_other : first_other (take l.octet-index l.text) ≡ None;
}

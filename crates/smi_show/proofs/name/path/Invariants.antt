use Rattle.std.proofs.Common.{◌≡◌, take}
use Rattle.snmp_io.specs.Draft.{Grows}
use Rattle.smi_show.specs.name.Name.{path_text}
use Rattle.smi_show.proofs.name.path.Given as goal

-- the text so far shows the numbers of `here`, which are the numbers read so far
abbrev pub invariant-numbers : goal.invariant-numbers
invariant-numbers l = record {
  here : l.here ≡ take l.number-index l.numbers;
  grows : Grows l.initial.draft (path_text l.tree l.here) l.draft;
}

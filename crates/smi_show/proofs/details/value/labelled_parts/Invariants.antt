use Rattle.std.proofs.Common.{◌≡◌, take}
use Rattle.snmp_io.specs.Draft.{Grows}
use Rattle.smi_show.specs.details.Value.{labelled_parts}
use Rattle.smi_show.proofs.details.value.labelled_parts.Given as goal

-- the text so far shows the numbers of `here`, which are the numbers read so far
abbrev pub invariant-each : goal.invariant-each
invariant-each l = record {
  here : l.here ≡ take l.number-index l.numbers;
  grows : Grows l.initial.draft (labelled_parts l.tree l.here) l.draft;
}

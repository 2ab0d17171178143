use Rattle.std.proofs.Common.{take}
use Rattle.snmp_io.specs.Draft.{Grows}
use Rattle.smi_show.proofs.index.shown.octets_text.Given as goal

abbrev pub invariant-octets : goal.invariant-octets
invariant-octets l = Grows l.initial.draft (take l.octet-index l.value) l.draft

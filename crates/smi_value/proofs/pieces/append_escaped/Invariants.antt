use Rattle.std.proofs.Common.{take}
use Rattle.std.specs.List.{flat_map}
use Rattle.snmp_io.specs.Draft.{Grows}
use Rattle.smi_value.specs.{Pieces.printable_or_dot, Texts.escape_octet}
use Rattle.smi_value.proofs.pieces.append_escaped.Given as goal

abbrev pub invariant-octets : goal.invariant-octets
invariant-octets l = Grows l.initial.draft (flat_map (λ octet. escape_octet (printable_or_dot octet)) (take l.octet-index l.octets)) l.draft

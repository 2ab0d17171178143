use Rattle.std.proofs.Common.{take}
use Rattle.std.specs.List.{flat_map}
use Rattle.snmp_io.specs.Draft.{Grows}
use Rattle.smi_value.specs.hint.Pieces.{marked_text}
use Rattle.smi_value.proofs.hint.octets.append_others.Given as goal

abbrev pub invariant-octets : goal.invariant-octets
invariant-octets l = Grows l.initial.draft (flat_map (marked_text l.format l.mark) (take l.octet-index l.octets)) l.draft

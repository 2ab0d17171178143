use Rattle.std.proofs.Common.{take}
use Rattle.std.specs.List.{flat_map, enumerate_from}
use Rattle.snmp_io.specs.Draft.{Grows}
use Rattle.smi_value.specs.Texts.{hex_dump_octet}
use Rattle.smi_value.proofs.pieces.append_hexadecimal.Given as goal

abbrev pub invariant-octets : goal.invariant-octets
invariant-octets l = Grows l.initial.draft (flat_map hex_dump_octet (take l.index (enumerate_from 0 l.octets))) l.draft

use Rattle.std.proofs.Common.{take}
use Rattle.std.specs.List.{flat_map, enumerate_from}
use Rattle.snmp_io.specs.Draft.{Grows}
use Rattle.smi_value.specs.Pieces.{octet_bits}
use Rattle.smi_value.proofs.pieces.append_set_bits.Given as goal

abbrev pub invariant-octets : goal.invariant-octets
invariant-octets l = Grows l.initial.draft (flat_map (octet_bits l.letters l.names) (take l.index (enumerate_from 0 l.octets))) l.draft

use Rattle.std.proofs.Common.{take}
use Rattle.std.specs.List.{flat_map}
use Rattle.snmp_io.specs.Draft.{Grows}
use Rattle.smi_show.specs.details.Syntax.{more_ranges}
use Rattle.smi_show.proofs.details.syntax.more_ranges.Given as goal

abbrev pub invariant-each : goal.invariant-each
invariant-each l = Grows l.initial.draft (flat_map more_ranges (take l.range-index l.ranges)) l.draft

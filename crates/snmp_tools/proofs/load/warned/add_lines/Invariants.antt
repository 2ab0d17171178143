use Rattle.std.proofs.Common.{take}
use Rattle.std.specs.List.{flat_map}
use Rattle.snmp_io.specs.Draft.{Grows}
use Rattle.snmp_tools.specs.load.Warned.{warning_line}
use Rattle.snmp_tools.proofs.load.warned.add_lines.Given as goal

abbrev pub invariant-warnings : goal.invariant-warnings
invariant-warnings l = Grows l.initial.draft (flat_map warning_line (take l.warning-index l.warnings)) l.draft

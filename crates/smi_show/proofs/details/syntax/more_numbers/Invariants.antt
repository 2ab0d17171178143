use Rattle.std.proofs.Common.{take}
use Rattle.std.specs.List.{flat_map}
use Rattle.snmp_io.specs.Draft.{Grows}
use Rattle.smi_show.specs.details.Syntax.{more_numbers}
use Rattle.smi_show.proofs.details.syntax.more_numbers.Given as goal

abbrev pub invariant-numbers : goal.invariant-numbers
invariant-numbers l = Grows l.initial.draft (flat_map more_numbers (take l.number-index l.numbers)) l.draft

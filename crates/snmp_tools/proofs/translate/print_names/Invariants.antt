use Rattle.std.proofs.Common.{take}
use Rattle.snmp_words.specs.Words.{texts_at}
use Rattle.snmp_tools.proofs.PrintedNames.{IsTakenOrWaits}
use Rattle.snmp_tools.proofs.translate.print_names.Given as goal

abbrev pub invariant-names : goal.invariant-names
invariant-names g l =
    IsTakenOrWaits l.tree l.style (texts_at (take l.name-index l.names)) (g.O.Output.stream l.initial.out) (g.O.Output.stream l.out) l.lines.items

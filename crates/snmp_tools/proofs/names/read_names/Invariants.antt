use Rattle.std.proofs.Common.{take}
use Rattle.snmp_words.specs.Words.{texts_at}
use Rattle.snmp_tools.specs.{Question.AreNames}
use Rattle.snmp_tools.proofs.names.read_names.Given as goal

abbrev pub invariant-texts : goal.invariant-texts
invariant-texts l =
    AreNames l.tree (texts_at (take l.text-index l.texts)) l.names.items

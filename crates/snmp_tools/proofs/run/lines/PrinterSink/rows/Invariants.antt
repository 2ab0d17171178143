use Rattle.std.proofs.Common.{◌≡◌, ◌∷◌, ◌++◌, List, length}
use Rattle.snmp_wire.specs.Message.{VarBind}
use Rattle.snmp_tools.specs.{Lines.AreLines}
use Rattle.snmp_tools.proofs.run.lines.PrinterSink.rows.Given as goal

abbrev pub invariant-rows : goal.invariant-rows
invariant-rows g l = record {
  writer : l.self.writer ≡ l.fn.self.writer;
  letters : l.self.letters ≡ l.fn.self.letters;
  output : l.self.out ≡ l.fn.self.out;
  made : (p : VarBind) × (more : List VarBind) × (l.fn.rows ≡ (p ∷ more) ++ l.rows)
      × AreLines l.fn.self.writer l.fn.self.letters (p ∷ more)
      l.self.text.now.items;
}

abbrev pub decreases-rows : goal.decreases-rows
decreases-rows g l = length l.rows

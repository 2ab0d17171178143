use Rattle.std.proofs.Common.{◌≡◌, List, []}
use Rattle.smi_text.specs.{lexer.Token.Item, lexer.Token.first_fault, lexer.Lexes.Lexes}
use Rattle.smi_text.proofs.file.first_fault.Given as goal

abbrev pub invariant-each : goal.invariant-each
invariant-each l = (all : List Item) × Lexes [] l.text all × (first_fault l.item-iterator ≡ first_fault all)

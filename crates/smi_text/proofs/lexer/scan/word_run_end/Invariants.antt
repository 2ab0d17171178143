use Rattle.std.proofs.Common.{◌-◌, length}
use Rattle.smi_text.specs.{lexer.Lexeme.is_word_octet, lexer.LongestMatch.ArePassedBetween}
use Rattle.smi_text.proofs.lexer.scan.word_run_end.Given as goal

abbrev pub invariant-loads : goal.invariant-loads
invariant-loads l = ArePassedBetween is_word_octet l.text l.from l.n

abbrev pub decreases-loads : goal.decreases-loads
decreases-loads l = length l.text - l.n

abbrev pub invariant-octets : goal.invariant-octets
invariant-octets l = ArePassedBetween is_word_octet l.text l.from l.n

abbrev pub decreases-octets : goal.decreases-octets
decreases-octets l = length l.text - l.n

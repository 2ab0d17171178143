use Rattle.std.proofs.Common.{◌-◌, length}
use Rattle.smi_text.specs.lexer.LongestMatch.{ArePassedBetween, is_space_or_tab}
use Rattle.smi_text.proofs.lexer.scan.blanks_end.Given as goal

abbrev pub invariant-loads : goal.invariant-loads
invariant-loads l = ArePassedBetween is_space_or_tab l.text l.from l.n

abbrev pub decreases-loads : goal.decreases-loads
decreases-loads l = length l.text - l.n

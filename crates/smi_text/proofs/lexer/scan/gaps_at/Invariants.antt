use Rattle.std.proofs.Common.{◌≤◌, ◌-◌, length}
use Rattle.smi_text.specs.lexer.LongestMatch.{Skips}
use Rattle.smi_text.proofs.lexer.scan.gaps_at.Given as goal

abbrev pub invariant-gaps : goal.invariant-gaps
invariant-gaps l = record {
  within : l.n ≤ length l.text;
  lines : l.lines ≤ l.n;
  skips : Skips l.text l.n l.lines;
}

abbrev pub decreases-gaps : goal.decreases-gaps
decreases-gaps l = length l.text - l.n

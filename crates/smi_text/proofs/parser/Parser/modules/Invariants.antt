use Rattle.std.proofs.Common.{length}
use Rattle.smi_text.proofs.FileSteps.{HasModules}
use Rattle.smi_text.proofs.parser.Parser.modules.Given as goal

abbrev pub invariant-each : goal.invariant-each
invariant-each l = HasModules l.modules.items l.fn.self l.self

abbrev pub decreases-each : goal.decreases-each
decreases-each l = length l.self

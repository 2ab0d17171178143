use Rattle.std.proofs.Common.{length}
use Rattle.smi_text.proofs.FileSteps.{HasRead}
use Rattle.smi_text.proofs.parser.Parser.definitions.Given as goal

abbrev pub invariant-each : goal.invariant-each
invariant-each l = HasRead l.names l.defs.items l.fn.self l.self

abbrev pub decreases-each : goal.decreases-each
decreases-each l = length l.self

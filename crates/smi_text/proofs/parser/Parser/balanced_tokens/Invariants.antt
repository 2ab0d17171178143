use Rattle.std.proofs.Common.{◌≡◌, ◌≤◌, length}
use Rattle.smi_text.specs.{private.Format.prepend, private.Grammar.read_balanced}
use Rattle.smi_text.proofs.parser.Parser.balanced_tokens.Given as goal

abbrev pub invariant-each : goal.invariant-each
invariant-each l =
    (l.depth ≤ length l.tokens.items) × (prepend l.tokens.items (read_balanced l.depth l.self) ≡ read_balanced 0 l.fn.self)

abbrev pub decreases-each : goal.decreases-each
decreases-each l = length l.self

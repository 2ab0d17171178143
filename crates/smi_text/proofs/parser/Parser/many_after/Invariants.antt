use Rattle.std.proofs.Common.{◌≡◌, ℕ, suc, ◌≤◌, length}
use Rattle.smi_text.specs.private.Format.{many, read_many, prepend}
use Rattle.smi_text.proofs.parser.Parser.many_after.Given as goal

abbrev pub invariant-each : goal.invariant-each
invariant-each g l =
    (n : ℕ) × (length l.self ≤ n)
    × (prepend l.items.items (read_many g.P.Production.format (suc n) l.self)
    ≡ prepend l.fn.items.items ((many g.P.Production.format).read l.fn.self))

abbrev pub decreases-each : goal.decreases-each
decreases-each g l = length l.self

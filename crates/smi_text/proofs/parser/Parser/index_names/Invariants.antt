use Rattle.std.proofs.Common.{◌≡◌, ℕ, suc, ◌≤◌, length}
use Rattle.smi_text.specs.private.Grammar.{index_names, read_index, with_names}
use Rattle.smi_text.proofs.parser.Parser.index_names.Given as goal

abbrev pub invariant-each : goal.invariant-each
invariant-each l =
    (n : ℕ) × (length l.self ≤ n) × (with_names l.names.items (read_index (suc n) l.self) ≡ index_names.read l.fn.self)

abbrev pub decreases-each : goal.decreases-each
decreases-each l = length l.self

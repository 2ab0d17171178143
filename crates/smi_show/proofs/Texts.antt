-- If `a` is appended and then `b`, then `a ++ b` is appended.
use Rattle.std.proofs.{Common.arith, Common.ℕ, Common.List, Common.◌++◌, Common.append_assoc, lemmas.Grind.common_steps}
use Rattle.snmp_io.specs.Draft.{Written, Adds}

pub adds_both : (old middle new : Written) (a b : List ℕ) → Adds old a middle → Adds middle b new → Adds old (a ++ b) new
adds_both old middle new a b one two = grind (arith, common_steps, append_assoc)

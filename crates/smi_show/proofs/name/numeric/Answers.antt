use Rattle.std.proofs.lemmas.Grind.{common_steps}
use Rattle.std.proofs.Common.{◌≡◌, ◌≤◌, ℕ, List, [], ◌∷◌, ◌++◌, decimal, length, refl, sym, ap, arith}
use Rattle.std.specs.List.{flat_map}
use Rattle.snmp_oid.specs.Numeric.{dot, numeric_text}
use Rattle.smi_show.specs.index.Pieces.{as_numbers, shown_pieces}
use Rattle.smi_show.proofs.name.numeric.Goals as goal

numbers_text : (numbers : List ℕ) → flat_map (λ m. dot ∷ decimal m) numbers ≡ shown_pieces (as_numbers numbers)
numbers_text [] = refl
numbers_text (n ∷ more) = ap (λ (t : List ℕ). (dot ∷ decimal n) ++ t) (numbers_text more)

some_numbers : (o : List ℕ) → 1 ≤ length o → shown_pieces (as_numbers o) ≡ numeric_text o
some_numbers [] long = absurd (omega arith)
some_numbers (n ∷ more) long = sym (numbers_text (n ∷ more))

pub returns-in_default : goal.returns-in_default
returns-in_default c = grind (arith, common_steps, some_numbers, numbers_text)

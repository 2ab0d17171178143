use Rattle.std.proofs.Common.{arith, ◌≡◌, ◌≤◌, ℕ, List, length, Result, Ok, OnOk}
use Rattle.std.proofs.lemmas.Grind.{common_steps}
use Rattle.std.specs.Result.{is_ok}
use Rattle.snmp_oid.specs.{Numeric.IsNumericName, declared.numeric.OidTextError.OidTextError}
use Rattle.snmp_agent.specs.{table.Exact.IsOnlyThere, table.Format.IsName}
use Rattle.snmp_agent.proofs.table.format.numeric_name.Goals as goal

only_name : (text o : List ℕ) (r : Result (Unit {0}) OidTextError) → OnOk r (IsNumericName text o) → OnOk r (length o ≤ 128)
    → ((p : List ℕ) → IsNumericName text p → length p ≤ 128 → (r ≡ Ok tt) × (o ≡ p))
    → IsOnlyThere (IsName text) (is_ok r) o
only_name text o r found short only = grind (arith, common_steps)

pub returns : goal.returns
returns c = grind (arith, common_steps, only_name)

use Rattle.std.proofs.lemmas.Grind.{common_steps}
use Rattle.std.proofs.Common.{ℕ, ◌+◌, ◌-◌, ◌*◌, ◌<◌, ◌≤◌, ◌^◌, get_or, arith, drop_of_length-le}
use Rattle.snmp_agent.specs.table.Text.{IsDecimal}
use Rattle.snmp_agent.proofs.Decimals.{read_more, read_all, read_large, same_decimal}
use Rattle.snmp_agent.proofs.table.value.decimal.Goals as goal

pub returns-in_err-checked_mul : goal.returns-in_err-checked_mul
returns-in_err-checked_mul c =
    let large : 2 ^ 64 ≤ c.digits.number * 10 + (get_or c.args.text.now c.digits.octet-index 0 - 48) = omega (arith, c.in_err-checked_mul.ensures) in
    let none : (n : ℕ) → IsDecimal c.args.text.now n × (n < 2 ^ 64)
    → ⊥ = λ n h. read_large c.args.text.now c.digits.octet-index c.digits.number (omega arith) large c.digits.invariant.0 n h.0 h.1 in
    rw c.from_residual.ensures none

pub returns-in_err-number : goal.returns-in_err-number
returns-in_err-number c =
    let large : 2 ^ 64 ≤ c.digits.number * 10 + (get_or c.args.text.now c.digits.octet-index 0 - 48) = omega
    (arith, c.in_ok-checked_mul.ensures, c.from.ensures, c.in_err-number.ensures) in
    let none : (n : ℕ) → IsDecimal c.args.text.now n × (n < 2 ^ 64)
    → ⊥ = λ n h. read_large c.args.text.now c.digits.octet-index c.digits.number (omega arith) large c.digits.invariant.0 n h.0 h.1 in
    rw c.from_residual-in_err-number.ensures none

pub digits-preserved : goal.digits-preserved
digits-preserved c = grind (arith, common_steps, read_more)

pub returns : goal.returns
returns c = grind (arith, common_steps, drop_of_length-le, read_all, same_decimal)

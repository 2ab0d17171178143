use Rattle.std.proofs.Common.{◌≡◌, ◌+◌, ◌-◌, ◌*◌, [], ◌∷◌, drop, get_or, true, Some, None, sym, ◌∙◌, ap, arith, drop_of_length-le}
use Rattle.std.specs.Char.{is_ascii_digit}
use Rattle.snmp_oid.proofs.{Numeral.prefix_more, ParseState.part_is_read}
use Rattle.snmp_oid.proofs.numeric.read_digits.Goals as goal

pub digits-preserved : goal.digits-preserved
digits-preserved c =
    let next : c.digits.number * 10 + c.from.result ≡ c.digits.number * 10 + (get_or c.args.text.now c.digits.count 0 - 48) =
    omega (arith, c.from.ensures) in
    let is_digit : is_ascii_digit (get_or c.args.text.now c.digits.count 0) ≡ true = cc (c.is_ascii_digit.ensures.value, c.if-is_ascii_digit.true) in
    rw next (prefix_more c.args.text.now c.digits.count c.digits.number (omega arith) is_digit
    (omega (arith, c.type_inv.text c.digits.count)) c.digits.invariant)

pub returns-in-None : goal.returns-in-None
returns-in-None c =
    let none : drop c.digits.count c.args.text.now ≡ [] =
    drop_of_length-le c.args.text.now (omega (arith, c.split_at.ensures.back_len, c.in-None.ensures.cases)) in
    part_is_read c.args.text.now c.digits.count c.digits.number None (omega arith) c.digits.invariant none

pub returns-in-Some : goal.returns-in-Some
returns-in-Some c =
    let rest = c.in-Some.rest.now in
    part_is_read c.args.text.now c.digits.count c.digits.number (Some rest) (omega arith) c.digits.invariant
    (sym c.split_at.ensures.back ∙ c.in-Some.ensures.cases.0 ∙ ap (λ octet. octet ∷ rest) c.if-octet-eq46.true)

use Rattle.std.proofs.Common.{◌≡◌, ◌+◌, ◌-◌, ℕ, length, drop, take, get_or, add-one, arith, eq-eqb, length-drop}
use Rattle.std.proofs.{lemmas.Bool.eqb-true, lemmas.List.take_all}
use Rattle.snmp_agent.proofs.Splits.{Cut, cut, others}
use Rattle.snmp_agent.proofs.table.split.split_once.Goals as goal

pub returns-in_err-end : goal.returns-in_err-end
returns-in_err-end c =
    let text = c.args.text.now in
    rw c.from_residual.ensures (others c.args.separator text
    (λ k low same. c.in_err-end.ensures k (omega arith) low (eq-eqb (get_or text k 0) c.args.separator same)))

pub returns : goal.returns
returns c =
    let text = c.args.text.now in
    let found = c.in_ok-end.ensures in
    let parts : Cut c.args.separator text c.in_ok-end.end = cut c.args.separator text c.in_ok-end.end found.0.high
    (eqb-true (get_or text c.in_ok-end.end 0) c.args.separator found.1)
    (λ k low same. found.0.before k (omega arith) low (eq-eqb (get_or text k 0) c.args.separator same)) in
    let n : ℕ = c.in_ok-end.end + 1 in
    let rest : take (length text - n) (drop n text) ≡ drop n text = take_all (length text - n) (drop n text) (omega (arith, length-drop n text)) in
    (rw (rest, add-one c.in_ok-end.end) parts.parts, parts.prefix)

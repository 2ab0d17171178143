use Rattle.std.proofs.{Common.length, Common.arith, Common.rules, lemmas.Bool.eqb-true, lemmas.Bool.ltb-true}
use Rattle.snmp_wire.proofs.NameOrder.{Beside, below_decided, beside, none_below, nothing_alike}
use Rattle.snmp_wire.proofs.name.is_content_below.Goals as goal

pub returns-then-content-root : goal.returns-then-content-root
returns-then-content-root c = λ o p e f.
    let b : Beside c.args.content.now c.args.root.now o p c.alike.result =
    beside (λ k. omega (arith, c.type_inv.content k)) (λ k. omega (arith, c.type_inv.root k)) e f c.alike.ensures.same in
    let decided = below_decided _ _ o p _ b c.if-content-root.true c.alike.ensures.first in
    (λ same. decided.0 (eqb-true c.alike.result (length c.args.root.now) same), λ below. let same = decided.1 below in search (rules, same))

pub returns-else-content-root : goal.returns-else-content-root
returns-else-content-root c = λ o p e f.
    let b : Beside c.args.content.now c.args.root.now o p 0 =
    beside (λ k. omega (arith, c.type_inv.content k)) (λ k. omega (arith, c.type_inv.root k)) e f (nothing_alike _ _) in (
      λ longer. absurd (omega (arith, ltb-true _ _ longer, c.if-content-root.false)),
      λ below. absurd (none_below b c.if-content-root.false below),
    )

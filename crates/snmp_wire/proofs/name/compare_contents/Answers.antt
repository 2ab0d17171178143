use Rattle.std.proofs.Common.{◌≡◌, ℕ, ◌<◌, inl, inr, List, length, ◌∙◌, arith, Ok}
use Rattle.snmp_wire.specs.ber.Decode.{identifier_of}
use Rattle.snmp_wire.proofs.NameOrder.{OrderLaw, Beside, EndsBy, beside, both_go_on, ends_decide, octets_decide, one_ends, one_is_last}
use Rattle.snmp_wire.proofs.name.compare_contents.Goals as goal
use Rattle.snmp_wire.proofs.name.compare_contents.Goals.{After-alike-at, then-octet-ge128+then-beside-ge128+else-end-other_end, else-octet-ge128}
use Rattle.snmp_wire.proofs.name.compare_contents.Goals.{else-octet-ge128-via-then-octet-ge128+else-beside-ge128}
use Rattle.snmp_wire.proofs.name.compare_contents.Goals.{else-octet-ge128-via-else-octet-ge128}

law : (c : After-alike-at) → OrderLaw
law c = record { less = c.order.ensures.less; equal = c.order.ensures.equal; greater = c.order.ensures.greater }

differ : (c : After-alike-at) (o p : List ℕ) → identifier_of c.args.content.now ≡ Ok o → identifier_of c.args.other.now ≡ Ok p
    → Beside c.args.content.now c.args.other.now o p c.alike-at.result
differ c o p e f =
    beside (λ k. omega (arith, c.type_inv.content k)) (λ k. omega (arith, c.type_inv.other k)) e f c.alike-at.ensures.same

pub returns-then-at-content : goal.returns-then-at-content
returns-then-at-content c = λ o p e f.
    let at = (goal.at.returns-then-at-content c).After-alike-at in
    c.cmp.ensures ∙ one_ends (law at) (differ at o p e f) (elim c.then-at-content.either [ inl here ↦ inl here | inr there ↦ inr there.1 ])

pub returns-then-end-other_end : goal.returns-then-end-other_end
returns-then-end-other_end c = λ o p e f.
    let at = (goal.at.returns-then-end-other_end c).After-alike-at in
    let b = differ at o p e f in
    c.cmp-then-end-other_end.ensures ∙ ends_decide (law at) b (omega (arith, b.alike.short)) (omega (arith, b.alike.other_short))
    c.last_octet-end.ensures c.last_octet-other_end.ensures c.if-end-other_end.true

pub returns : goal.returns
returns c = λ o p e f.
    let at = (goal.at.returns c).After-alike-at in
    let b = differ at o p e f in
    let low : c.alike-at.result < length c.args.content.now = omega (arith, b.alike.short) in
    let other_low : c.alike-at.result < length c.args.other.now = omega (arith, b.alike.other_short) in
    let way : EndsBy c.args.content.now c.args.other.now c.alike-at.result = elim c.if-octet-ge128.branch [
      | then-octet-ge128+then-beside-ge128+else-end-other_end w ↦
          both_go_on w.last_octet-end.ensures w.last_octet-other_end.ensures w.if-end-other_end.false
      | else-octet-ge128 w ↦ elim w.else-octet-ge128.branch [
        | else-octet-ge128-via-then-octet-ge128+else-beside-ge128 v ↦
            one_is_last c.args.content.now c.args.other.now c.alike-at.result (inr v.if-beside-ge128.false)
        | else-octet-ge128-via-else-octet-ge128 v ↦ one_is_last c.args.content.now c.args.other.now c.alike-at.result (inl v.if-octet-ge128.false)
      ]
    ] in
    c.cmp-2.ensures ∙ octets_decide (law at) b low other_low (c.alike-at.ensures.first low other_low) way

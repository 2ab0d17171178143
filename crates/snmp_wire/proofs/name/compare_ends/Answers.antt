use Rattle.std.proofs.{lemmas.Grind.common_steps, lemmas.Bool.cases_lt}
use Rattle.std.proofs.Common.{◌≡◌, ℕ, ◌+◌, ◌<◌, ◌≤◌, inl, inr, List, length, get_or, refl, Ok, ◌∙◌, arith}
use Rattle.snmp_wire.specs.{Name.EndsAt, ber.Decode.identifier_of}
use Rattle.snmp_wire.proofs.NameOrder.{OrderLaw, Beside, EndsBy, beside, both_go_on, octets_decide, one_ends, one_is_last}
use Rattle.snmp_wire.proofs.name.compare_ends.Goals as goal
use Rattle.snmp_wire.proofs.name.compare_ends.Goals.{After-words_alike-at, else-octet-ge128-via-else-octet-ge128}
use Rattle.snmp_wire.proofs.name.compare_ends.Goals.{else-octet-ge128-via-then-octet-ge128+else-beside-ge128}
use Rattle.snmp_wire.proofs.name.compare_ends.Goals.{else-octet-ge128-via-then-octet-ge128+then-beside-ge128+else-not-both_end}

-- if the octet at `at` has the high bit set, and the next octet is the last of its subidentifier,
-- then the subidentifier that contains the octet at `at` ends at the next one
goes_on_to : (content : List ℕ) (at : ℕ) → 128 ≤ get_or content at 0 → EndsAt content (at + 1) (at + 1) → EndsAt content at (at + 1)
goes_on_to content at high e = grind (arith, common_steps)

-- the order of identifiers satisfies `OrderLaw`
law : (c : After-words_alike-at) → OrderLaw
law c = record { less = c.order.ensures.less; equal = c.order.ensures.equal; greater = c.order.ensures.greater }

differ : (c : After-words_alike-at) (o p : List ℕ) → identifier_of c.args.content.now ≡ Ok o → identifier_of c.args.other.now ≡ Ok p
    → Beside c.args.content.now c.args.other.now o p c.words_alike-at.result
differ c o p e f = beside (λ k. omega (arith, c.type_inv.content k)) (λ k. omega (arith, c.type_inv.other k)) e f c.words_alike-at.ensures.same

pub returns-then-at-both : goal.returns-then-at-both
returns-then-at-both c = λ o p e f.
    let at = (goal.at.returns-then-at-both c).After-words_alike-at in
    c.cmp.ensures ∙ one_ends (law at) (differ at o p e f) (elim (cases_lt (length c.args.content.now) (length c.args.other.now)) [
      | inl less ↦ inl (omega (arith, less))
      | inr more ↦ inr (omega (arith, more))
    ])

pub returns : goal.returns
returns c = λ o p e f.
    let at = (goal.at.returns c).After-words_alike-at in
    let some : c.words_alike-at.result < c.min-both.result = omega arith in
    let way : EndsBy c.args.content.now c.args.other.now c.words_alike-at.result = elim c.else-octet-ge128.branch [
      | else-octet-ge128-via-then-octet-ge128+then-beside-ge128+else-not-both_end w ↦
          let ends = w.both_end.ensures w.if-not-both_end.false in
          both_go_on (goes_on_to _ _ w.if-octet-ge128.true ends.0) (goes_on_to _ _ w.if-beside-ge128.true ends.1) refl
      | else-octet-ge128-via-then-octet-ge128+else-beside-ge128 w ↦
          one_is_last c.args.content.now c.args.other.now c.words_alike-at.result (inr w.if-beside-ge128.false)
      | else-octet-ge128-via-else-octet-ge128 w ↦ one_is_last c.args.content.now c.args.other.now c.words_alike-at.result (inl w.if-octet-ge128.false)
    ] in
    c.cmp-2.ensures ∙ octets_decide (law at) (differ at o p e f) (omega (arith, some)) (omega (arith, some)) (c.words_alike-at.ensures.first some) way

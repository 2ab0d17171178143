use Rattle.std.proofs.Common.{◌++◌, List, inl, inr, sym, subst}
use Rattle.snmp_wire.specs.Message.{VarBind}
use Rattle.snmp_walk.specs.{Link.OneOf, Ordered.AreOrdered}
use Rattle.uses.proofs.polling.beginnings_are_polled.Goals as goal

pub returns : goal.returns
returns c = λ view root end rows good begins.
    let more = begins.0 in
    let parts = begins.1 in
    let below = λ (p : VarBind). c.instances_below.ensures.below view root p good in
    let lists = c.parts_of_lists.ensures in
    let in_turn : AreOrdered (rows ++ more) =
    subst (λ (l : List VarBind). AreOrdered l) parts (c.instances_below.ensures.ordered view root good) in
    record {
      instances = λ p one. (below p).0 (subst (λ (l : List VarBind). OneOf l p) (sym parts) (lists.first rows more p one));
      ordered = (lists.ordered rows more in_turn).0;
      none_skipped = λ p q one row is_below before.
          elim (lists.either rows more p (subst (λ (l : List VarBind). OneOf l p) parts ((below p).1 (row, is_below)))) [
            | inl h ↦ h
            | inr later ↦ absurd (c.strict_order.ensures.asymmetric p.name q.name before (lists.across rows more q p in_turn one later))
          ];
      all = λ done p row is_below.
          subst (λ (l : List VarBind). OneOf l p) (sym (begins.2 done)) ((below p).1 (row, is_below));
    }

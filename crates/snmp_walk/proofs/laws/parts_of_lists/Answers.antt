use Rattle.std.proofs.Common.{List, [], ◌∷◌, ◌++◌, inl, inr, sym, subst}
use Rattle.snmp_oid.specs.Identifier.{Precedes}
use Rattle.snmp_wire.specs.Message.{VarBind}
use Rattle.snmp_walk.specs.{Link.OneOf, Ordered.AreOrdered}
use Rattle.snmp_walk.proofs.Members.{one_append, one_left, one_right}
use Rattle.snmp_walk.proofs.laws.parts_of_lists.Goals as goal

parts_ordered : (xs ys : List VarBind) → AreOrdered (xs ++ ys) → AreOrdered xs × AreOrdered ys
parts_ordered [] ys h = (tt, h)
parts_ordered (p ∷ xs) ys h =
    let parts = parts_ordered xs ys h.1 in (((λ q one. h.0 q (one_left xs ys q one)), parts.0), parts.1)

comes_before : (xs ys : List VarBind) (p q : VarBind) → AreOrdered (xs ++ ys) → OneOf xs p → OneOf ys q → Precedes p.name q.name
comes_before [] ys p q h none later = absurd none
comes_before (x ∷ xs) ys p q h (inl e) later = subst (λ (z : VarBind). Precedes z.name q.name) (sym e) (h.0 q (one_right xs ys q later))
comes_before (x ∷ xs) ys p q h (inr one) later = comes_before xs ys p q h.1 one later

pub returns-clause-first : goal.returns-clause-first
returns-clause-first c = λ xs ys p one. one_left xs ys p one

pub returns-clause-second : goal.returns-clause-second
returns-clause-second c = λ xs ys p one. one_right xs ys p one

pub returns-clause-either : goal.returns-clause-either
returns-clause-either c = λ xs ys p one. one_append xs ys p one

pub returns-clause-ordered : goal.returns-clause-ordered
returns-clause-ordered c = λ xs ys h. parts_ordered xs ys h

pub returns-clause-across : goal.returns-clause-across
returns-clause-across c = λ xs ys p q h one later. comes_before xs ys p q h one later

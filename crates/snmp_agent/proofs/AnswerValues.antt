-- The result of a Get or a GetNext has a value that a reply can have (`get_value`, `next_value`). If the name asked for has an encoding, then so
-- has the name that a GetNext returns (`next_name`).
use Rattle.std.proofs.{Common.arith, Common.◌≡◌, Common.ℕ, Common.zero, Common.suc, Common.List, Common.sym, Common.subst, lemmas.Grind.common_steps}
use Rattle.snmp_oid.specs.Identifier.{IsWire}
use Rattle.snmp_wire.specs.{Message.Datum, Message.VarBind, Message.Datum.end_of_mib_view}
use Rattle.snmp_agent.specs.table.Table.{MibView, IsMibView, IsInstanceValue, IsAnswerValue, IsGet, IsNext, successor, end_of_view, IsNextAfter}

instance_answer : (v : Datum) → IsInstanceValue v → IsAnswerValue v
instance_answer v h = grind (arith, common_steps)

-- if a binding `p` equals `q`, then what holds of `q` holds of `p`
at_binding : (Q : VarBind → Type 0) (p q : VarBind) → p ≡ q → Q q → Q p
at_binding Q p q same h = subst Q (sym same) h

pub get_value : (view : MibView) (o : List ℕ) (p : VarBind) → IsMibView view → IsGet view o p → IsAnswerValue p.value
get_value view o p h e = grind (arith, common_steps, instance_answer, at_binding)

pub next_value : (view : MibView) (o : List ℕ) (p : VarBind) → IsMibView view → IsNext view o p → IsAnswerValue p.value
next_value view o p h e = grind (arith, common_steps, instance_answer, at_binding)

pub next_name : (view : MibView) (o : List ℕ) (p : VarBind) → IsMibView view → IsWire o → IsNext view o p → IsWire p.name
next_name view o p h wire (successor is) = (h.names p is.row).wire
next_name view o p h wire (end_of_view none same) = at_binding (λ (q : VarBind). IsWire q.name) p (record { name = o; value = end_of_mib_view }) same wire

pub next_after_value : (view : MibView) (rounds : ℕ) (o : List ℕ) (p : VarBind) → IsMibView view → IsNextAfter view rounds o p → IsAnswerValue p.value
next_after_value view rounds o p h is = grind (arith, common_steps, next_value)

pub next_after_name : (view : MibView) (rounds : ℕ) (o : List ℕ) (p : VarBind) → IsMibView view → IsWire o → IsNextAfter view rounds o p → IsWire p.name
next_after_name view zero o p h wire is = next_name view o p h wire is
next_after_name view (suc rounds) o p h wire is = next_name view is.0.name p h (next_after_name view rounds o is.0 h wire is.1) is.2

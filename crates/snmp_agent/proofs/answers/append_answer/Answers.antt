use Rattle.std.proofs.{Common.arith, Common.◌≡◌, lemmas.Grind.common_steps}
use Rattle.snmp_wire.specs.{declared.kind.Kind.Kind, Message.VarBind}
use Rattle.snmp_wire.specs.declared.kind.Kind.TheVariants as kind
use Rattle.snmp_agent.specs.{private.Answering.answer_to, table.Table.MibView}
use Rattle.snmp_agent.proofs.answers.append_answer.Goals as goal

-- the answer to a binding of a request that isn't a Get or a GetNext is the binding itself
same : (view : MibView) (k : Kind) (asked : VarBind) → (k ≡ kind.GetRequest → ⊥) → (k ≡ kind.GetNextRequest → ⊥) → asked ≡ answer_to view k asked
same view k asked get next = grind (arith, common_steps)

pub returns-in_default : goal.returns-in_default
returns-in_default c = grind (arith, common_steps, same)

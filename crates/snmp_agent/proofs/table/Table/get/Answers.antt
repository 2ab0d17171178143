use Rattle.std.proofs.Common.{Some, sym, ◌∙◌, ap, refl}
use Rattle.snmp_wire.specs.Message.{Datum, datum}
use Rattle.snmp_agent.specs.table.Table.{variable}
use Rattle.snmp_agent.proofs.AnswerValues.{get_value}
use Rattle.snmp_agent.proofs.table.Table.get.Goals as goal

pub returns-in-Some-clause-answer : goal.returns-in-Some-clause-answer
returns-in-Some-clause-answer c = variable refl (sym c.in-Some.ensures ∙ ap (λ (v : Datum). Some v) (sym c.value.ensures))

pub returns-in-Some-clause-value : goal.returns-in-Some-clause-value
returns-in-Some-clause-value c =
    get_value c.args.self.now c.args.name.now (record { name = c.args.name.now; value = datum c.value.result }) c.is_mib_view.ensures
    (variable refl (sym c.in-Some.ensures ∙ ap (λ (v : Datum). Some v) (sym c.value.ensures)))

pub exception-requires : goal.exception-requires
exception-requires c = sym c.in-None.ensures

use Rattle.std.proofs.Common.{arith, ◌≡◌, ◌⊎◌, inr}
use Rattle.std.proofs.lemmas.Grind.{common_steps}
use Rattle.snmp_words.specs.Words.{texts_at}
use Rattle.snmp_tools.specs.{Asking.NameFails, FaultText.fault_of, FaultText.out_of_memory, Question.HasMeaning}
use Rattle.snmp_io.specs.Steps.{IsFirstToFail}
use Rattle.snmp_tools.proofs.{Steps.first_unnamed, Steps.more_names, Wholes.if_err}
use Rattle.snmp_tools.proofs.names.read_names.Goals as goal

-- if the texts before the current one mean the names read so far, then with the current text they mean these names and the one that was pushed
pub texts-preserved : goal.texts-preserved
texts-preserved c = grind (arith, common_steps, more_names)

pub returns-in_err-name-clause-err : goal.returns-in_err-name-clause-err
returns-in_err-name-clause-err c =
    let mib = c.args.tree.now in
    let f = c.in_err-name.field-0.0 in
    if_err (λ e. (fault_of e ≡ out_of_memory) ⊎ IsFirstToFail (texts_at c.args.texts.now) (HasMeaning mib) (NameFails mib) (fault_of e)) _ f
    c.from_residual.ensures.1
    (inr (first_unnamed mib c.args.texts.now c.texts.text-index _ c.texts.names.items (fault_of f) c.texts-test.true c.texts.invariant
    c.in_err-name.ensures.err))

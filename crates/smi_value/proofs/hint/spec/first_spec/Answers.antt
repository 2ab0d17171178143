use Rattle.smi_value.proofs.HintSpec.{no_length}
use Rattle.smi_value.proofs.hint.spec.first_spec.Goals as goal

pub returns-in_default-clause-none : goal.returns-in_default-clause-none
returns-in_default-clause-none c = no_length c.args.text.now c.split_star-is_counted.result.1.now c.split_star-is_counted.ensures.after
    c.in_default.ensures.none

use Rattle.smi_value.proofs.HintPieces.{hint_begins}
use Rattle.smi_value.proofs.hint.spec.octet_hint.Goals as goal

pub returns-in_default-clause-none : goal.returns-in_default-clause-none
returns-in_default-clause-none c = λ specs h.
    let b = hint_begins c.args.text.now specs h in
    c.in_default.ensures.none b.spec b.rest b.is_first

-- What is stored of a display hint.
use Rattle.std.specs.Prelude.{ℕ, List}
use Rattle.smi_value.specs.{declared.hint.HintForm.HintForm, declared.hint.spec.Spec.Spec}
use Rattle.smi_value.specs.{hint.Number.IsNumberHint, hint.Spec.IsOctetHint, hint.Spec.IsFirstSpec}
use Rattle.smi_value.specs.declared.hint.HintForm.TheVariants as form

-- `text` is a display hint, and this is its form: for a hint of integers, how it shows numbers; for
-- a hint of octets, its first spec and the text after that spec
abbrev pub IsFormOf : List ℕ → HintForm → Type 0
IsFormOf text (form.Number number) = IsNumberHint text number
IsFormOf text (form.Octets first ahead) =
    (specs : List Spec) × IsOctetHint text specs × IsFirstSpec text first ahead.now

-- Display hints, and what they show (RFC 2579, section 3.1).
use Rattle.std.specs.Prelude.{◌≡◌, ℕ, ℤ, List}
use Rattle.smi_value.specs.{hint.Number.IsNumberHint, hint.Number.number_text}
use Rattle.smi_value.specs.{hint.Spec.IsOctetHint, hint.Pieces.ShowsOctets}
use Rattle.smi_value.specs.{declared.hint.spec.Spec.Spec, declared.hint.HintValue.HintValue}
use Rattle.smi_value.specs.declared.hint.number.NumberForm.{NumberForm}
use Rattle.smi_value.specs.declared.hint.HintValue.TheVariants as value

-- `text` is a hint of integers
abbrev pub IsOfNumbers : List ℕ → Type 0
IsOfNumbers text = (form : NumberForm) × IsNumberHint text form

-- `text` is a hint of octets
abbrev pub IsOfOctets : List ℕ → Type 0
IsOfOctets text = (specs : List Spec) × IsOctetHint text specs

-- `hint` shows the number `n` as `text`
pub record ShowsNumber (hint : List ℕ) (n : ℤ) (text : List ℕ) : Type 0 where
  pub form : NumberForm
  pub is_hint : IsNumberHint hint form
  pub is_text : text ≡ number_text form n

-- `hint` shows a value as `text`
abbrev pub Shows : List ℕ → HintValue → List ℕ → Type 0
Shows hint (value.Number n) text = ShowsNumber hint n text
Shows hint (value.Octets octets) text = ShowsOctets hint octets.now text

-- `hint` can show the value: it is a hint of integers for a number, and one of octets for octets
abbrev pub IsHintFor : List ℕ → HintValue → Type 0
IsHintFor hint (value.Number _) = IsOfNumbers hint
IsHintFor hint (value.Octets _) = IsOfOctets hint

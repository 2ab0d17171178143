-- What the letters of -C choose, and which octet of them has no meaning.
use Rattle.std.specs.Prelude.{◌≡◌, ◌≤◌, ◌⊎◌, ◌++◌, ◌==◌, ℕ, Bool, true, false, if◌then◌else◌, List}
use Rattle.std.specs.Prelude.{[], ◌∷◌, pos}
use Rattle.std.proofs.Props.{props}
use Rattle.std.specs.{Char.is_ascii_digit, List.list_all, List.list_any, Str.Parse.digits_value}
use Rattle.snmp_io.specs.Steps.{AreDone, IsFirstToFail}
use Rattle.snmp_walk.specs.{WalkState.IsMethod, declared.mode.Method.Method}
use Rattle.snmp_walk.specs.{declared.mode.Mode.Mode}
use Rattle.snmp_walk.specs.declared.mode.Method.TheVariants as method
use Rattle.snmp_walk.specs.declared.mode.Mode.TheVariants as mode

-- what the letters of -C choose: `i` includes the root, `p` counts what is printed, snmpwalk's `I`
-- leaves out the last Get of the root, and snmpbulkwalk's `r` is followed by the number of
-- repetitions
pub record Choices : Type 0 where
  pub includes_root : Bool
  pub leaves_last_get : Bool
  pub counts : Bool
  pub repetitions : ℕ

-- the defaults: what applies if -C isn't used
abbrev pub no_choices : Choices
no_choices = record {
  includes_root = false;
  leaves_last_get = false;
  counts = false;
  repetitions = 10;
}

-- ---- letters

-- `text` is these letters in order, each followed by its digits; a letter is any octet that isn't
-- a digit
abbrev pub AreLettersIn : (text : List ℕ) → (letters : List (ℕ × List ℕ)) → Type 0
AreLettersIn text [] = text ≡ []
AreLettersIn text ((letter, digits) ∷ more) = (rest : List ℕ)
    × (text ≡ letter ∷ (digits ++ rest)) × (is_ascii_digit letter ≡ false)
    × (list_all is_ascii_digit digits ≡ true) × AreLettersIn rest more

-- the letter has a meaning without digits after it: `i`, `p` or, for snmpwalk (not `bulk`), `I`
abbrev pub IsPlain : (bulk : Bool) → (letter : ℕ) → Type 0
IsPlain bulk letter = (letter ≡ 105) ⊎ ((letter ≡ 112) ⊎ ((bulk ≡ false) × (letter ≡ 73)))

-- `digits`, after snmpbulkwalk's `r`, spell `n`, a number of repetitions: 1 to 2147483647
abbrev pub AreRepetitions : (digits : List ℕ) → ℕ → Type 0
AreRepetitions digits n = (n ≡ digits_value 10 digits) × (1 ≤ n) × (n ≤ 2147483647)

-- the letter has a meaning with the digits after it
abbrev pub IsKnown : (bulk : Bool) → ℕ × List ℕ → Type 0
IsKnown bulk (letter, digits) = (IsPlain bulk letter × (digits ≡ []))
    ⊎ ((bulk ≡ true) × (letter ≡ 114) × ((n : ℕ) × AreRepetitions digits n))

-- The letter has no meaning with the digits after it, and `octet` is reported: the first digit
-- after a plain letter (`IsPlain`), otherwise the letter itself.
abbrev pub IsUnknown : (bulk : Bool) → ℕ × List ℕ → (octet : ℕ) → Type 0
IsUnknown bulk (letter, digits) octet =
    (IsPlain bulk letter × ((more : List ℕ) × (digits ≡ octet ∷ more)))
    ⊎ ((IsPlain bulk letter → ⊥) × (IsKnown bulk (letter, digits) → ⊥) × (octet ≡ letter))

-- whether `letter` is one of the letters in the list, which has each letter with its digits
abbrev pub has : (letter : ℕ) → List (ℕ × List ℕ) → Bool
has letter letters = list_any (λ part. part.0 == letter) letters

-- `n` is the number that the digits after the last `r` spell, or 10 if no letter is `r`
abbrev pub IsLastNumber : List (ℕ × List ℕ) → ℕ → Type 0
IsLastNumber letters n =
    ((has 114 letters ≡ false) × (n ≡ 10))
    ⊎ ((before : List (ℕ × List ℕ)) × (digits : List ℕ) × (after : List (ℕ × List ℕ))
    × (letters ≡ before ++ (114, digits) ∷ after) × (has 114 after ≡ false)
    × AreRepetitions digits n)

-- all letters of `text` have a meaning, and `choices` is what they choose
pub record HaveChosen (bulk : Bool) (text : List ℕ) (choices : Choices) : Type 0 where
  pub letters : List (ℕ × List ℕ)
  pub order : AreLettersIn text letters
  pub known : AreDone (IsKnown bulk) letters
  pub includes_root : choices.includes_root ≡ has 105 letters
  pub counts : choices.counts ≡ has 112 letters
  pub leaves_last_get : choices.leaves_last_get ≡ has 73 letters
  pub repetitions : IsLastNumber letters choices.repetitions

-- `octet` is the first in `text` without a meaning: a digit that `text` begins with; the first
-- digit after a letter that takes none; or another letter that has no meaning with its digits
abbrev pub IsFirstUnknown : (bulk : Bool) → (text : List ℕ) → (octet : ℕ) → Type 0
IsFirstUnknown bulk text octet =
    ((rest : List ℕ) × (text ≡ octet ∷ rest) × (is_ascii_digit octet ≡ true))
    ⊎ ((letters : List (ℕ × List ℕ)) × AreLettersIn text letters
    × IsFirstToFail letters (IsKnown bulk) (IsUnknown bulk) octet)

-- ---- what a walk returns, and the requests with which it asks

abbrev pub mode_of : Choices → Mode
mode_of choices = if choices.includes_root then mode.Include
    else (if choices.leaves_last_get then mode.NoLast else mode.Plain)

abbrev pub method_of : Bool → Choices → Method
method_of bulk choices = if bulk then method.Bulk (pos choices.repetitions) else method.Next

-- ---- for private functions

-- `IsMethod m` has at most one proof
pub IsMethod-prop : (m : Method) → IsProp (IsMethod m)
IsMethod-prop method.Next = hlevel
IsMethod-prop (method.Bulk repetitions) = hlevel props

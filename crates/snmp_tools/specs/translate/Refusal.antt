-- Why snmptranslate doesn't begin to print: its letters or its module files are refused, or memory
-- runs out.
use Rattle.std.specs.Prelude.{◌≡◌, ◌⊎◌, ℕ, List, [], ◌∷◌, Some, None}
use Rattle.snmp_tools.specs.{load.Files.AreModulesOf, Asking.MibsFail}
use Rattle.smi_value.specs.Letters.{first_other}
use Rattle.smi_text.specs.declared.trees.tree.Module.{Module}
use Rattle.snmp_io.specs.{Files.Holdings, Files.MayHold, Steps.IsFirstToFail}
use Rattle.snmp_words.specs.Words.{TranslateWords}
use Rattle.snmp_tools.specs.FaultText.{Fault, bad_letter, out_of_memory}
use Rattle.snmp_tools.specs.translate.Style.{first_other_of_t}

-- the steps before anything is printed, in order
pub data TranslateStep : Type 0 where
  letters_step : TranslateStep
  details_step : TranslateStep
  modules_step : TranslateStep

-- the step is done: it finds nothing to refuse
abbrev pub IsDoneForTranslation : TranslateWords → Holdings → TranslateStep → Type 0
IsDoneForTranslation words files letters_step = first_other words.letters ≡ None
IsDoneForTranslation words files details_step = first_other_of_t words.details ≡ None
IsDoneForTranslation words files modules_step =
    (modules : List Module) × AreModulesOf (MayHold files) words.mibs modules

-- the step fails for the reason `why`
abbrev pub FailsForTranslation : TranslateWords → Holdings → TranslateStep → Fault → Type 0
FailsForTranslation words files letters_step why =
    (octet : ℕ) × (first_other words.letters ≡ Some octet) × (why ≡ bad_letter octet)
FailsForTranslation words files details_step why =
    (octet : ℕ) × (first_other_of_t words.details ≡ Some octet) × (why ≡ bad_letter octet)
FailsForTranslation words files modules_step why = MibsFail files words.mibs why

-- `why` is the reason of the first step that fails; the steps before it are done
abbrev pub TranslationFails : TranslateWords → Holdings → Fault → Type 0
TranslationFails words files why =
    IsFirstToFail (letters_step ∷ details_step ∷ modules_step ∷ [])
    (IsDoneForTranslation words files) (FailsForTranslation words files) why

-- `why` is why printing doesn't begin: memory ran out, or a step failed
abbrev pub IsTranslateRefusal : TranslateWords → Holdings → Fault → Type 0
IsTranslateRefusal words files why = (why ≡ out_of_memory) ⊎ TranslationFails words files why

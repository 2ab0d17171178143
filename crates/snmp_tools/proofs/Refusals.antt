-- If snmptranslate accepts its letters, and memory runs out or its module files fail, then it is refused as `IsTranslateRefusal` says (`modules_fail`).
use Rattle.std.proofs.Common.{arith, ◌≡◌, ◌⊎◌, inl, inr, refl, ℕ, Some, None}
use Rattle.std.proofs.lemmas.Grind.{common_steps}
use Rattle.smi_value.specs.Letters.{first_other}
use Rattle.snmp_io.specs.Files.{Holdings}
use Rattle.snmp_words.specs.Words.{TranslateWords}
use Rattle.snmp_tools.specs.{Asking.MibsFail, FaultText.Fault, FaultText.bad_letter, FaultText.out_of_memory, declared.translate.Style.Style}
use Rattle.snmp_tools.specs.translate.Refusal.{IsTranslateRefusal, TranslationFails, details_step, letters_step}
use Rattle.snmp_tools.specs.translate.Style.{IsStyleOf, first_other_of_t}
use Rattle.snmp_tools.proofs.Steps.{first, later}

pub modules_fail : (words : TranslateWords) (files : Holdings) (style : Style) (why : Fault) → IsStyleOf words style
    → (why ≡ out_of_memory) ⊎ MibsFail files words.mibs why → IsTranslateRefusal words files why
modules_fail words files style why styled (inl none) = inl none
modules_fail words files style why styled (inr fails) = grind (arith, common_steps, later, first)

-- What snmptranslate promises, in short.
use Rattle.std.specs.Prelude.{◌≡◌, ◌⊎◌, ◌++◌, ℕ, List}
use Rattle.snmp_tools.specs.{load.Files.AreModulesOf, translate.TranslateResult.AreNamesPrinted}
use Rattle.snmp_tools.specs.{translate.Style.IsStyleOf, declared.translate.Style.Style}
use Rattle.smi_text.specs.declared.trees.tree.Module.{Module}
use Rattle.smi_names.specs.declared.nodes.warning.Warning.{Warning}
use Rattle.smi_tree.specs.Tree.{Contents, IsTree}
use Rattle.snmp_io.specs.{Files.Holdings, Files.Holds, Output.Stream, Output.TakesPrefix}
use Rattle.snmp_words.specs.Words.{TranslateWords}
use Rattle.snmp_tools.specs.translate.Text.{AreTextsOf}

-- the arguments ask for names in the style `style`, and their module files are known to hold
-- `modules`
pub record AskForTranslation (words : TranslateWords) (files : Holdings) (style : Style)
    (modules : List Module) : Type 0 where
  pub styled : IsStyleOf words style
  pub read : AreModulesOf (Holds files) words.mibs modules

-- `Printed` holds of the tree of the modules
pub record IsByTree (modules : List Module) (Printed : Contents → Type 0) : Type 0 where
  pub tree : Contents
  pub warnings : List Warning
  pub loads : IsTree modules tree warnings
  pub printed : Printed tree

-- what was printed is a prefix of the texts of `first`, the names that `names` begins with (none,
-- some or all of them)
abbrev pub IsPrefixOfTexts : Style → (names : List (List ℕ)) → (before after : Stream) → Contents
    → Type 0
IsPrefixOfTexts style names before after mib =
    (first : List (List ℕ)) × (rest : List (List ℕ)) × (text : List ℕ) × (names ≡ first ++ rest)
    × AreTextsOf mib style first text × TakesPrefix before text after

-- If the letters have a meaning and it is known which modules the files hold
-- (`AskForTranslation`), the texts of all names are printed, and nothing else. This is promised at
-- status 0.
abbrev pub PrintsAll : TranslateWords → Holdings → (before after : Stream) → Type 0
PrintsAll words files before after =
    (style : Style) (modules : List Module) → AskForTranslation words files style modules
    → IsByTree modules (λ mib. AreNamesPrinted mib style words.names before after)

-- If the letters have a meaning and it is known which modules the files hold
-- (`AskForTranslation`), nothing is printed, or a prefix of the texts of the first names. This is
-- promised whatever fails.
abbrev pub PrintsPrefix : TranslateWords → Holdings → (before after : Stream) → Type 0
PrintsPrefix words files before after =
    (style : Style) (modules : List Module) → AskForTranslation words files style modules
    → (after ≡ before) ⊎ IsByTree modules (IsPrefixOfTexts style words.names before after)

-- What snmptranslate prints, and why it ends.
use Rattle.std.specs.Prelude.{◌≡◌, ◌⊎◌, ◌++◌, ℕ, List, ◌∷◌, Option, Some, None}
use Rattle.snmp_tools.specs.{load.Loaded.IsLoaded, load.Loaded.LoadFacts, Asking.NameFails}
use Rattle.snmp_tools.specs.{translate.Refusal.IsTranslateRefusal, translate.Style.IsStyleOf}
use Rattle.smi_tree.specs.Tree.{Contents}
use Rattle.snmp_io.specs.Files.{Holdings, MayHold}
use Rattle.snmp_io.specs.Output.{FailsWithin, Stream, stream_after}
use Rattle.snmp_words.specs.Words.{TranslateWords}
use Rattle.snmp_tools.specs.FaultText.{Fault, no_output, out_of_memory}
use Rattle.snmp_tools.specs.translate.Text.{AreTextsOf, IsTextOf}
use Rattle.snmp_tools.specs.declared.translate.Style.{Style}

-- `why` is why there is no text to print of `name`: it has no meaning, or memory ran out
abbrev pub HasNoText : Contents → (name : List ℕ) → Fault → Type 0
HasNoText mib name why = NameFails mib name why ⊎ (why ≡ out_of_memory)

-- Printing stops at `name` for the reason `why`: nothing is printed of it, or the output failed,
-- and a prefix of its text is printed.
abbrev pub StopsAtName : Contents → Style → (before : Stream) → (name : List ℕ)
    → (after : Stream) → Fault → Type 0
StopsAtName mib style before name after why =
    (HasNoText mib name why × (after ≡ before))
    ⊎ ((why ≡ no_output)
    × ((text : List ℕ) × IsTextOf mib style name text × FailsWithin before text after))

-- the names before `name` were printed, and printing stopped at `name` for the reason `why`
pub record StopsWithin (mib : Contents) (style : Style) (names : List (List ℕ))
    (before after : Stream) (why : Fault) : Type 0 where
  pub printed : List (List ℕ)
  pub name : List ℕ
  pub left : List (List ℕ)
  pub order : names ≡ printed ++ name ∷ left
  pub text : List ℕ
  pub shown : AreTextsOf mib style printed text
  pub stops : StopsAtName mib style (stream_after before text) name after why

-- all names were printed
abbrev pub AreNamesPrinted : Contents → Style → (names : List (List ℕ))
    → (before after : Stream) → Type 0
AreNamesPrinted mib style names before after =
    (text : List ℕ) × AreTextsOf mib style names text × (after ≡ stream_after before text)

-- all names were printed, or printing stopped at one of them for a reason
abbrev pub IsPrinting : Contents → Style → (names : List (List ℕ)) → (before after : Stream)
    → Option Fault → Type 0
IsPrinting mib style names before after None = AreNamesPrinted mib style names before after
IsPrinting mib style names before after (Some why) = StopsWithin mib style names before after why

-- What snmptranslate printed, once the warnings of its modules were written, and why it stopped,
-- if it stopped before its last name was printed.
pub data IsTranslateOutcome (Loads : LoadFacts) (words : TranslateWords) (files : Holdings)
    (before after err_before err_after : Stream) (fault : Option Fault) : Type 0 where
  refused : (why : Fault) → IsTranslateRefusal words files why → after ≡ before
      → err_after ≡ err_before → fault ≡ Some why
      → IsTranslateOutcome Loads words files before after err_before err_after fault
  ran : (style : Style) (tree : Contents) → IsStyleOf words style
      → IsLoaded (MayHold files) words.mibs tree err_before err_after
      → Loads words.mibs err_before err_after
      → IsPrinting tree style words.names before after fault
      → IsTranslateOutcome Loads words files before after err_before err_after fault

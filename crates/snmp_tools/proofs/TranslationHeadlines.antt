-- From the outcome of snmptranslate follows what `Headline` says of the texts of its names (`all_printed`, `prefix_printed`).
use Rattle.std.proofs.Common.{arith, ◌≡◌, ◌∙◌, ◌++◌, inl, inr, refl, sym, subst, ℕ, List, [], ◌∷◌, Option, Some, None, append_assoc, append-nil}
use Rattle.std.proofs.lemmas.Grind.{common_steps}
use Rattle.snmp_tools.specs.{load.Loaded.IsLoaded, load.Loaded.LoadFacts, FaultText.Fault, translate.Style.IsStyleOf}
use Rattle.snmp_tools.specs.{declared.translate.Style.Style}
use Rattle.smi_text.specs.declared.trees.tree.Module.{Module}
use Rattle.smi_tree.specs.Tree.{Contents}
use Rattle.snmp_io.specs.{Files.Holdings, Files.MayHold, Output.Stream, Output.stream_after, Streams.prefix_after, Streams.whole_taken}
use Rattle.snmp_words.specs.Words.{TranslateWords}
use Rattle.snmp_tools.specs.translate.Headline.{AskForTranslation, IsByTree, IsPrefixOfTexts, PrintsAll, PrintsPrefix}
use Rattle.snmp_tools.specs.translate.TranslateResult.{AreNamesPrinted, IsPrinting, IsTranslateOutcome, StopsAtName, StopsWithin, ran, refused}
use Rattle.snmp_tools.proofs.{Plans.OneList, Plans.one_reading, PrintedNames.AreTextsOf-more}

-- the arguments ask for at most one style
one_style : (words : TranslateWords) (a b : Style) → IsStyleOf words a → IsStyleOf words b → a ≡ b
one_style words a b p q = grind (arith, common_steps, one_reading)

-- what holds of the tree that was loaded holds of the tree of the modules
by_tree : OneList → (words : TranslateWords) (files : Holdings) (style : Style) (modules : List Module) (tree : Contents) (err_before err_after : Stream)
    (Printed : Contents → Type 0) → AskForTranslation words files style modules → IsLoaded (MayHold files) words.mibs tree err_before err_after
    → Printed tree → IsByTree modules Printed
by_tree one words files style modules tree err_before err_after Printed asked loaded printed = grind (arith, common_steps)

pub all_printed : OneList → (Loads : LoadFacts) (words : TranslateWords) (files : Holdings)
    (before after err_before err_after : Stream) (fault : Option Fault) → fault ≡ None
    → IsTranslateOutcome Loads words files before after err_before err_after fault → PrintsAll words files before after
all_printed one Loads words files before after err_before err_after fault none (refused why refusal same same_too is) style modules asked =
    grind (arith, common_steps)
all_printed one Loads words files before after err_before err_after fault none (ran own tree styled loaded made printing) style modules asked =
    by_tree one words files style modules tree err_before err_after (λ (mib : Contents). AreNamesPrinted mib style words.names before after) asked loaded
    (subst (λ (s : Style). AreNamesPrinted tree s words.names before after) (one_style words own style styled asked.styled)
    (subst (IsPrinting tree own words.names before after) none printing))

-- if printing stopped at a name, then a prefix of the texts of the names up to this one was printed
prefix_stopped : (mib : Contents) (style : Style) (names : List (List ℕ)) (before after : Stream) (why : Fault)
    → (stopped : StopsWithin mib style names before after why) → StopsAtName mib style (stream_after before stopped.text) stopped.name after why
    → IsPrefixOfTexts style names before after mib
prefix_stopped mib style names before after why stopped (inl (nothing, same)) = grind (arith, common_steps)
prefix_stopped mib style names before after why stopped (inr (output, (text, is_text, fails))) = (
  stopped.printed ++ stopped.name ∷ [],
  stopped.left,
  stopped.text ++ text,
  stopped.order ∙ sym (append_assoc stopped.printed (stopped.name ∷ []) stopped.left),
  AreTextsOf-more mib style stopped.printed stopped.name stopped.text text stopped.shown is_text,
  prefix_after before (stream_after before stopped.text) after stopped.text text refl fails.begun,
)

-- if the texts of all names were printed, then a prefix of the texts was
prefix_whole : (mib : Contents) (style : Style) (names : List (List ℕ)) (before after : Stream) → AreNamesPrinted mib style names before after
    → IsPrefixOfTexts style names before after mib
prefix_whole mib style names before after (text, texts, is) = (names, [], text, sym (append-nil names), texts, whole_taken before after text is)

prefix_printing : (mib : Contents) (style : Style) (names : List (List ℕ)) (before after : Stream) (fault : Option Fault)
    → IsPrinting mib style names before after fault → IsPrefixOfTexts style names before after mib
prefix_printing mib style names before after None printed = prefix_whole mib style names before after printed
prefix_printing mib style names before after (Some why) stopped = prefix_stopped mib style names before after why stopped stopped.stops

pub prefix_printed : OneList → (Loads : LoadFacts) (words : TranslateWords) (files : Holdings)
    (before after err_before err_after : Stream) (fault : Option Fault)
    → IsTranslateOutcome Loads words files before after err_before err_after fault → PrintsPrefix words files before after
prefix_printed one Loads words files before after err_before err_after fault (refused why refusal same same_too is) style modules asked = inl same
prefix_printed one Loads words files before after err_before err_after fault (ran own tree styled loaded made printing) style modules asked =
    inr (by_tree one words files style modules tree err_before err_after (IsPrefixOfTexts style words.names before after) asked loaded
    (subst (λ (s : Style). IsPrefixOfTexts s words.names before after tree) (one_style words own style styled asked.styled)
    (prefix_printing tree own words.names before after fault printing)))

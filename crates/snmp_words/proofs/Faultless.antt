-- Arguments that the command takes, or that have no fault, name a subcommand and ask for a job.
use Rattle.std.proofs.Common.{◌≡◌, ◌∙◌, ◌⊎◌, ◌&&◌, ◌||◌, ap, refl, sym, inl, inr, true, false, not, true≢false, Bool, List, [], ◌∷◌, Option, Some}
use Rattle.std.proofs.Common.{None, is_some}
use Rattle.std.proofs.lemmas.Bool.{and_parts}
use Rattle.std.specs.List.{list_all, list_any}
use Rattle.clap.specs.{Facts.explicit_source, Kinds.Kinds, Kinds.check_kinds, Kinds.or_else}
use Rattle.clap.specs.Faults.{check_fault, defaults_fault, entered_fault, fault_of, level_fault, settle_fault, walk_fault}
use Rattle.clap.specs.Simple.{App, Shape, argument_words, built, entered, is_simple, names_of, subcommand_of}
use Rattle.clap.specs.Takes.{default_passes, entered_passes, is_given, is_valid, level_passes, settle_passes, takes, walk_passes}
use Rattle.clap.specs.Walk.{Held, Names, Row, Text, finished, nothing_held, settled, walk, walk_from}
use Rattle.snmp_words.specs.{Command.faults_of, Command.is_taken, Command.snmp_app, Words.StateJob, Words.Stated, Words.stated_in}
use Rattle.snmp_words.proofs.{Commands.stated_or_none, OptionValues.states}

-- if a subcommand is required, and the check that one was named passes, then one was named
met_if_required : (required met : Bool) → required ≡ true → (not required || met) ≡ true → met ≡ true
met_if_required true met is e = e
met_if_required false met is e = absurd (true≢false (sym is))

met_if_none_wanted : (met required : Bool) → required ≡ true → (not met && required) ≡ false → met ≡ true
met_if_none_wanted true required is e = refl
met_if_none_wanted false required is e = absurd (true≢false (sym is ∙ e))

-- if a command requires a subcommand, and the texts given for its options (the parser's rows) are valid, then a subcommand was named (`has`)
met_by_valid : (s : Shape) (rows : List Row) (has : Bool) → s.subcommand_required ≡ true
    → is_valid s rows has ≡ true → has ≡ true
met_by_valid s rows has required valid =
    let help = not s.arg_required_else_help || (has || list_any (λ r. explicit_source r.source) rows) in
    let later = (and_parts help _ valid).1 in
    met_if_required _ _ required (and_parts (not s.subcommand_required || has) _ later).0

met_by_level : (s : Shape) (names : Names) (h : Held) (words : List Text) (has : Bool) → s.subcommand_required ≡ true
    → level_passes s names h words has ≡ true → has ≡ true
met_by_level s names h words has required passes =
    let end = (walk s.rules names h words).held in
    let settles = (and_parts (walk_passes s names (walk_from h) words) _ passes).1 in
    let defaults = (and_parts (settle_passes s.rules s.args_override_self end) _ settles).1 in
    met_by_valid s (finished s.rules end) has required (and_parts (list_all default_passes s.rules) _ defaults).1

-- if a command requires a subcommand and takes the arguments `words`, then `words` name one
met_by_taken : (app : App) (words : List Text) → (built app).top.subcommand_required ≡ true → takes app words ≡ true
    → is_some (subcommand_of app words) ≡ true
met_by_taken app words required taken =
    let a = built app in
    let said = argument_words app words in
    let stop = (walk a.top.rules (names_of a) nothing_held said).stopped in
    let level = (and_parts (entered_passes a stop) _ (and_parts (is_simple app) _ taken).1).1 in
    met_by_level a.top (names_of a) nothing_held said (is_some (entered a stop)) required level

none_after : (first next : Kinds) → or_else first next ≡ [] → next ≡ []
none_after [] next e = e
none_after (k ∷ ks) next e = let no : ⊥ = cc in absurd no

none_wanted : (help wanted argument : Bool) → check_kinds help wanted argument ≡ [] → wanted ≡ false
none_wanted true wanted argument e = let no : ⊥ = cc in absurd no
none_wanted false true argument e = let no : ⊥ = cc in absurd no
none_wanted false false argument e = refl

met_by_check : (s : Shape) (rows : List Row) (has : Bool) → s.subcommand_required ≡ true
    → check_fault s rows has ≡ [] → has ≡ true
met_by_check s rows has required faultless =
    let help = not has && (s.arg_required_else_help && not (list_any (λ r. explicit_source r.source) rows)) in
    let argument = not (s.subcommand_negates_reqs && has)
    && list_any (λ a. a.required && not (is_given a.id rows)) s.rules in
    met_if_none_wanted has s.subcommand_required required
    (none_wanted help (not has && s.subcommand_required) argument faultless)

met_by_faultless_level : (s : Shape) (names : Names) (h : Held) (words : List Text) (has : Bool) (below : Kinds)
    → s.subcommand_required ≡ true → level_fault s names h words has below ≡ [] → has ≡ true
met_by_faultless_level s names h words has below required faultless =
    let end = (walk s.rules names h words).held in
    let entered = none_after (walk_fault s names (walk_from h) words) _ faultless in
    let settled_without = none_after (settle_fault s.rules s.args_override_self end) _ (none_after below _ entered) in
    let checked = none_after (defaults_fault (settled s.rules end).rows s.rules) _ settled_without in
    met_by_check s (finished s.rules end) has required checked

-- if a command requires a subcommand and the arguments `words` have no fault, then `words` name one
met_by_faultless : (app : App) (words : List Text) → (built app).top.subcommand_required ≡ true → fault_of app words ≡ []
    → is_some (subcommand_of app words) ≡ true
met_by_faultless app words required faultless =
    let a = built app in
    let said = argument_words app words in
    let stop = (walk a.top.rules (names_of a) nothing_held said).stopped in
    met_by_faultless_level a.top (names_of a) nothing_held said (is_some (entered a stop)) (entered_fault a stop)
    required faultless

there : (o : Option Stated) → is_some o ≡ true → (job : Stated) × (o ≡ Some job)
there None e = absurd (true≢false (sym e))
there (Some job) e = (job, refl)

stated_if_met : (words : List Text) → is_some (subcommand_of snmp_app words) ≡ true → (job : Stated) × StateJob words job
stated_if_met words met =
    let either : (subcommand_of snmp_app words ≡ None) ⊎ (is_some (stated_in (subcommand_of snmp_app words)) ≡ true) = stated_or_none words in
    elim either [
      | inl none ↦ absurd (true≢false (sym met ∙ ap is_some none))
      | inr stated ↦ let is = there _ stated in (is.0, states words is.0 is.1)
    ]

pub stated_by_taken : (words : List Text) → is_taken words ≡ true → (job : Stated) × StateJob words job
stated_by_taken words taken = stated_if_met words (met_by_taken snmp_app words refl taken)

pub stated_by_faultless : (words : List Text) → faults_of words ≡ [] → (job : Stated) × StateJob words job
stated_by_faultless words faultless = stated_if_met words (met_by_faultless snmp_app words refl faultless)

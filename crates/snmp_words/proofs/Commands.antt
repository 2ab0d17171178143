-- What follows from the shape of a command: its rules and its subcommands.
use Rattle.std.proofs.Common.{◌≡◌, ◌⊎◌, ◌&&◌, ap, ap₂, refl, sym, inl, inr, true, false, not, true≢false, Bool, List, [], ◌∷◌, Option, Some, None}
use Rattle.std.proofs.Common.{Result, Ok, subst, cond, option_map, IsSome, is_some, find, ◌∙◌}
use Rattle.clap.specs.{Built.AddsArg, Built.AddsSubcommand, Walk.Row, Walk.Rule, Walk.Text, Walk.answers_to, Walk.stop_after, Kinds.IsAmong}
use Rattle.clap.specs.{Kinds.Kinds, declared.error.ErrorKind.ErrorKind, declared.error.ErrorKind.TheVariants.OutOfMemory}
use Rattle.clap.specs.{declared.ArgMatches.ArgMatches, declared.builder.arg.Arg.Arg, declared.builder.command.Command.Command}
use Rattle.clap.specs.Simple.{App, app_of, built, Shape, argument_words, entered, label_of, names_of, rows_at, with_rule, with_subcommand}
use Rattle.clap.specs.Words.{has_subcommand, subcommand_of, subcommand_rows_of}
use Rattle.snmp_words.specs.{Command.IsArg, Command.IsMade, Command.snmp_app, declared.UsageError.UsageError}
use Rattle.snmp_words.specs.Words.{HasFaultOf, IsErrorOf, stated_by, stated_in}
use Rattle.snmp_words.specs.declared.UsageError.TheVariants.{Memory, Parse}

-- if the test whether a command is plain (`is_plain` of clap) passes, then no argument of it is global
pub plain_is_local : (groups external globals rest : Bool) → (groups && (external && (not globals && rest))) ≡ true → globals ≡ false
plain_is_local true true false rest e = refl
plain_is_local true true true rest e = absurd (true≢false (sym e))
plain_is_local true false globals rest e = absurd (true≢false (sym e))
plain_is_local false external globals rest e = absurd (true≢false (sym e))

-- if a plain subcommand of shape b is added to a command of shape a, then the result has the shape of a with the subcommand b
pub subcommand_added : (command sub result : Command) (a b : App) → AddsSubcommand command sub result → app_of command ≡ a → app_of sub ≡ b
    → b.top.is_plain ≡ true → app_of result ≡ with_subcommand a b.top
subcommand_added command sub result a b adds is sub_is plain =
    adds.shape (plain_is_local _ _ _ _ (ap (λ (x : App). x.top.is_plain) sub_is ∙ plain))
    ∙ ap₂ with_subcommand is (ap (λ (x : App). x.top) sub_is)

-- if `m` is `Ok` with a command, and `IsMade` says that `m` has the shape `app`, then the command has this shape
pub made : {E : Type 0} (m : Result Command E) (command : Command) (app : App) → m ≡ Ok command → IsMade m app → app_of command ≡ app
made m command app e is = let P : Result Command _ → Type 0 = λ r. IsMade r app in subst P e is

-- if an argument is added to a command, then the result has the shape of the command with the argument's rule added
pub arg_added : (command result : Command) (arg : Arg) (app : App) (rule : Rule) → AddsArg command arg result → app_of command ≡ app → IsArg arg rule
    → app_of result ≡ with_rule app rule
arg_added command result arg app rule adds is is_arg = adds.shape is_arg.1 ∙ ap₂ with_rule is is_arg.0

is_some-map : {X Y : Type 0} (f : X → Y) (o : Option X) → is_some (option_map f o) ≡ is_some o
is_some-map f None = refl
is_some-map f (Some x) = refl

-- each command in the list asks for a job, whatever texts were given for its options (the parser's rows)
abbrev AllState : List Shape → Type 0
AllState [] = Unit {0}
AllState (s ∷ more) = ((rows : List Row) → is_some (stated_by (s.name, rows)) ≡ true) × AllState more

-- if each of the commands `subs` asks for a job (`AllState`), then no command passes `test`, or the first one that passes asks for a job
found_states : (test : Shape → Bool) (subs : List Shape) (words : List Text) → AllState subs
    → (option_map (λ s. rows_at s words) (find test subs) ≡ None)
    ⊎ (is_some (stated_in (option_map (λ s. rows_at s words) (find test subs))) ≡ true)
found_states test [] words all = inl refl
found_states test (s ∷ more) words all = go (test s) (found_states test more words all.1)
  where
    go : (b : Bool) → (option_map (λ s. rows_at s words) (find test more) ≡ None)
        ⊎ (is_some (stated_in (option_map (λ s. rows_at s words) (find test more))) ≡ true)
        → (option_map (λ s. rows_at s words) (cond b (Some s) (find test more)) ≡ None)
        ⊎ (is_some (stated_in (option_map (λ s. rows_at s words) (cond b (Some s) (find test more)))) ≡ true)
    go true later = inr (all.0 (rows_at s words).1)
    go false later = later

entered_states : (a : App) → AllState a.subs → (stop : Option (Text × List Text))
    → (entered a stop ≡ None) ⊎ (is_some (stated_in (entered a stop)) ≡ true)
entered_states a all None = inl refl
entered_states a all (Some p) = found_states (λ s. answers_to p.0 (label_of s)) a.subs p.1 all

-- the arguments name no command, or they ask for a job
pub stated_or_none : (words : List Text)
    → (subcommand_of snmp_app words ≡ None) ⊎ (is_some (stated_in (subcommand_of snmp_app words)) ≡ true)
stated_or_none words =
    let all : AllState (built snmp_app).subs = (λ rows. refl, (λ rows. refl, (λ rows. refl, (λ rows. refl, (λ rows. refl, tt))))) in
    entered_states (built snmp_app) all (stop_after (built snmp_app).top.rules (names_of (built snmp_app)) (argument_words snmp_app words))

-- if the parser's result `m` has a subcommand, and this is the one that `words` name, with the same texts for its options, then `m` asks for a job
pub states_job : (m : ArgMatches) (words : List Text) → has_subcommand m ≡ true → subcommand_rows_of m ≡ subcommand_of snmp_app words
    → IsSome (stated_in (subcommand_rows_of m))
states_job m words met rows =
    let some : is_some (subcommand_of snmp_app words) ≡ true = ap is_some (sym rows) ∙ is_some-map _ _ ∙ met in
    let states : (subcommand_of snmp_app words ≡ None) ⊎ (is_some (stated_in (subcommand_of snmp_app words)) ≡ true) = stated_or_none words in
    elim states [
      | inl none ↦ absurd (true≢false (sym some ∙ ap is_some none))
      | inr stated ↦ ap (λ o. is_some (stated_in o)) rows ∙ stated
    ]

pub fault_of_refusal : (faults : Kinds) (k : ErrorKind) (e : UsageError) → (k ≡ OutOfMemory → e ≡ Memory) → IsErrorOf e k
    → (k ≡ OutOfMemory) ⊎ IsAmong k faults → HasFaultOf e faults
fault_of_refusal faults k Memory memory refusal kind = tt
fault_of_refusal faults k (Parse text help) memory refusal (inl none) = let same = memory none in absurd (cc)
fault_of_refusal faults k (Parse text help) memory refusal (inr among) = (k, among, refusal)

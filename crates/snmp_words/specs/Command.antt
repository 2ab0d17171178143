-- The commands of the program in clap's terms: each has rules for its arguments.
use Rattle.std.specs.Prelude.{◌≡◌, ℕ, Bool, true, false, List, [], ◌∷◌, Some, codes, Result}
use Rattle.std.specs.Prelude.{IfOk}
use Rattle.clap.specs.{Faults.fault_of, Kinds.Kinds, Takes.takes, Walk.Rule, Walk.Text}
use Rattle.clap.specs.{Walk.rule_of, Words.app_of, declared.builder.arg.Arg.Arg}
use Rattle.clap.specs.Simple.{App, new_app, new_rule, on_top, with_rule, with_subcommand}
use Rattle.clap.specs.declared.builder.action.ArgAction.TheVariants.{Append}
use Rattle.clap.specs.declared.builder.command.Command.{Command}
use Rattle.clap.specs.declared.builder.value_parser.ValueParser.TheVariants.{Unsigned}

-- ---- the rules of options and positional arguments

-- the rule of an option or a positional argument with one text
abbrev pub one_text : Text → Rule
one_text id = record (new_rule id) { value_names = 1 }

-- `rule` changed so that its argument may be given several times
abbrev pub repeated : Rule → Rule
repeated rule = record rule { action = Some Append }

-- a rule changed so that the text of its argument is a decimal number from `low` to `high`
abbrev pub numbered : (low high : ℕ) → Rule → Rule
numbered low high rule = record rule { parser = Some (Unsigned low high) }

abbrev pub required : Rule → Rule
required rule = record rule { required = true }

-- --mib FILE
abbrev pub mib_rule : Rule
mib_rule = repeated (record (one_text (codes "mib")) { long = Some (codes "mib") })

-- -O LETTERS
abbrev pub letters_rule : Rule
letters_rule = repeated (record (one_text (codes "letters")) { short = Some 79 })

-- -T LETTERS
abbrev pub details_rule : Rule
details_rule = record (one_text (codes "details")) { short = Some 84 }

-- -v VERSION
abbrev pub protocol_rule : Rule
protocol_rule = record (one_text (codes "protocol")) { short = Some 118 }

-- -c COMMUNITY
abbrev pub community_rule : Rule
community_rule = record (one_text (codes "community")) { short = Some 99 }

-- -r RETRIES
abbrev pub retries_rule : Rule
retries_rule = numbered 0 1000 (record (one_text (codes "retries")) { short = Some 114 })

-- -t SECONDS
abbrev pub seconds_rule : Rule
seconds_rule = numbered 1 3600 (record (one_text (codes "seconds")) { short = Some 116 })

-- --max-size OCTETS
abbrev pub size_rule : Rule
size_rule = numbered 1 65507 (record (one_text (codes "size")) { long = Some (codes "max-size") })

-- -C LETTERS
abbrev pub walk_letters_rule : Rule
walk_letters_rule = repeated (record (one_text (codes "walk")) { short = Some 67 })

-- --after NAME
abbrev pub after_rule : Rule
after_rule = record (one_text (codes "after")) { long = Some (codes "after") }

-- --table FILE
abbrev pub table_rule : Rule
table_rule = required (record (one_text (codes "table")) { long = Some (codes "table") })

-- --listen HOST:PORT
abbrev pub listen_rule : Rule
listen_rule = record (one_text (codes "listen")) { long = Some (codes "listen") }

-- --turns N
abbrev pub turns_rule : Rule
turns_rule = numbered 0 18446744073709551615 (record (one_text (codes "turns")) {
  long = Some (codes "turns");
})

abbrev pub agent_rule : Rule
agent_rule = required (one_text (codes "agent"))

abbrev pub name_rule : Rule
name_rule = one_text (codes "name")

-- one name or more
abbrev pub names_rule : Rule
names_rule = repeated (required (one_text (codes "names")))

-- ---- the commands

abbrev pub with_rules : App → List Rule → App
with_rules app [] = app
with_rules app (rule ∷ rules) = with_rules (with_rule app rule) rules

-- the options of each command that asks an agent: the module files, how lines are shown, the
-- version and community of requests, how many times one is sent again, how long to wait for a
-- reply, and the size of messages
abbrev pub asking_rules : List Rule
asking_rules = mib_rule ∷ letters_rule ∷ protocol_rule ∷ community_rule ∷ retries_rule
    ∷ seconds_rule ∷ size_rule ∷ []

-- snmptranslate OPTION.. NAME..
abbrev pub translate_app : App
translate_app = with_rules (new_app (codes "snmptranslate"))
    (mib_rule ∷ letters_rule ∷ details_rule ∷ names_rule ∷ [])

-- snmpget OPTION.. AGENT NAME..
abbrev pub get_app : App
get_app = with_rules (with_rules (new_app (codes "snmpget")) asking_rules)
    (agent_rule ∷ names_rule ∷ [])

-- snmpwalk OPTION.. AGENT [NAME], and snmpbulkwalk with the same arguments
abbrev pub walk_app : Text → App
walk_app name = with_rules (with_rules (new_app name) asking_rules)
    (walk_letters_rule ∷ after_rule ∷ agent_rule ∷ name_rule ∷ [])

-- snmpd OPTION..
abbrev pub serve_app : App
serve_app = with_rules (new_app (codes "snmpd"))
    (mib_rule ∷ table_rule ∷ community_rule ∷ listen_rule ∷ size_rule ∷ turns_rule ∷ [])

-- snmp without its subcommands
abbrev pub top_app : App
top_app = on_top (λ s. record s {
  has_version = true;
  propagate_version = true;
  subcommand_required = true;
  disable_help_subcommand = true;
}) (new_app (codes "snmp"))

abbrev pub with_commands : App → List App → App
with_commands app [] = app
with_commands app (command ∷ commands) = with_commands (with_subcommand app command.top) commands

abbrev pub snmp_app : App
snmp_app = with_commands top_app (translate_app ∷ get_app ∷ walk_app (codes "snmpwalk")
    ∷ walk_app (codes "snmpbulkwalk") ∷ serve_app ∷ [])

-- whether the command takes the arguments: they name options and subcommands that it has, with as
-- many texts as these need; what is required is given; each number is in its range; no option that
-- may be given once is given twice; and they don't ask for help or the version
abbrev pub is_taken : List Text → Bool
is_taken words = takes snmp_app words

-- the kinds of the mistakes that the arguments have, and of a request for help or the version
abbrev pub faults_of : List Text → Kinds
faults_of words = fault_of snmp_app words

-- ---- for private functions

-- the argument has the rule `rule`, and isn't passed on to subcommands (it isn't global)
abbrev pub IsArg : Arg → Rule → Type 0
IsArg arg rule = (rule_of arg ≡ rule) × (arg.global ≡ false)

-- if `made` isn't an error, then its command has the rules and subcommands of `app`
abbrev pub IsMade : {E : Type 0} → Result Command E → App → Type 0
IsMade made app = IfOk made (λ c. app_of c ≡ app)

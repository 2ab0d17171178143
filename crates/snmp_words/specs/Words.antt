-- What the arguments of a command line say: the command, and the texts and numbers given to it.
use Rattle.std.specs.Prelude.{◌≡◌, ◌<◌, ◌≤◌, ◌^◌, ◌⊎◌, ⊤, ◌++◌, ℕ, Bool, true, false, List, []}
use Rattle.std.specs.Prelude.{◌∷◌, Option, Some, None, string_bytes, codes, map, unwrap_or}
use Rattle.std.specs.Prelude.{option_and_then, option_map, if◌then◌else◌, MatchOption}
use Rattle.std.specs.{List.flat_map, Str.bytes_eq, Borrow.Bor}
use Rattle.std.specs.Str.Parse.{IsNumeral, digits_value, without_leading_plus}
use Rattle.clap.specs.{Kinds.IsAmong, Kinds.Kinds, Simple.subcommand_of, ValueTests.is_unsigned_in}
use Rattle.clap.specs.Walk.{Row, Text, all_of, first_of}
use Rattle.clap.specs.declared.error.kind.ErrorKind.{ErrorKind}
use Rattle.clap.specs.declared.error.kind.ErrorKind.TheVariants as kind
use Rattle.snmp_words.specs.{Command.faults_of, Command.snmp_app, declared.job.Asking.Asking}
use Rattle.snmp_words.specs.{declared.job.GetJob.GetJob, declared.job.Job.Job}
use Rattle.snmp_words.specs.{declared.job.ServeJob.ServeJob, declared.job.TranslateJob.TranslateJob}
use Rattle.snmp_words.specs.{declared.job.WalkJob.WalkJob, declared.UsageError.UsageError}
use Rattle.snmp_words.specs.declared.job.Job.TheVariants as job
use Rattle.snmp_words.specs.declared.UsageError.TheVariants.{Memory, Parse}

-- ---- what the arguments say

pub record TranslateWords : Type 0 where
  pub mibs : List Text
  pub letters : Text
  pub details : Text
  pub names : List Text

-- the agent to ask, the messages to ask it with, and how the replies are shown
pub record AskingWords : Type 0 where
  pub mibs : List Text
  pub letters : Text
  pub protocol : Text
  pub community : Text
  pub retries : ℕ
  pub seconds : ℕ
  pub max_size : ℕ
  pub agent : Text

pub record GetWords : Type 0 where
  pub asking : AskingWords
  pub names : List Text

-- the arguments of snmpwalk or snmpbulkwalk: the agent to ask, and how; its letters of -C; the name
-- after which it continues; and the name of its root
pub record WalkWords : Type 0 where
  pub asking : AskingWords
  pub letters : Text
  pub after : Option Text
  pub name : Option Text

-- the arguments of snmpd: its module files, its table file, its community, the address that it
-- listens on, the greatest size of a reply, and how many turns are served
pub record ServeWords : Type 0 where
  pub mibs : List Text
  pub table : Text
  pub community : Text
  pub listen : Text
  pub max_size : ℕ
  pub turns : ℕ

-- a command with its arguments
pub data Stated : Type 0 where
  snmptranslate : TranslateWords → Stated
  snmpget : GetWords → Stated
  snmpwalk : WalkWords → Stated
  snmpbulkwalk : WalkWords → Stated
  snmpd : ServeWords → Stated

-- ---- what the parser's rows say: each has the texts given for one option or argument

-- the texts given for the option or argument `id`, from the parser's rows
abbrev pub texts_of : Text → List Row → List Text
texts_of id rows = unwrap_or (all_of id rows) []

-- the texts given for the option or argument `id`, joined in order
abbrev pub joined_of : Text → List Row → Text
joined_of id rows = flat_map (λ text. text) (texts_of id rows)

-- the first text given for the option or argument `id`, or `default` if none was given
abbrev pub text_or : Text → Text → List Row → Text
text_or id default rows = unwrap_or (first_of id rows) default

-- the text writes the number n in decimal digits, with or without a plus; n has at most 64 bits and
-- is from `low` to `high`
pub record StatesNumber (low high : ℕ) (text : Text) (n : ℕ) : Type 0 where
  pub digits : IsNumeral 10 (without_leading_plus text)
  pub value : n ≡ digits_value 10 (without_leading_plus text)
  pub fits : n < 2 ^ 64
  pub from : low ≤ n
  pub to : n ≤ high

-- n is the number of option `id`: the one that the first text given for it writes, or `default` if
-- no text was given. A text that doesn't write a number of the range counts as `default` too, but
-- the command refuses it first.
abbrev pub IsNumberOf : Text → (default low high : ℕ) → List Row → ℕ → Type 0
IsNumberOf id default low high rows n =
    MatchOption (first_of id rows) (n ≡ default) (λ text. StatesNumber low high text n
    ⊎ (((m : ℕ) → StatesNumber low high text m → ⊥) × (n ≡ default)))

-- a function that returns the number of each option by its id, default and range
abbrev pub Numbers : Type 0
Numbers = Text → (default low high : ℕ) → ℕ

abbrev pub AreNumbersOf : List Row → Numbers → Type 0
AreNumbersOf rows numbers = (id : Text) (default low high : ℕ)
    → IsNumberOf id default low high rows (numbers id default low high)

abbrev pub translate_of_rows : List Row → TranslateWords
translate_of_rows rows = record {
  mibs = texts_of (codes "mib") rows;
  letters = joined_of (codes "letters") rows;
  details = text_or (codes "details") [] rows;
  names = texts_of (codes "names") rows;
}

abbrev pub asking_of_rows : Numbers → List Row → AskingWords
asking_of_rows numbers rows = record {
  mibs = texts_of (codes "mib") rows;
  letters = joined_of (codes "letters") rows;
  protocol = text_or (codes "protocol") (codes "2c") rows;
  community = text_or (codes "community") (codes "public") rows;
  retries = numbers (codes "retries") 5 0 1000;
  seconds = numbers (codes "seconds") 1 1 3600;
  max_size = numbers (codes "size") 1472 1 65507;
  agent = text_or (codes "agent") [] rows;
}

abbrev pub get_of_rows : Numbers → List Row → GetWords
get_of_rows numbers rows = record {
  asking = asking_of_rows numbers rows;
  names = texts_of (codes "names") rows;
}

abbrev pub walk_of_rows : Numbers → List Row → WalkWords
walk_of_rows numbers rows = record {
  asking = asking_of_rows numbers rows;
  letters = joined_of (codes "walk") rows;
  after = first_of (codes "after") rows;
  name = first_of (codes "name") rows;
}

abbrev pub serve_of_rows : Numbers → List Row → ServeWords
serve_of_rows numbers rows = record {
  mibs = texts_of (codes "mib") rows;
  table = text_or (codes "table") [] rows;
  community = text_or (codes "community") (codes "public") rows;
  listen = text_or (codes "listen") (codes "127.0.0.1:161") rows;
  max_size = numbers (codes "size") 1472 1 65507;
  turns = numbers (codes "turns") 18446744073709551615 0 18446744073709551615;
}

-- the name of each command, with the function that makes its arguments from the parser's rows
abbrev pub readings : Numbers → List (Text × (List Row → Stated))
readings numbers = (codes "snmptranslate", λ rows. snmptranslate (translate_of_rows rows))
    ∷ (codes "snmpget", λ rows. snmpget (get_of_rows numbers rows))
    ∷ (codes "snmpwalk", λ rows. snmpwalk (walk_of_rows numbers rows))
    ∷ (codes "snmpbulkwalk", λ rows. snmpbulkwalk (walk_of_rows numbers rows))
    ∷ (codes "snmpd", λ rows. snmpd (serve_of_rows numbers rows)) ∷ []

abbrev pub stated_among : List (Text × (List Row → Stated)) → Text × List Row → Option Stated
stated_among [] p = None
stated_among (reading ∷ more) p =
    if bytes_eq p.0 reading.0 then Some (reading.1 p.1) else stated_among more p

-- the arguments `words` ask for `job`: they name its command, and its texts and numbers are what
-- they give for the options and arguments of that command
pub record StateJob (words : List Text) (job : Stated) : Type 0 where
  pub command : Text
  pub rows : List Row
  pub given : subcommand_of snmp_app words ≡ Some (command, rows)
  pub numbers : Numbers
  pub are_numbers : AreNumbersOf rows numbers
  pub stated : stated_among (readings numbers) (command, rows) ≡ Some job

-- ---- what a job holds

-- the texts that references point to
abbrev pub texts_at : List (Bor Text) → List Text
texts_at texts = map (λ text. text.now) texts

abbrev pub translate_words : TranslateJob → TranslateWords
translate_words t = record {
  mibs = texts_at t.mibs.items;
  letters = string_bytes t.letters;
  details = t.details.now;
  names = texts_at t.names.items;
}

abbrev pub asking_words : Asking → AskingWords
asking_words a = record {
  mibs = texts_at a.mibs.items;
  letters = string_bytes a.letters;
  protocol = a.protocol.now;
  community = a.community.now;
  retries = a.retries;
  seconds = a.seconds;
  max_size = a.max_size;
  agent = a.agent.now;
}

abbrev pub get_words : GetJob → GetWords
get_words g = record {
  asking = asking_words g.asking;
  names = texts_at g.names.items;
}

abbrev pub walk_words : WalkJob → WalkWords
walk_words w = record {
  asking = asking_words w.asking;
  letters = string_bytes w.letters;
  after = option_map (λ text. text.now) w.after;
  name = option_map (λ text. text.now) w.name;
}

abbrev pub serve_words : ServeJob → ServeWords
serve_words s = record {
  mibs = texts_at s.mibs.items;
  table = s.table.now;
  community = s.community.now;
  listen = s.listen.now;
  max_size = s.max_size;
  turns = s.turns;
}

-- the arguments of a job, with its command
abbrev pub job_words : Job → Stated
job_words (job.Translate t) = snmptranslate (translate_words t)
job_words (job.Get g) = snmpget (get_words g)
job_words (job.Walk w) = snmpwalk (walk_words w)
job_words (job.BulkWalk w) = snmpbulkwalk (walk_words w)
job_words (job.Serve s) = snmpd (serve_words s)

-- ---- refusals

abbrev pub asks_help : ErrorKind → Bool
asks_help kind.DisplayHelp = true
asks_help kind.DisplayVersion = true
asks_help _ = false

-- the error says that memory ran out; or its `help` is true and one of the faults is a request for
-- help or the version; or its `help` is false and one of the faults is a mistake
abbrev pub HasFaultOf : UsageError → Kinds → Type 0
HasFaultOf Memory faults = ⊤
HasFaultOf (Parse text help) faults = (k : ErrorKind) × IsAmong k faults × (help ≡ asks_help k)

-- the end of a text for the user: a newline if the text is help or the version (`help`); after a
-- mistake, the end of the line that names the option `--help`
abbrev pub end_of_text : (help : Bool) → Text
end_of_text true = codes "\n"
end_of_text false = codes "--help'.\n"

abbrev pub IsTextFor : (help : Bool) → Text → Type 0
IsTextFor help text = (prefix : Text) × (text ≡ prefix ++ end_of_text help)

-- the text of the error, if it has one, ends as `end_of_text` says
abbrev pub IsForUser : UsageError → Type 0
IsForUser Memory = ⊤
IsForUser (Parse text help) = IsTextFor help (string_bytes text)

-- ---- the arguments of a walk

-- the arguments `snmp snmpwalk -On table:PATH .NUMBERS`: a walk of the table file `path` below the
-- name `numbers`, shown in numbers
abbrev pub walk_line : Text → Text → List Text
walk_line path numbers = codes "snmp" ∷ codes "snmpwalk" ∷ codes "-On" ∷ (codes "table:" ++ path)
    ∷ (codes "." ++ numbers) ∷ []

-- what the arguments `walk_line path numbers` say: the agent, the name and the letter n; each other
-- option has its default, or is absent
abbrev pub words_of_walk : Text → Text → WalkWords
words_of_walk path numbers = record {
  asking = record {
    mibs = [];
    letters = codes "n";
    protocol = codes "2c";
    community = codes "public";
    retries = 5;
    seconds = 1;
    max_size = 1472;
    agent = codes "table:" ++ path;
  };
  letters = [];
  after = None;
  name = Some (codes "." ++ numbers);
}

-- ---- for private functions

-- the number that the text writes in decimal digits, perhaps after a plus, if it is in the range
abbrev pub number_in : (low high : ℕ) → Text → Option ℕ
number_in low high text =
    if is_unsigned_in low high text then Some (digits_value 10
    (without_leading_plus text)) else None

-- the number of the option `id`, computed: the number that its first text writes, if it is in the
-- range, otherwise `default`
abbrev pub numbers_in : List Row → Numbers
numbers_in rows id default low high =
    unwrap_or (option_and_then (number_in low high) (first_of id rows)) default

-- the job that `p` asks for, computed: `p` is the name of a command and the parser's rows for it;
-- None if no command has that name
abbrev pub stated_by : Text × List Row → Option Stated
stated_by p = stated_among (readings (numbers_in p.1)) p

abbrev pub stated_in : Option (Text × List Row) → Option Stated
stated_in = option_and_then stated_by

-- the error can come from a parse that failed with kind k: it says that memory ran out, or its
-- `help` says whether k is a request for help or the version
abbrev pub IsErrorOf : UsageError → ErrorKind → Type 0
IsErrorOf Memory k = ⊤
IsErrorOf (Parse text help) k = help ≡ asks_help k

-- The requests, judged arguments and plans of the code, as values of the definitions' types, for
-- contracts of private functions.
use Rattle.std.specs.Prelude.{◌≡◌, ◌≤◌, ◌⊎◌, length, Some, codes, ℕ, List, [], Option, drop}
use Rattle.std.specs.Prelude.{option_map, unwrap_or}
use Rattle.snmp_oid.specs.Numeric.{numeric_text}
use Rattle.snmp_words.specs.Words.{AskingWords, WalkWords, asking_words, texts_at, words_of_walk}
use Rattle.snmp_net.specs.Address.{address_of}
use Rattle.snmp_tools.specs.Asking.{AreShown, AskingFails, HasAgent, IsAskingDone, NameFails}
use Rattle.snmp_tools.specs.Asking.{agent_step, community_step, letters_step, version_step}
use Rattle.snmp_tools.specs.Letters as letters
use Rattle.snmp_tools.specs.FaultText.{Fault, out_of_memory}
use Rattle.snmp_tools.specs.{declared.plan.request.AskJob.AskJob, declared.plan.Orders.Orders}
use Rattle.snmp_tools.specs.{declared.plan.Plan.Plan, declared.plan.Question.Question}
use Rattle.snmp_tools.specs.declared.plan.choices.Choices.{Choices}
use Rattle.snmp_tools.specs.{declared.plan.request.Request.Request, declared.plan.Walk.Walk}
use Rattle.snmp_tools.specs.Question as question
use Rattle.snmp_tools.specs.Question.{AskWords, HasChosen, HasMeaning, root_text}
use Rattle.snmp_io.specs.Steps.{IsFirstToFail}
use Rattle.snmp_tools.specs.declared.plan.Question.TheVariants as planned
use Rattle.snmp_tools.specs.declared.plan.request.Request.TheVariants as request
use Rattle.smi_tree.specs.{Tree.Contents}

-- ---- what is asked for

-- what the letters of -C choose, as the code stores it
abbrev pub chosen : Choices → letters.Choices
chosen c = record {
  includes_root = c.includes_root;
  leaves_last_get = c.leaves_last_get;
  counts = c.counts;
  repetitions = c.repetitions;
}

abbrev pub request_of : Request → question.Request
request_of (request.Get names) = question.get (texts_at names.now)
request_of (request.Walk bulk letters after name) = question.walk bulk letters.now
    (option_map (λ text. text.now) after) (option_map (λ text. text.now) name)

abbrev pub ask_words : AskJob → AskWords
ask_words job = record { asking = asking_words job.asking.now; request = request_of job.request }

-- `orders` is what the arguments say before names are looked up; the version, the letters, the
-- community and AGENT are accepted
pub record AreOrdersOf (words : AskWords) (orders : Orders) : Type 0 where
  pub version : words.asking.protocol ≡ codes "2c"
  pub letters : AreShown words.asking.letters orders.letters
  pub chosen : HasChosen words.request (chosen orders.choices)
  pub short_community : length words.asking.community ≤ 255
  pub community : orders.community.now ≡ words.asking.community
  pub max_size : orders.max_size ≡ words.asking.max_size
  pub agent : HasAgent words.asking.agent (address_of orders.agent)

-- `why` is that the version isn't 2c or, if it is 2c, that an octet of -O has no meaning
abbrev pub ShowingFails : AskingWords → Fault → Type 0
ShowingFails words why =
    AskingFails words version_step why
    ⊎ (IsAskingDone words version_step × AskingFails words letters_step why)

-- `why` is that the community is too long or, if it isn't, that AGENT isn't a valid address
abbrev pub AgentFails : AskingWords → Fault → Type 0
AgentFails words why =
    AskingFails words community_step why
    ⊎ (IsAskingDone words community_step × AskingFails words agent_step why)

-- `why` is why the names of the request can't be looked up. For a Get, memory ran out, or a name
-- has no meaning (`why` is about the first of these). For a walk, the root has no meaning or, if
-- it has one, the name to continue after has none.
abbrev pub NamesFail : question.Request → Contents → Fault → Type 0
NamesFail (question.get texts) mib why =
    (why ≡ out_of_memory) ⊎ IsFirstToFail texts (HasMeaning mib) (NameFails mib) why
NamesFail (question.walk bulk letters after name) mib why =
    NameFails mib (root_text name) why
    ⊎ (HasMeaning mib (root_text name)
    × ((text : List ℕ) × (after ≡ Some text) × NameFails mib text why))

-- ---- the plan

abbrev pub walk_of : Walk → question.Walk
walk_of w =
    record { root = w.root; after = w.after; mode = w.mode; method = w.method; counts = w.counts }

abbrev pub question_of : Question → question.Question
question_of (planned.Get names) = question.names names.oids.items
question_of (planned.Walk w) = question.subtree (walk_of w)

-- The question stores the texts of the request's names. For a walk without a root's name, the text
-- of the root is that of `mib-2` in numbers. Without a name to continue after, its text is empty.
abbrev pub HasTextsOf : question.Request → Question → Type 0
HasTextsOf (question.get texts) (planned.Get names) = texts_at names.texts.now ≡ texts
HasTextsOf (question.walk bulk letters after name) (planned.Walk w) =
    (w.root_text.now ≡ root_text name) × (w.after_text.now ≡ unwrap_or after [])
HasTextsOf _ _ = ⊥

abbrev pub plan_of : Plan → question.Plan
plan_of p = record {
  agent = address_of p.orders.agent;
  community = p.orders.community.now;
  max_size = p.orders.max_size;
  letters = p.orders.letters;
  question = question_of p.question;
}

-- the arguments of a walk of the table file at `path`, with the root in numbers
abbrev pub numeric_walk : (path root : List ℕ) → WalkWords
numeric_walk path root = words_of_walk path (drop 1 (numeric_text root))

-- The first steps of each job that asks an agent, which judge the version, the letters of -O, the
-- community and AGENT; and how module files, names and agents can fail.
use Rattle.std.specs.Prelude.{◌≡◌, ◌≢◌, ◌<◌, ◌≤◌, ℕ, List, length, Some, None, Option, Ok, Err}
use Rattle.std.specs.Prelude.{codes}
use Rattle.snmp_tools.specs.load.Files.{AreModulesOf, FilesFail, Refusal}
use Rattle.smi_text.specs.declared.trees.tree.Module.{Module}
use Rattle.smi_value.specs.declared.letters.Letters.{Letters}
use Rattle.smi_value.specs.Letters.{AreLetters, first_other}
use Rattle.smi_show.specs.{name.Meant.TextMeans}
use Rattle.smi_show.specs.declared.name.error.NameError.{NameError}
use Rattle.snmp_io.specs.Files.{Holdings, Holds}
use Rattle.snmp_tools.specs.{serve.TableFile.HasTable, serve.TableFile.TableFails}
use Rattle.snmp_agent.specs.table.Table.{MibView}
use Rattle.snmp_net.specs.Address.{Address, IsAgent, table, udp}
use Rattle.snmp_words.specs.Words.{AskingWords}
use Rattle.snmp_tools.specs.FaultText.{Fault, bad_agent, bad_letter, bad_modules, bad_name}
use Rattle.snmp_tools.specs.FaultText.{bad_version, long_community}
use Rattle.smi_tree.specs.{Tree.Contents}

-- ---- arguments, before any file is read

-- all octets of `text`, the argument of -O, are letters with a meaning, and `letters` is what they
-- say: how lines are shown
pub record AreShown (text : List ℕ) (letters : Letters) : Type 0 where
  pub known : first_other text ≡ None
  pub read : AreLetters text letters

-- the argument AGENT says that the agent is at `agent`, and nowhere else
abbrev pub HasAgent : (word : List ℕ) → Address → Type 0
HasAgent word agent =
    IsAgent word agent × ((other : Address) → IsAgent word other → other ≡ agent)

pub data AskingStep : Type 0 where
  version_step : AskingStep
  letters_step : AskingStep
  community_step : AskingStep
  agent_step : AskingStep

-- the step is done: it finds nothing to refuse
abbrev pub IsAskingDone : AskingWords → AskingStep → Type 0
IsAskingDone words version_step = words.protocol ≡ codes "2c"
IsAskingDone words letters_step = (letters : Letters) × AreShown words.letters letters
IsAskingDone words community_step = length words.community ≤ 255
IsAskingDone words agent_step = (agent : Address) × HasAgent words.agent agent

-- the step fails for the reason `why`
abbrev pub AskingFails : AskingWords → AskingStep → Fault → Type 0
AskingFails words version_step why =
    (words.protocol ≢ codes "2c") × (why ≡ bad_version words.protocol)
AskingFails words letters_step why =
    (letter : ℕ) × (first_other words.letters ≡ Some letter) × (why ≡ bad_letter letter)
AskingFails words community_step why = (255 < length words.community) × (why ≡ long_community)
AskingFails words agent_step why =
    ((agent : Address) → IsAgent words.agent agent → ⊥) × (why ≡ bad_agent words.agent)

-- ---- module files, names and agents

-- `why` is the reason of the first module file that fails (`FilesFail`), and it isn't known that
-- all the files hold modules
abbrev pub MibsFail : Holdings → (paths : List (List ℕ)) → Fault → Type 0
MibsFail files paths why =
    (refusal : Refusal) × FilesFail files paths refusal × (why ≡ bad_modules refusal)
    × ((modules : List Module) → AreModulesOf (Holds files) paths modules → ⊥)

-- the name `text` doesn't mean an identifier, as `why` says
abbrev pub NameFails : Contents → List ℕ → Fault → Type 0
NameFails tree text why =
    (error : NameError) × TextMeans tree text (Err error) × (why ≡ bad_name error text)

-- `name` is the identifier that the text means in `mib`; without a text, `name` is None
abbrev pub IsOptionalName : Contents → Option (List ℕ) → Option (List ℕ) → Type 0
IsOptionalName mib None name = name ≡ None
IsOptionalName mib (Some text) name =
    (o : List ℕ) × TextMeans mib text (Ok o) × (name ≡ Some o)

-- The agent at this address can be reached. A table file must define a table, as far as it is
-- known what the file holds. Of an address on the network, nothing is required.
abbrev pub IsReached : Holdings → Contents → Address → Type 0
IsReached files mib (table path) = (view : MibView) × HasTable files mib path view
IsReached files mib (udp host port) = Unit {0}

-- the agent's table file fails for the reason `why` (`TableFails`); an address on the network has
-- no table file, and never fails
abbrev pub ReachFails : Holdings → Contents → Address → Fault → Type 0
ReachFails files mib (table path) why = TableFails files mib path why
ReachFails files mib (udp host port) why = ⊥

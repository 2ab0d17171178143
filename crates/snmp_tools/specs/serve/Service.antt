-- What the arguments of snmpd ask for, and why they can be refused.
use Rattle.std.specs.Prelude.{◌≡◌, ◌<◌, ◌≤◌, ◌⊎◌, ℕ, List, [], ◌∷◌, length}
use Rattle.smi_text.specs.declared.trees.tree.Module.{Module}
use Rattle.snmp_agent.specs.{Reply.Agent, table.Table.MibView}
use Rattle.snmp_io.specs.{Files.Holdings, Files.MayHold, Steps.IsFirstToFail}
use Rattle.snmp_net.specs.Address.{IsHostAndPort}
use Rattle.snmp_words.specs.Words.{ServeWords}
use Rattle.snmp_tools.specs.{Asking.MibsFail, load.Files.AreModulesOf}
use Rattle.snmp_tools.specs.FaultText.{Fault, bad_agent, long_community, out_of_memory}

-- the agent that the arguments ask for, with the table `view`
abbrev pub served_agent : ServeWords → MibView → Agent
served_agent words view =
    record { view = view; community = words.community; max_size = words.max_size }

-- the community has at most 255 octets, and the argument of --listen names `port` of `host`
pub record IsPlaced (words : ServeWords) : Type 0 where
  pub short_community : length words.community ≤ 255
  pub host : List ℕ
  pub port : ℕ
  pub address : IsHostAndPort words.listen host port

-- ---- why the arguments are refused

-- the steps before the table file is read, in order
pub data ServeStep : Type 0 where
  community_step : ServeStep
  address_step : ServeStep
  modules_step : ServeStep

-- the step is done: it finds nothing to refuse
abbrev pub IsDoneForService : ServeWords → Holdings → ServeStep → Type 0
IsDoneForService words files community_step = length words.community ≤ 255
IsDoneForService words files address_step =
    (host : List ℕ) × (port : ℕ) × IsHostAndPort words.listen host port
IsDoneForService words files modules_step =
    (modules : List Module) × AreModulesOf (MayHold files) words.mibs modules

-- the step fails for the reason `why`
abbrev pub FailsForService : ServeWords → Holdings → ServeStep → Fault → Type 0
FailsForService words files community_step why =
    (255 < length words.community) × (why ≡ long_community)
FailsForService words files address_step why =
    ((host : List ℕ) (port : ℕ) → IsHostAndPort words.listen host port → ⊥)
    × (why ≡ bad_agent words.listen)
FailsForService words files modules_step why = MibsFail files words.mibs why

-- `why` is the reason of the first step that fails; the steps before it are done
abbrev pub ServiceFails : ServeWords → Holdings → Fault → Type 0
ServiceFails words files why =
    IsFirstToFail (community_step ∷ address_step ∷ modules_step ∷ []) (IsDoneForService words files)
    (FailsForService words files) why

-- `why` is why no table file is read: memory ran out, or an earlier step failed (`ServiceFails`)
abbrev pub IsServeRefusal : ServeWords → Holdings → Fault → Type 0
IsServeRefusal words files why = (why ≡ out_of_memory) ⊎ ServiceFails words files why

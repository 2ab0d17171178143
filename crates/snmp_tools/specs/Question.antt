-- What the arguments of a job that asks an agent ask for, and why they can be refused.
use Rattle.std.specs.Prelude.{◌≡◌, ◌≤◌, ◌⊎◌, ◌++◌, ℕ, Bool, false, List, [], ◌∷◌, length, map}
use Rattle.std.specs.Prelude.{Option, Some, None, Ok, codes, unwrap_or}
use Rattle.std.specs.List.{AllZip}
use Rattle.smi_value.specs.declared.letters.Letters.{Letters}
use Rattle.smi_show.specs.name.Meant.{TextMeans}
use Rattle.snmp_oid.specs.Identifier.{IsWire, wire}
use Rattle.snmp_walk.specs.Ordered.{IsAtOrBelow, IsUnsendable}
use Rattle.snmp_walk.specs.{declared.mode.Method.Method, declared.mode.Mode.Mode}
use Rattle.snmp_words.specs.Words.{AskingWords, GetWords, WalkWords}
use Rattle.snmp_net.specs.Address.{Address, IsAgent}
use Rattle.snmp_tools.specs.Asking.{AreShown, AskingFails, AskingStep, HasAgent, IsAskingDone}
use Rattle.snmp_tools.specs.Asking.{IsOptionalName, IsReached, MibsFail, NameFails, ReachFails}
use Rattle.snmp_tools.specs.Asking.{agent_step, community_step, letters_step, version_step}
use Rattle.snmp_tools.specs.Letters.{Choices, HaveChosen, IsFirstUnknown, method_of, mode_of}
use Rattle.snmp_tools.specs.Letters.{no_choices}
use Rattle.snmp_tools.specs.FaultText.{Fault, bad_letter, out_of_memory, outside_root, unsendable}
use Rattle.snmp_io.specs.{Files.Holdings, Files.MayHold, Steps.AreDone, Steps.IsFirstToFail}
use Rattle.snmp_tools.specs.load.Loaded.{IsMibOf}
use Rattle.smi_tree.specs.{Tree.Contents}

-- ---- the arguments

-- what to ask an agent for: the instances of names, or a walk
pub data Request : Type 0 where
  get : (texts : List (List ℕ)) → Request
  -- `bulk`: whether to ask with GetBulk; `letters`: the letters of -C; `after`: the name to
  -- continue after; `name`: the root's name
  walk : (bulk : Bool) → (letters : List ℕ) → (after name : Option (List ℕ)) → Request

-- the arguments of a job that asks an agent
pub record AskWords : Type 0 where
  pub asking : AskingWords
  pub request : Request

abbrev pub of_get : GetWords → AskWords
of_get words = record { asking = words.asking; request = get words.names }

-- the arguments `words` of snmpbulkwalk (`bulk`) or snmpwalk, as those of a job that asks an agent
abbrev pub of_walk : (bulk : Bool) → WalkWords → AskWords
of_walk bulk words =
    record { asking = words.asking; request = walk bulk words.letters words.after words.name }

-- the root's name, or mib-2 (RFC 1213) if none is given
abbrev pub root_text : Option (List ℕ) → List ℕ
root_text name = unwrap_or name (codes "1.3.6.1.2.1")

-- the letters of -C choose `choices`, which for a Get are the defaults
abbrev pub HasChosen : Request → Choices → Type 0
HasChosen (get texts) choices = choices ≡ no_choices
HasChosen (walk bulk letters after name) choices = HaveChosen bulk letters choices

-- `octet` is the first octet without a meaning in the letters of -C; a Get has no such letters
abbrev pub HasUnknown : Request → (octet : ℕ) → Type 0
HasUnknown (get texts) octet = ⊥
HasUnknown (walk bulk letters after name) octet = IsFirstUnknown bulk letters octet

-- ---- what is asked for

-- a walk
pub record Walk : Type 0 where
  pub root : List ℕ
  -- the name to continue after, if one is given
  pub after : Option (List ℕ)
  pub mode : Mode
  pub method : Method
  -- whether the number of bindings is printed after their lines
  pub counts : Bool

-- a Get of these names, or a walk
pub data Question : Type 0 where
  names : List (List ℕ) → Question
  subtree : Walk → Question

-- a question, the agent to ask, and how the answer is shown
pub record Plan : Type 0 where
  pub agent : Address
  pub community : List ℕ
  pub max_size : ℕ
  -- how its lines are shown
  pub letters : Letters
  pub question : Question

abbrev pub counts_in : Question → Bool
counts_in (names os) = false
counts_in (subtree w) = w.counts

-- each of the names `texts` means an identifier in `mib`, and `os` are these identifiers, in order
abbrev pub AreNames : Contents → (texts os : List (List ℕ)) → Type 0
AreNames mib texts os = AllZip (λ text o. TextMeans mib text (Ok o)) texts os

-- The arguments of snmpbulkwalk (`bulk`) or snmpwalk ask for the walk `w`. `choices` are what the
-- letters of -C choose. The root's name `name` and the name `after` to continue after are looked
-- up in `mib`.
pub record IsWalkOf (bulk : Bool) (choices : Choices) (after name : Option (List ℕ))
    (mib : Contents) (w : Walk) : Type 0 where
  pub mode : w.mode ≡ mode_of choices
  pub method : w.method ≡ method_of bulk choices
  pub counts : w.counts ≡ choices.counts
  pub root : TextMeans mib (root_text name) (Ok w.root)
  pub goes_on : IsOptionalName mib after w.after

-- the request, with these choices of -C, asks this question; its names are looked up in the tree
abbrev pub IsQuestionOf : Request → Choices → Contents → Question → Type 0
IsQuestionOf (get texts) choices mib (names os) = AreNames mib texts os
IsQuestionOf (walk bulk letters after name) choices mib (subtree w) =
    IsWalkOf bulk choices after name mib w
IsQuestionOf request choices mib _ = ⊥

-- the arguments ask for `plan`, with names looked up in `mib`
pub record AskFor (words : AskWords) (mib : Contents) (plan : Plan) : Type 0 where
  pub version : words.asking.protocol ≡ codes "2c"
  pub letters : AreShown words.asking.letters plan.letters
  pub choices : Choices
  pub chosen : HasChosen words.request choices
  pub short_community : length words.asking.community ≤ 255
  pub community : plan.community ≡ words.asking.community
  pub max_size : plan.max_size ≡ words.asking.max_size
  pub agent : IsAgent words.asking.agent plan.agent
  pub question : IsQuestionOf words.request choices mib plan.question

-- The arguments ask for `plan`, with names looked up in `mib`, and AGENT means no other address. As
-- far as it is known what the files hold, `mib` can be the tree of the job's module files.
pub record IsPlanFor (words : AskWords) (files : Holdings) (mib : Contents) (plan : Plan) : Type 0
  where
    pub known : IsMibOf (MayHold files) words.asking mib
    pub asked : AskFor words mib plan
    pub only : HasAgent words.asking.agent plan.agent

-- ---- why the arguments are refused

-- the steps up to loading the modules
pub data LoadingStep : Type 0 where
  asking : AskingStep → LoadingStep
  choices_step : LoadingStep
  mibs_step : LoadingStep

-- the steps up to loading the modules, in order
abbrev pub loading_steps : List LoadingStep
loading_steps = asking version_step ∷ asking letters_step ∷ choices_step ∷ asking community_step
    ∷ asking agent_step ∷ mibs_step ∷ []

-- the later steps, before the first request is sent: to look up a name, to reach the agent, to test
-- that a name can be sent, and to test that the name to continue after is the root or below it
pub data LaterStep : Type 0 where
  name_step : (text : List ℕ) → LaterStep
  reach_step : LaterStep
  sent_step : (text : List ℕ) → LaterStep
  below_step : (root_text text : List ℕ) → LaterStep

-- `steps` applied to the name to continue after; no steps without such a name
abbrev pub goes_on_after : {T : Type 0} → (List ℕ → List T) → Option (List ℕ) → List T
goes_on_after {T} steps None = []
goes_on_after {T} steps (Some text) = steps text

-- the steps that look up names
abbrev pub name_steps : Request → List LaterStep
name_steps (get texts) = map name_step texts
name_steps (walk bulk letters after name) =
    name_step (root_text name) ∷ goes_on_after (λ text. name_step text ∷ []) after

-- the later steps up to reaching the agent
abbrev pub reaching_steps : Request → List LaterStep
reaching_steps request = name_steps request ++ (reach_step ∷ [])

-- the last steps, which test the names
abbrev pub sent_steps : Request → List LaterStep
sent_steps (get texts) = map sent_step texts
sent_steps (walk bulk letters after name) = sent_step (root_text name)
    ∷ goes_on_after (λ text. below_step (root_text name) text ∷ sent_step text ∷ []) after

-- the name `text` means an identifier
abbrev pub HasMeaning : Contents → (text : List ℕ) → Type 0
HasMeaning mib text = (name : List ℕ) × TextMeans mib text (Ok name)

-- the name `text` means an identifier that can be sent
abbrev pub HasSendable : Contents → (text : List ℕ) → Type 0
HasSendable mib text =
    (name : List ℕ) × TextMeans mib text (Ok name) × IsWire (wire name)

-- the name `text` means an identifier that can't be sent, as `why` says
abbrev pub HasUnsendable : Contents → (text : List ℕ) → Fault → Type 0
HasUnsendable mib text why = (name : List ℕ) × TextMeans mib text (Ok name)
    × IsUnsendable name × (why ≡ unsendable text)

-- `Is root after` holds of the identifiers that the names `root_text` and `text` mean
abbrev pub HaveNames : Contents → (root_text text : List ℕ) → (List ℕ → List ℕ → Type 0) → Type 0
HaveNames mib root_text text Is =
    (root : List ℕ) × (after : List ℕ) × TextMeans mib root_text (Ok root)
    × TextMeans mib text (Ok after) × Is root after

-- `Is agent` holds of the address `agent` that the argument AGENT says
abbrev pub OfAgent : AskWords → (Address → Type 0) → Type 0
OfAgent words Is = (agent : Address) × HasAgent words.asking.agent agent × Is agent

-- a step up to loading the modules is done: it finds nothing to refuse
abbrev pub IsDoneFor : AskWords → Holdings → LoadingStep → Type 0
IsDoneFor words files (asking step) = IsAskingDone words.asking step
IsDoneFor words files choices_step =
    (choices : Choices) × HasChosen words.request choices
IsDoneFor words files mibs_step = (mib : Contents) × IsMibOf (MayHold files) words.asking mib

-- a step up to loading the modules fails for the reason `why`
abbrev pub FailsFor : AskWords → Holdings → LoadingStep → Fault → Type 0
FailsFor words files (asking step) why = AskingFails words.asking step why
FailsFor words files choices_step why =
    (letter : ℕ) × HasUnknown words.request letter × (why ≡ bad_letter letter)
FailsFor words files mibs_step why = MibsFail files words.asking.mibs why

-- a later step is done, with names looked up in `mib`
abbrev pub IsDoneBy : AskWords → Holdings → Contents → LaterStep → Type 0
IsDoneBy words files mib (name_step text) = HasMeaning mib text
IsDoneBy words files mib reach_step = OfAgent words (IsReached files mib)
IsDoneBy words files mib (sent_step text) = HasSendable mib text
IsDoneBy words files mib (below_step root_text text) =
    HaveNames mib root_text text (λ root after. IsAtOrBelow after root)

-- a later step fails for the reason `why`, with names looked up in `mib`
abbrev pub FailsBy : AskWords → Holdings → Contents → LaterStep → Fault → Type 0
FailsBy words files mib (name_step text) why = NameFails mib text why
FailsBy words files mib reach_step why = OfAgent words (λ agent. ReachFails files mib agent why)
FailsBy words files mib (sent_step text) why = HasUnsendable mib text why
FailsBy words files mib (below_step root_text text) why =
    HaveNames mib root_text text
    (λ root after. (IsAtOrBelow after root → ⊥) × (why ≡ outside_root text))

-- `why` is why no modules were loaded: memory ran out, or a step up to loading them failed
abbrev pub IsEarlyRefusal : AskWords → Holdings → Fault → Type 0
IsEarlyRefusal words files why =
    (why ≡ out_of_memory)
    ⊎ IsFirstToFail loading_steps (IsDoneFor words files) (FailsFor words files) why

-- `why` is why no agent is reached after the modules were loaded: memory ran out, or a later step
-- up to reaching the agent failed
pub record IsLateRefusal (words : AskWords) (files : Holdings) (mib : Contents) (why : Fault)
    : Type 0 where
  pub loaded : AreDone (IsDoneFor words files) loading_steps
  pub fails : (why ≡ out_of_memory)
      ⊎ IsFirstToFail (reaching_steps words.request) (IsDoneBy words files mib)
      (FailsBy words files mib) why

-- `why` is why the agent that was reached isn't asked: one of the last steps, which test the
-- names, failed
pub record IsLastRefusal (words : AskWords) (files : Holdings) (mib : Contents) (why : Fault)
    : Type 0 where
  pub loaded : AreDone (IsDoneFor words files) loading_steps
  pub named : AreDone (IsDoneBy words files mib) (name_steps words.request)
  pub reached : IsDoneBy words files mib reach_step
  pub fails : IsFirstToFail (sent_steps words.request) (IsDoneBy words files mib)
      (FailsBy words files mib) why

-- What a job that asks an agent writes, and what it reports.
use Rattle.std.specs.Prelude.{◌≡◌, ◌⊎◌, ◌+◌, ◌++◌, ℕ, Bool, true, false, List, codes, Option}
use Rattle.std.specs.Prelude.{Some, None}
use Rattle.snmp_tools.specs.{load.Loaded.LoadFacts, load.Warned.warning_lines}
use Rattle.snmp_tools.specs.{serve.TableFile.HasTable, load.Loaded.AreLoaded, Seen.Seen}
use Rattle.smi_names.specs.declared.nodes.warning.Warning.{Warning}
use Rattle.snmp_agent.specs.table.Table.{MibView}
use Rattle.snmp_wire.specs.Message.{VarBind}
use Rattle.snmp_walk.specs.{declared.end.WalkEnd.WalkEnd, declared.link.Link.Ghosts as LinkFacts}
use Rattle.snmp_walk.specs.declared.end.WalkEnd.TheVariants as ending
use Rattle.snmp_io.specs.{Count.HasIncreased, Output.IsWritten, Output.Stream, Files.MayHold}
use Rattle.snmp_tools.specs.Lines.{IsPrintedUpTo, IsTextPrinted, count_line}
use Rattle.snmp_tools.specs.FaultText.{Fault, ended, fault_message, status_of}
use Rattle.snmp_net.specs.{Address.table, Address.udp, declared.links.Links.Ghosts as Network}
use Rattle.snmp_tools.specs.Answer.{CanBeSent, HasFacts, IsAsked}
use Rattle.snmp_tools.specs.Question.{AskWords, IsEarlyRefusal, IsLastRefusal, IsLateRefusal}
use Rattle.snmp_tools.specs.Question.{IsPlanFor, Plan, counts_in}
use Rattle.smi_tree.specs.{Tree.Contents}

-- ---- what is written

-- What follows the lines of a run. If the run is done and -Cp is asked for (`counts`), the line of
-- -Cp is printed, or printing it fails. Otherwise nothing follows; if the run ended early, its end
-- is the fault.
abbrev pub IsFinished : (agent : List ℕ) → WalkEnd → (counts : Bool) → (before after : Stream)
    → Option Fault → Type 0
IsFinished agent (ending.Done count) true before after fault =
    IsTextPrinted before (count_line count) after fault
IsFinished agent (ending.Done count) false before after fault = (after ≡ before) × (fault ≡ None)
IsFinished agent end counts before after fault =
    (after ≡ before) × (fault ≡ Some (ended agent end))

-- The bindings of a run were printed; `fault` is why the run or the printing ended early, if so.
-- `Facts` holds of the bindings that the sink took, of the one that it refused, if any, and of the
-- end.
pub record IsShown (Facts : (given refused : List VarBind) → WalkEnd → Type 0) (mib : Contents)
    (plan : Plan) (agent : List ℕ) (before after : Stream) (fault : Option Fault) : Type 0 where
  pub given : List VarBind
  pub refused : List VarBind
  pub end : WalkEnd
  pub between : Stream
  pub facts : Facts given refused end
  pub lines : IsPrintedUpTo mib plan.letters before given refused end between
  pub finish : IsFinished agent end (counts_in plan.question) between after fault

-- One link was opened to `port` of `host`, and closed. `link` is its state when it was opened, and
-- `last` when it was closed. Nothing else changed the network in between.
pub record IsLinked {N V D : Type 0} (net : Network N V D) (host : List ℕ) (port seconds : ℕ)
    (before : N) (link last : V) (after : N) : Type 0 where
  pub between : N
  pub opened : net.opens before host port seconds link between
  pub closed : net.closes between last after

-- One link was opened and closed as it was: nothing was sent or received over it. The network
-- counted no fault, and nothing else changed.
pub record HasOpened {N V D : Type 0} (net : Network N V D) (host : List ℕ) (port seconds : ℕ)
    (before after : Seen N) : Type 0 where
  pub link : V
  pub unused : IsLinked net host port seconds before.links link link after.links
  pub count : net.fault_count after.links ≡ net.fault_count before.links
  pub unchanged : after ≡ record before { links = after.links }

-- The question of the plan was asked over a link, which was opened for it and closed as the run
-- left it, and the bindings were printed.
abbrev pub IsShownOver : {N V D : Type 0} → Network N V D → LinkFacts V → AskWords → Contents
    → Plan → (host : List ℕ) → (port : ℕ) → (before after : Seen N) → Option Fault → Type 0
IsShownOver {N} {V} {D} net wire words mib plan host port before after fault = IsShown
    (HasFacts
    (λ link last. IsLinked net host port words.asking.seconds before.links link last after.links)
    wire (words.asking.retries + 1) plan) mib plan words.asking.agent before.out after.out fault

-- What a job wrote, with names and types looked up in `mib`, and why not all of the job was done,
-- if so. If the job was refused before it opened a link, or its agent serves a table file in
-- memory, the network stays as it was.
pub data IsOutcomeBy {N V D : Type 0} (net : Network N V D) (wire : LinkFacts V) (words : AskWords)
    (mib : Contents) (before after : Seen N) (fault : Option Fault) : Type 0 where
  refused : (why : Fault) → IsLateRefusal words before.files mib why → after ≡ before
      → fault ≡ Some why → IsOutcomeBy net wire words mib before after fault
  -- the table was read, or a link was opened, and then the question was refused
  not_begun : (why : Fault) → IsLastRefusal words before.files mib why → (plan : Plan)
      → IsPlanFor words before.files mib plan
      → ((path : List ℕ) × (plan.agent ≡ table path) × (after ≡ before))
      ⊎ ((host : List ℕ) × (port : ℕ) × (plan.agent ≡ udp host port)
      × HasOpened net host port words.asking.seconds before after)
      → fault ≡ Some why → IsOutcomeBy net wire words mib before after fault
  asked : (plan : Plan) (path : List ℕ) (view : MibView) → IsPlanFor words before.files mib plan
      → plan.agent ≡ table path → HasTable before.files mib path view
      → CanBeSent plan.question
      → IsShown (IsAsked plan plan.question view) mib plan words.asking.agent before.out after.out
      fault
      → after ≡ record before { out = after.out }
      → IsOutcomeBy net wire words mib before after fault
  -- a call of the network failed, which the network counted, and nothing was printed
  not_linked : (plan : Plan) (host : List ℕ) (port : ℕ) → IsPlanFor words before.files mib plan
      → plan.agent ≡ udp host port → net.fails before.links after.links
      → HasIncreased (net.fault_count before.links) (net.fault_count after.links)
      → after.out ≡ before.out → fault ≡ Some (ended words.asking.agent ending.Link)
      → IsOutcomeBy net wire words mib before after fault
  -- one link was opened, asked over, and closed as the run left it
  asked_over : (plan : Plan) (host : List ℕ) (port : ℕ) → IsPlanFor words before.files mib plan
      → plan.agent ≡ udp host port → CanBeSent plan.question
      → IsShownOver net wire words mib plan host port before after fault
      → net.fault_count after.links ≡ net.fault_count before.links
      → IsOutcomeBy net wire words mib before after fault

-- What a job wrote on its output, and which warnings about its modules it wrote on standard error.
-- If it was refused before the modules were loaded, it wrote nothing. Otherwise it first wrote the
-- lines of the warnings, or a prefix of them if standard error failed, and then continued with
-- these modules.
pub data IsOutcome {N V D : Type 0} (net : Network N V D) (wire : LinkFacts V) (Loads : LoadFacts)
    (words : AskWords) (before after : Seen N) (fault : Option Fault) : Type 0 where
  not_loaded : (why : Fault) → IsEarlyRefusal words before.files why → after ≡ before
      → fault ≡ Some why → IsOutcome net wire Loads words before after fault
  loaded : (mib : Contents) (warnings : List Warning)
      → AreLoaded (MayHold before.files) words.asking.mibs mib warnings
      → Loads words.asking.mibs before.err after.err
      → IsWritten before.err (warning_lines warnings) after.err
      → IsOutcomeBy net wire words mib (record before { err = after.err }) after fault
      → IsOutcome net wire Loads words before after fault

-- ---- what is reported

-- Without a fault, the status is 0 and nothing is reported. Otherwise the fault determines the
-- status, and its line, or the line `Out of memory.`, is written to standard error. If standard
-- error fails, it takes a prefix of that line.
abbrev pub IsReported : Option Fault → Stream → Stream → ℕ → Type 0
IsReported None before after status = (status ≡ 0) × (after ≡ before)
IsReported (Some why) before after status =
    (status ≡ status_of why)
    × (IsWritten before (fault_message why ++ codes "\n") after
    ⊎ IsWritten before (codes "Out of memory.\n") after)

-- how a job that asks an agent ended, and what it reported
pub record IsRun {N V D : Type 0} (net : Network N V D) (wire : LinkFacts V) (Loads : LoadFacts)
    (words : AskWords) (before after : Seen N) (status : ℕ) : Type 0 where
  pub fault : Option Fault
  -- standard error with the warnings, before anything is reported
  pub warned : Stream
  pub outcome : IsOutcome net wire Loads words before (record after { err = warned }) fault
  pub reported : IsReported fault warned after.err status

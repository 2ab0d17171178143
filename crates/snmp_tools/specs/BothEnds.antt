-- What a walk or a Get prints of a table file that `snmpd` serves: the arguments of both, what
-- happened at the two ends of the network between them, and the lines, on one page.
--
-- `tool` promises `IsAskDone` of the arguments that ask, and `IsServeRun` of the arguments of
-- snmpd (both in `Done`). From both follows `PrintsServed`. `Headline` defines which lines are
-- printed, and the premise about the network is `IsFaithful` (snmp_walk).
use Rattle.std.specs.Prelude.{◌≡◌, ◌≢◌, ◌≤◌, ◌⊎◌, ◌+◌, ℕ, false, List, [], length, codes, Option}
use Rattle.std.specs.Prelude.{Some, None}
use Rattle.std.specs.{List.flat_map, Str.Lines.lines}
use Rattle.smi_names.specs.declared.nodes.warning.Warning.{Warning}
use Rattle.snmp_agent.specs.{Event.Event, Event.InTurn, Reply.Agent, Serving.AreTurns}
use Rattle.snmp_agent.specs.{table.Format.Names, table.Stated.IsTableOf, table.Table.MibView}
use Rattle.snmp_agent.specs.declared.server.Served.{Served}
use Rattle.snmp_io.specs.Files.{Holdings, Holds}
use Rattle.snmp_io.specs.Output.{Stream, TakesPrefix, stream_after}
use Rattle.snmp_net.specs.{Address.IsAgent, Address.udp, declared.links.Links.Ghosts as Network}
use Rattle.snmp_oid.specs.Numeric.{numeric_text}
use Rattle.snmp_walk.specs.Network.{Happening, IsFaithful, of_agents, of_walk}
use Rattle.snmp_walk.specs.{Tries.Happens, declared.end.WalkEnd.WalkEnd}
use Rattle.snmp_walk.specs.declared.link.Link.{Ghosts as LinkFacts}
use Rattle.snmp_wire.specs.Message.{VarBind}
use Rattle.snmp_words.specs.Words.{ServeWords, StateJob, WalkWords, snmpd}
use Rattle.snmp_tools.specs.serve.ServeResult.{counts_line, listening_line}
use Rattle.snmp_tools.specs.serve.Service.{IsPlaced, served_agent}
use Rattle.snmp_tools.specs.{serve.TableFile.AreNamesIn, Lines.IsTextPrinted, FaultText.Fault}
use Rattle.snmp_tools.specs.{load.Loaded.AreLoaded, AskResult.IsLinked, AskResult.IsReported}
use Rattle.snmp_tools.specs.{AskResult.IsShownOver}
use Rattle.snmp_tools.specs.{RowText.row_line, Seen.Seen, TableWalk.AreWalked}
use Rattle.snmp_tools.specs.Answer.{AreRowsOf, IsAskedOver}
use Rattle.snmp_tools.specs.Headline.{IsPrefixWritten, IsWholeWritten}
use Rattle.snmp_tools.specs.Question.{AskFor, AskWords, Plan, Question, names, of_walk as asking_of}
use Rattle.snmp_tools.specs.Question.{subtree}
use Rattle.smi_tree.specs.{Tree.Contents}

-- ---- what is asked, and about which table

-- The arguments `words` ask an agent over the network. `serving` is what the arguments of snmpd
-- say, and its table file is known to define a table. `rows` is the answer to the question from
-- that table (`AreRowsOf`). Nothing says that the agent is the one at the address of snmpd, or
-- that both have the same community: an agent of another community drops what is asked.
pub record IsAskOfServer (words : AskWords) (files : Holdings) (serving : ServeWords)
    (server_files : Holdings) (rows : List VarBind) : Type 0 where
  pub mib : Contents
  pub warnings : List Warning
  pub known : AreLoaded (Holds files) words.asking.mibs mib warnings
  pub plan : Plan
  pub asked : AskFor words mib plan
  pub host : List ℕ
  pub port : ℕ
  pub over : plan.agent ≡ udp host port
  pub line : List (List ℕ)
  pub stated : StateJob line (snmpd serving)
  pub nodes : Contents
  pub node_warnings : List Warning
  pub nodes_known : AreLoaded (Holds server_files) serving.mibs nodes node_warnings
  pub text : List ℕ
  pub held : Holds server_files serving.table text
  pub view : MibView
  pub names : Names
  pub named : AreNamesIn nodes names
  pub table : IsTableOf names (lines text) view
  pub are_rows : AreRowsOf plan.question view rows

-- ---- what happened at the two ends

-- what happened over the link in a run that asks a question
abbrev pub events_of : {W : Type 0} → (facts : LinkFacts W) → (link later : W) → (tries : ℕ)
    → (plan : Plan) → (question : Question) → (given refused : List VarBind) → (end : WalkEnd)
    → IsAskedOver facts link later tries plan question given refused end → List (Event (Unit {0}))
events_of {W} facts link later tries plan (names os) given refused end run = run.happened.events
events_of {W} facts link later tries plan (subtree w) given refused end run = run.happened.events

-- What happened at the end that asks. `asked`: a link was opened, the question was asked over it,
-- the link was closed as the run left it, and the bindings of the run were printed. `events`
-- happened in the run, one after the other, as the link says. `not_linked`, `not_asked`: nothing
-- happened, since no link was opened, or one was opened and closed as it was because the question
-- was refused. Then nothing is printed, and the status isn't 0.
pub data IsAtAsker {N V D : Type 0} (net : Network N V D) (wire : LinkFacts V) (words : AskWords)
    (mib : Contents) (plan : Plan) (before after : Seen N) (status : ℕ)
    (events : List (Event (Unit {0}))) : Type 0 where
  not_linked : events ≡ []
      → (after.links ≡ before.links) ⊎ net.fails before.links after.links
      → after.out ≡ before.out → status ≢ 0
      → IsAtAsker net wire words mib plan before after status events
  not_asked : events ≡ [] → (host : List ℕ) (port : ℕ) → plan.agent ≡ udp host port → (link : V)
      → IsLinked net host port words.asking.seconds before.links link link after.links
      → after.out ≡ before.out → status ≢ 0
      → IsAtAsker net wire words mib plan before after status events
  asked : (host : List ℕ) (port : ℕ) (fault : Option Fault) (warned : Stream)
      → plan.agent ≡ udp host port
      → (shown : IsShownOver net wire words mib plan host port before after fault)
      → IsReported fault warned after.err status
      → events ≡ events_of wire shown.facts.link shown.facts.after (words.asking.retries + 1) plan
      plan.question shown.given shown.refused shown.end shown.facts.run
      → InTurn (Happens wire) shown.facts.link events shown.facts.after
      → IsAtAsker net wire words mib plan before after status events

-- `events` are `turns` turns of the agent, with the counts `served`. One after the other, as
-- `happens` says, they took the door's endpoint from its state at `door` to its state at `later`.
abbrev pub AreTurnsAt : {D P E : Type 0} → (endpoint_at : D → E)
    → (happens : E → Event P → E → Type 0) → (door : D) → Agent → (turns : ℕ) → Served
    → (later : D) → (events : List (Event P)) → Type 0
AreTurnsAt {D} {P} {E} endpoint_at happens door agent turns served later events =
    AreTurns agent turns served events
    × InTurn happens (endpoint_at door) events (endpoint_at later)

-- Whenever the network served an agent at a door (server socket), it did so turn by turn. In each
-- turn a datagram arrived and was replied to or dropped, or none arrived, or a receive or a send
-- failed.
abbrev pub ServesInTurn : {N V D P E : Type 0} → Network N V D → (endpoint_at : D → E)
    → (happens : E → Event P → E → Type 0) → Type 0
ServesInTurn {N} {V} {D} {P} {E} net endpoint_at happens =
    (before : N) (door : D) (agent : Agent) (turns : ℕ) (served : Served) (after : N) (later : D)
    → net.serves before door agent turns served after later
    → (events : List (Event P))
    × AreTurnsAt endpoint_at happens door agent turns served later events

-- What happened at the end of snmpd. `served`: a door was opened, and all turns of its agent were
-- served there, as the network says. `events` are these turns. After the line that says where
-- requests are received, the line of the counts was printed, or a prefix of it. `unserved`:
-- nothing happened, since nothing was served. Then at most the first line is printed, or a prefix
-- of it, and the status isn't 0.
pub data IsAtServer {N V D P E : Type 0} (net : Network N V D) (endpoint_at : D → E)
    (happens : E → Event P → E → Type 0) (words : ServeWords) (view : MibView)
    (before after : Seen N) (status : ℕ) (events : List (Event P)) : Type 0 where
  unserved : events ≡ [] → TakesPrefix before.out (listening_line words.listen) after.out
      → status ≢ 0
      → IsAtServer net endpoint_at happens words view before after status events
  served : (at : IsPlaced words) (door later : D) (opened : N) (counts : Served)
      (fault : Option Fault) (warned : Stream)
      → net.binds before.links at.host at.port door opened
      → net.serves opened door (served_agent words view) words.turns counts after.links later
      → AreTurnsAt endpoint_at happens door (served_agent words view) words.turns counts later
      events
      → IsTextPrinted (stream_after before.out (listening_line words.listen)) (counts_line counts)
      after.out fault
      → IsReported fault warned after.err status
      → IsAtServer net endpoint_at happens words view before after status events

-- `asked` and `served` are what happened at the two ends of one run of a network that neither
-- invents nor alters datagrams. It may lose, repeat, delay and reorder them.
pub record AreEndsOfOneRun {P : Type 0} (asked : List (Event (Unit {0}))) (served : List (Event P))
    : Type 0 where
  pub walker : P
  pub run : List (Happening P)
  pub at_walk : of_walk run ≡ asked
  pub at_agents : of_agents run ≡ served
  pub faithful : IsFaithful walker run

-- ---- what is printed

-- What happened at both ends, and what is written of the rows if these are the ends of one
-- faithful run of the network between them.
pub record PrintsServed {N V C M W D P E : Type 0} (net : Network N V C) (wire : LinkFacts V)
    (server : Network M W D) (endpoint_at : D → E) (happens : E → Event P → E → Type 0)
    (words : AskWords) (before after : Seen N) (status : ℕ)
    (serving : ServeWords) (server_before server_after : Seen M) (server_status : ℕ)
    (rows : List VarBind) (ask : IsAskOfServer words before.files serving server_before.files rows)
    : Type 0 where
  pub asked : List (Event (Unit {0}))
  pub at_asker : IsAtAsker net wire words ask.mib ask.plan before after status asked
  pub served : List (Event P)
  pub at_server : IsAtServer server endpoint_at happens serving ask.view server_before server_after
      server_status served
  -- Whatever fails, a prefix of the lines of the first rows is written, or of the whole text, and
  -- nothing else.
  pub prefix_written : AreEndsOfOneRun asked served
      → IsPrefixWritten ask.mib ask.plan rows before.out after.out
  -- At status 0 the whole text is written.
  pub all_written_at_status_0 : AreEndsOfOneRun asked served → status ≡ 0
      → IsWholeWritten ask.mib ask.plan rows before.out after.out

-- ---- a walk in numbers

-- The arguments of `snmpwalk -On AGENT ROOT`, without module files, if the agent is reached over
-- the network and the root is in numbers. The community has at most 255 octets. The greatest size,
-- the retries and the seconds can be any.
pub record IsWalkInNumbers (words : WalkWords) (root : List ℕ) : Type 0 where
  pub no_modules : words.asking.mibs ≡ []
  pub numeric : words.asking.letters ≡ codes "n"
  pub version : words.asking.protocol ≡ codes "2c"
  pub short_community : length words.asking.community ≤ 255
  pub host : List ℕ
  pub port : ℕ
  pub agent : IsAgent words.asking.agent (udp host port)
  pub no_choices : words.letters ≡ []
  pub whole : words.after ≡ None
  pub from : words.name ≡ Some (numeric_text root)

-- The answer to a walk in numbers (`IsWalkInNumbers`) from the table that `lines` define: the rows
-- below the root or, if there are none, what a Get of the root returns (`AreWalked`). The line
-- that is written of each row is its `row_line`, as over a table file (`TableWalk`).
pub record IsAskInNumbers (words : WalkWords) (files : Holdings) (serving : ServeWords)
    (server_files : Holdings) (lines : List (List ℕ)) (root : List ℕ) : Type 0 where
  pub rows : List VarBind
  pub are_walked : AreWalked lines root rows
  pub ask : IsAskOfServer (asking_of false words) files serving server_files rows
  pub prefix : (before after : Stream) → IsPrefixWritten ask.mib ask.plan rows before after
      → TakesPrefix before (flat_map row_line rows) after
  pub all : (before after : Stream) → IsWholeWritten ask.mib ask.plan rows before after
      → after ≡ stream_after before (flat_map row_line rows)

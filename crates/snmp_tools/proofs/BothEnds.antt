-- From what is promised of a walk or a Get, and of an snmpd that serves a table file, follows `PrintsServed` (`prints_served`).
use Rattle.std.proofs.lemmas.Grind.{common_steps}
use Rattle.std.proofs.Common.{◌≡◌, ◌≢◌, ◌⊎◌, inl, inr, ◌+◌, ◌≤◌, ℕ, Bool, true, false, List, [], ◌∷◌, length, Option, Some, None, refl, sym, ◌∙◌, ap}
use Rattle.std.proofs.Common.{subst, arith, append-nil}
use Rattle.std.specs.{Prelude.MatchOption, Prelude.drop, Prelude.if◌then◌else◌, Str.Lines.lines}
use Rattle.smi_names.specs.declared.nodes.warning.Warning.{Warning}
use Rattle.smi_tree.specs.{Tree.Contents}
use Rattle.snmp_agent.specs.{Event.Event, Event.InTurn, Serving.AreTurns, table.Exact.HasOne, table.Format.Names, table.Stated.AreTableBy}
use Rattle.snmp_agent.specs.{table.Stated.IsTableOf, table.Table.IsGet, table.Table.IsMibView, table.Table.MibView}
use Rattle.snmp_io.specs.{Files.Holdings, Files.Holds, Files.MayHold, Output.TakesPrefix, Output.stream_after, Streams.nothing_taken}
use Rattle.snmp_net.specs.{Address.table, Address.udp, declared.links.Links.Ghosts as Network}
use Rattle.snmp_walk.specs.{Link.Agents, Link.AreLawful, Progress.CountsAll, Tries.Happens, declared.end.WalkEnd.WalkEnd}
use Rattle.snmp_walk.specs.declared.link.Link.{Ghosts as LinkFacts}
use Rattle.snmp_walk.specs.Network.{AreReplies, AreServed, Happening, IsFaithful, of_agents, of_walk}
use Rattle.snmp_walk.specs.declared.end.WalkEnd.TheVariants as ending
use Rattle.snmp_wire.specs.Message.{VarBind}
use Rattle.snmp_words.specs.Words.{ServeWords, StateJob, Stated, StatesNumber, readings, snmpd, stated_among}
use Rattle.snmp_tools.specs.serve.ServeResult as serve
use Rattle.snmp_tools.specs.{serve.ServeResult.IsServedBy, serve.ServeResult.IsServeOutcome, serve.ServeResult.listening_line, serve.Service.IsPlaced}
use Rattle.snmp_tools.specs.{serve.Service.served_agent, serve.TableFile.HasTable, load.Loaded.LoadFacts, Headline.IsWholeText, FaultText.Fault}
use Rattle.snmp_tools.specs.{load.Loaded.AreLoaded, Seen.Seen, Done.IsServeRun, AskResult.IsOutcome, AskResult.IsOutcomeBy, AskResult.IsRun}
use Rattle.snmp_tools.specs.{AskResult.IsShownOver, Answer.AreRowsOf, Answer.Counts, Answer.IsAskedOver}
use Rattle.snmp_tools.specs.BothEnds as ends
use Rattle.snmp_tools.specs.BothEnds.{AreEndsOfOneRun, IsAskOfServer, IsAtAsker, IsAtServer, PrintsServed, ServesInTurn, events_of}
use Rattle.snmp_tools.specs.AskResult as outcome
use Rattle.snmp_tools.specs.Question.{AskFor, AskWords, IsPlanFor, Plan, Question, counts_in, names, subtree}
use Rattle.snmp_tools.proofs.{Asked.GivesRows, Asked.LeftAreRows, Asked.walk_rows, TableNames.OneMeaning, TableNames.one_look_up}
use Rattle.snmp_tools.proofs.{TableWalks.BelowAreRows, Outcomes.IsPrefixOfLines, Outcomes.finished, Outcomes.no_fault_at_0}
use Rattle.snmp_tools.proofs.Plans.{OneList, OneTree, held_is, one_load, one_plan}

-- ---- the greatest size in a command line

number_fits : (text : Option (List ℕ)) (n : ℕ)
    → MatchOption text (n ≡ 1472) (λ t. StatesNumber 1 65507 t n ⊎ (((m : ℕ) → StatesNumber 1 65507 t m → ⊥) × (n ≡ 1472))) → n ≤ 65507
number_fits None n e = omega (arith, e)
number_fits (Some text) n (inl states) = states.to
number_fits (Some text) n (inr (none, e)) = omega (arith, e)

picked : {G : Type 0} (b : Bool) (x y : Option Stated) (job : Stated) → (x ≡ Some job → G) → (y ≡ Some job → G) → (if b then x else y) ≡ Some job → G
picked true x y job f g e = f e
picked false x y job f g e = g e

module _ (words : ServeWords) (line : List (List ℕ)) (s : StateJob line (snmpd words)) where
  -- the job that the arguments ask for if their command is after the first `k` commands of the list; otherwise None
  abbrev later : ℕ → Option Stated
  later k = stated_among (drop k (readings s.numbers)) (s.command, s.rows)

  -- the greatest size that the arguments of snmpd say is at most 65507
  size_fits : words.max_size ≤ 65507
  size_fits = grind (arith, common_steps, picked, number_fits)

-- ---- what a walk or a Get received

-- `events` happened at the link, one after the other. If all that arrived are replies of lawful agents that have only the table `view`, then the rows passed
-- on are a prefix of the answer, as `GivesRows` says. If the number of bindings is asked for, and the run is done, the end has this number.
record Heard {W : Type 0} (facts : LinkFacts W) (link later : W) (question : Question) (view : MibView) (given refused : List VarBind) (end : WalkEnd)
    (events : List (Event (Unit {0}))) : Type 0 where
  in_turn : InTurn (Happens facts) link events later
  counted : counts_in question ≡ true → Counts end (length given)
  replied : (agents : Agents) → agents.tables ≡ view ∷ [] → AreLawful agents → AreReplies agents events → GivesRows question view given refused end

count_is : (end : WalkEnd) (given : List VarBind) → CountsAll end given → Counts end (length given)
count_is (ending.Done n) given e = e
count_is end given e = tt

module _ (below : BelowAreRows) (left : LeftAreRows) (one_get : (view : MibView) (o : List ℕ) → HasOne (IsGet view o)) (view : MibView)
    (good : IsMibView view) {W : Type 0} (facts : LinkFacts W) (link later : W) (tries : ℕ) (plan : Plan) (given refused : List VarBind) (end : WalkEnd) where
  heard : (question : Question) (run : IsAskedOver facts link later tries plan question given refused end)
      → Heard facts link later question view given refused end (events_of facts link later tries plan question given refused end run)
  heard (names os) run = record {
    in_turn = run.happened.in_turn;
    counted = λ e. let no : ⊥ = cc in absurd no;
    replied = λ agents single lawful replies.
        let got = run.happened.replied agents lawful replies in
        record { prefix = λ rows are. got.beginning view rows single are; whole = λ rows are done. got.all_at_done view rows single are done };
  }
  heard (subtree w) run = record {
    in_turn = run.happened.in_turn;
    counted = λ e. count_is end given run.ends.counted;
    replied = λ agents single lawful replies.
        walk_rows below left one_get view good agents single (λ v. Unit {0}) plan.community w given refused end (run.happened.replied agents lawful replies);
  }

-- ---- the table that is served

module _ (one_table : (names : Names) (ls : List (List ℕ)) (v w : MibView) → IsTableOf names ls v → IsTableOf names ls w → v ≡ w) where
  -- a file that is known to hold a text defines at most one table
  one_view : (tree : Contents) (files : Holdings) (path text : List ℕ) (v w : MibView) → Holds files path text → HasTable files tree path v
      → HasTable files tree path w → v ≡ w
  one_view tree files path text v w held a b =
      let looked : a.0 ≡ b.0 = one_look_up tree a.0 b.0 a.1 b.1 in
      let same : a.2 ≡ b.2 = held_is (files path) a.2 text a.3 held ∙ sym (held_is (files path) b.2 text b.3 held) in
      one_table b.0 (lines b.2) v w
      (subst (λ (n : Names). IsTableOf n (lines b.2) v) looked (subst (λ (t : List ℕ). IsTableOf a.0 (lines t) v) same a.4)) b.4

  is_view : ((names : Names) (ls : List (List ℕ)) → AreTableBy names ls → (view : MibView) × IsTableOf names ls view × IsMibView view)
      → (tree : Contents) (files : Holdings) (path : List ℕ) (view : MibView) → HasTable files tree path view → IsMibView view
  is_view tables tree files path view has =
      let stated = tables has.0 (lines has.2) (has.4.0, has.4.1, has.4.2.good) in
      subst IsMibView (one_table has.0 (lines has.2) stated.0 view stated.1 has.4) stated.2

-- ---- the end of snmpd

-- the agent that snmpd serves
abbrev server_agents : ServeWords → MibView → Agents
server_agents words view = record { tables = view ∷ []; community = words.community; max_size = words.max_size }

module _ {N V D P E : Type 0} (net : Network N V D) (endpoint_at : D → E) (happens : E → Event P → E → Type 0) (words : ServeWords) where
  are_served : (view : MibView) (before after : Seen N) (status : ℕ) (events : List (Event P)) (run : List (Happening P)) → of_agents run ≡ events
      → IsAtServer net endpoint_at happens words view before after status events → AreServed (server_agents words view) run
  are_served view before after status events run same (ends.unserved none prefix not_0) = grind (arith, common_steps)
  are_served view before after status events run same (ends.served at door later opened counts fault warned bound made turns printed was_reported) = record {
    services = record { view = view; turns = words.turns; served = counts; events = events } ∷ [];
    each = (inl refl, turns.0, tt);
    in_turn = same ∙ sym (append-nil events);
  }

  module _ (one_table : (names : Names) (ls : List (List ℕ)) (v w : MibView) → IsTableOf names ls v → IsTableOf names ls w → v ≡ w) (one_list : OneList)
      (one_tree : OneTree) (serves : ServesInTurn net endpoint_at happens) (Loads : LoadFacts) (before after : Seen N) (status : ℕ)
      (run : IsServeRun net Loads words before after status) (nodes : Contents) (warnings : List Warning)
      (known : AreLoaded (Holds before.files) words.mibs nodes warnings) (text : List ℕ) (held : Holds before.files words.table text) (view : MibView)
      (has : HasTable before.files nodes words.table view) where
    abbrev End : Seen N
    End = record after { err = run.warned }

    abbrev AtServer : Type 0
    AtServer = (events : List (Event P)) × IsAtServer net endpoint_at happens words view before after status events

    not_0 : (why : Fault) → run.fault ≡ Some why → status ≢ 0
    not_0 why is zero_status =
        let none : run.fault ≡ None = no_fault_at_0 run.fault run.warned after.err status run.reported zero_status in let no : ⊥ = cc in no

    not_served : (why : Fault) → TakesPrefix before.out (listening_line words.listen) after.out → run.fault ≡ Some why → AtServer
    not_served why prefix is = ([], ends.unserved refl prefix (not_0 why is))

    nothing_reported : (why : Fault) → after.out ≡ before.out → run.fault ≡ Some why → AtServer
    nothing_reported why same is = not_served why (nothing_taken before.out after.out (listening_line words.listen) same) is

    module _ (at : IsPlaced words) (tree : Contents) (nodes_are : nodes ≡ tree) where
      view_is : (other : MibView) → HasTable before.files tree words.table other → other ≡ view
      view_is other states =
          one_view one_table tree before.files words.table text other view held states
          (subst (λ (m : Contents). HasTable before.files m words.table view) nodes_are has)

      by_door : IsServedBy net words at.host at.port tree (record before { err = run.warned }) End run.fault → AtServer
      by_door (serve.refused why refusal same is) = nothing_reported why (ap (λ (s : Seen N). s.out) same) is
      by_door (serve.not_bound other states fails risen same is) = nothing_reported _ (ap (λ (s : Seen N). s.out) same) is
      by_door (serve.bound other door opened states bound same (inl (inl (nothing, is), left))) = nothing_reported _ nothing is
      by_door (serve.bound other door opened states bound same (inl (inr (fails, is), left))) = not_served _ fails.begun is
      by_door (serve.bound other door opened states bound same (inr (counts, (later, made), adds_up, printed))) =
          let s = serves opened door (served_agent words other) words.turns counts after.links later made in (
            s.0,
            ends.served at door later opened counts run.fault run.warned bound
                (subst (λ (v : MibView). net.serves opened door (served_agent words v) words.turns counts after.links later) (view_is other states) made)
                (subst (λ (v : MibView). AreTurns (served_agent words v) words.turns counts s.0) (view_is other states) s.1.0, s.1.1) printed run.reported,
          )

    at_server : IsServeOutcome net Loads words before End run.fault → AtServer
    at_server (serve.not_loaded why refusal same is) = nothing_reported why (ap (λ (s : Seen N). s.out) same) is
    at_server (serve.loaded at tree load made by) =
        let same = one_load one_list one_tree before.files words.mibs nodes tree warnings load.warnings known load.loaded in
        by_door at tree same.0 by

-- ---- both ends

module _ (below : BelowAreRows) (left : LeftAreRows) (one_get : (view : MibView) (o : List ℕ) → HasOne (IsGet view o))
    (one_table : (names : Names) (ls : List (List ℕ)) (v w : MibView) → IsTableOf names ls v → IsTableOf names ls w → v ≡ w)
    (tables : (names : Names) (ls : List (List ℕ)) → AreTableBy names ls → (view : MibView) × IsTableOf names ls view × IsMibView view)
    (one_list : OneList) (one_tree : OneTree) (one : OneMeaning) {N V C M X D P E : Type 0} (net : Network N V C) (wire : LinkFacts V) (Loads : LoadFacts)
    (server : Network M X D) (endpoint_at : D → E) (happens : E → Event P → E → Type 0) (ServerLoads : LoadFacts)
    (honest : (agents : Agents) (walker : P) (run : List (Happening P)) → IsFaithful walker run → AreServed agents run → AreReplies agents (of_walk run))
    (serves : ServesInTurn server endpoint_at happens) (words : AskWords) (before after : Seen N) (status : ℕ) (serving : ServeWords)
    (server_before server_after : Seen M) (server_status : ℕ) (rows : List VarBind) (ask : IsAskOfServer words before.files serving server_before.files rows)
    (run : IsRun net wire Loads words before after status) (serve_run : IsServeRun server ServerLoads serving server_before server_after server_status) where
  abbrev Both : Type 0
  Both = PrintsServed net wire server endpoint_at happens words before after status serving server_before server_after server_status rows ask

  abbrev AskEnd : Seen N
  AskEnd = record after { err = run.warned }

  abbrev Agent : Agents
  Agent = server_agents serving ask.view

  -- the table file is known, so for snmpd too it defines the table `ask.view`
  has_table : HasTable server_before.files ask.nodes serving.table ask.view
  has_table = grind (arith, common_steps)

  good_view : IsMibView ask.view
  good_view = is_view one_table tables ask.nodes server_before.files serving.table ask.view has_table

  lawful : AreLawful Agent
  lawful = record { views = (good_view, tt); size = size_fits serving ask.line ask.stated }

  served_end : (events : List (Event P))
      × IsAtServer server endpoint_at happens serving ask.view server_before server_after server_status events
  served_end =
      at_server server endpoint_at happens serving one_table one_list one_tree serves ServerLoads server_before server_after server_status serve_run ask.nodes
      ask.node_warnings ask.nodes_known ask.text ask.held ask.view has_table serve_run.outcome

  ask_not_0 : (why : Fault) → run.fault ≡ Some why → status ≢ 0
  ask_not_0 why is zero_status = grind (arith, common_steps, no_fault_at_0)

  -- nothing happened at the end that asks (`IsAtAsker` without events)
  abbrev Unasked : Type 0
  Unasked = IsAtAsker net wire words ask.mib ask.plan before after status []

  nothing_asked : (why : Fault) → (status ≢ 0 → Unasked) → after.out ≡ before.out → run.fault ≡ Some why → Both
  nothing_asked why end same is = record {
    asked = [];
    at_asker = end (ask_not_0 why is);
    served = served_end.0;
    at_server = served_end.1;
    prefix_written = λ ends_are. ([], rows, [], refl, inl refl, nothing_taken before.out after.out [] same);
    all_written_at_status_0 = λ ends_are zero_status. absurd (ask_not_0 why is zero_status);
  }

  -- if no link was opened, nothing was printed, and there is a fault, then what is promised of both ends holds, as nothing was asked
  not_opened : (why : Fault) → (after.links ≡ before.links) ⊎ net.fails before.links after.links → after.out ≡ before.out → run.fault ≡ Some why → Both
  not_opened why left same is = nothing_asked why (λ not_0. ends.not_linked refl left same not_0) same is

  unchanged : (why : Fault) → AskEnd ≡ record before { err = run.warned } → run.fault ≡ Some why → Both
  unchanged why same is = not_opened why (inl (ap (λ (s : Seen N). s.links) same)) (ap (λ (s : Seen N). s.out) same) is

  module _ (mib : Contents) (mib_is : ask.mib ≡ mib) (plan : Plan) (for : IsPlanFor words before.files mib plan) where
    plan_is : ask.plan ≡ plan
    plan_is = one_plan one words mib ask.plan plan (subst (λ (m : Contents). AskFor words m ask.plan) mib_is ask.asked) for.asked for.only

    abbrev Written : Contents → Plan → Type 0
    Written m p = IsPrefixOfLines m p.letters (counts_in p.question) rows before.out after.out
        × (run.fault ≡ None → (text : List ℕ) × IsWholeText m p rows text × (after.out ≡ stream_after before.out text))

    of_ask : Written mib plan → Written ask.mib ask.plan
    of_ask w = subst (λ (m : Contents). Written m ask.plan) (sym mib_is) (subst (Written mib) (sym plan_is) w)

    rows_are : AreRowsOf plan.question ask.view rows
    rows_are = subst (λ (p : Plan). AreRowsOf p.question ask.view rows) plan_is ask.are_rows

    -- the agent is asked over the network, so it has no table file
    no_file : (path : List ℕ) → plan.agent ≡ table path → ⊥
    no_file path over = let agents : udp ask.host ask.port ≡ table path = sym ask.over ∙ ap (λ (p : Plan). p.agent) plan_is ∙ over in cc

    module _ (host : List ℕ) (port : ℕ) (over : plan.agent ≡ udp host port)
        (shown : IsShownOver net wire words mib plan host port before after run.fault) where
      abbrev happened : List (Event (Unit {0}))
      happened =
          events_of wire shown.facts.link shown.facts.after (words.asking.retries + 1) plan plan.question shown.given shown.refused shown.end
          shown.facts.run

      here : Heard wire shown.facts.link shown.facts.after plan.question ask.view shown.given shown.refused shown.end happened
      here =
          heard below left one_get ask.view good_view wire shown.facts.link shown.facts.after (words.asking.retries + 1) plan shown.given shown.refused
          shown.end plan.question shown.facts.run

      at_asker : IsAtAsker net wire words ask.mib ask.plan before after status happened
      at_asker =
          let by_plan = subst (λ (p : Plan). IsAtAsker net wire words mib p before after status happened) (sym plan_is)
          (ends.asked host port run.fault run.warned over shown run.reported refl here.in_turn) in
          subst (λ (m : Contents). IsAtAsker net wire words m ask.plan before after status happened) (sym mib_is) by_plan

      written : AreEndsOfOneRun happened served_end.0 → Written ask.mib ask.plan
      written are =
          let served = are_served server endpoint_at happens serving ask.view server_before server_after server_status served_end.0 are.run are.at_agents
          served_end.1 in
          let replies = subst (AreReplies Agent) are.at_walk (honest Agent are.walker are.run are.faithful served) in
          let gave = here.replied Agent refl lawful replies in
          of_ask
          (finished mib plan.letters words.asking.agent before.out rows (counts_in plan.question) shown.given shown.refused shown.end shown.between after.out
          run.fault shown.lines shown.finish here.counted (gave.whole rows rows_are) (gave.prefix rows rows_are))

      over_link : Both
      over_link = record {
        asked = happened;
        at_asker = at_asker;
        served = served_end.0;
        at_server = served_end.1;
        prefix_written = λ are. (written are).0;
        all_written_at_status_0 = λ are zero_status.
            (written are).1 (no_fault_at_0 run.fault run.warned after.err status run.reported zero_status);
      }

  reported_by : (mib : Contents) → ask.mib ≡ mib → IsOutcomeBy net wire words mib (record before { err = run.warned }) AskEnd run.fault → Both
  reported_by mib same_mib (outcome.refused why refusal same is) = unchanged why same is
  reported_by mib same_mib (outcome.not_begun why last plan for (inl (path, over, same)) is) = unchanged why same is
  reported_by mib same_mib (outcome.not_begun why last plan for (inr (host, port, over, opened)) is) =
      let agent : ask.plan.agent ≡ udp host port = ap (λ (p : Plan). p.agent) (plan_is mib same_mib plan for) ∙ over in
      let same : after.out ≡ before.out = ap (λ (s : Seen N). s.out) opened.unchanged in
      nothing_asked why (λ not_0. ends.not_asked refl host port agent opened.link opened.unused same not_0) same is
  reported_by mib same_mib (outcome.asked plan path view for over states sent printed same) = absurd (no_file mib same_mib plan for path over)
  reported_by mib same_mib (outcome.not_linked plan host port for over fails risen same is) = not_opened _ (inr fails) same is
  reported_by mib same_mib (outcome.asked_over plan host port for over sent shown same) = over_link mib same_mib plan for host port over shown

  both_ends : IsOutcome net wire Loads words before AskEnd run.fault → Both
  both_ends (outcome.not_loaded why early same is) =
      not_opened why (inl (ap (λ (s : Seen N). s.links) same)) (ap (λ (s : Seen N). s.out) same) is
  both_ends (outcome.loaded mib warnings loading made written by) =
      reported_by mib (one_load one_list one_tree before.files words.asking.mibs ask.mib mib ask.warnings warnings ask.known loading).0 by

  pub prints_served : Both
  prints_served = both_ends run.outcome

-- What is printed if snmpd and the command line that asks it are at the ends of one recorded run (`prints_rows`).
use Rattle.std.proofs.Common.{◌≡◌, ◌∙◌, ℕ, false, true, List, [], refl, ap}
use Rattle.std.specs.{Prelude.map, Str.Lines.lines}
use Rattle.snmp_walk.specs.Network.{Happening, IsFaithful, of_agents}
use Rattle.snmp_wire.specs.Message.{VarBind}
use Rattle.snmp_words.specs.Words.{ServeWords, Stated, WalkWords, snmpwalk}
use Rattle.snmp_tools.specs.BothEnds.{AreEndsOfOneRun, IsAskInNumbers, IsAskOfServer, PrintsServed}
use Rattle.snmp_tools.specs.{Done.IsAskDone, Done.IsJobDone, Done.IsServeRun, Question.AskWords, Question.of_walk as asking_of, Seen.Seen}
use Rattle.snmp_tools.specs.load.Loaded.{any_load}
use Rattle.snmp_tools_tests.specs.{Printed.Asks, Printed.PrintsRowsOf, Printed.PrintsWalk, Recorded.happening_of, Replay.HappensAtDoor}
use Rattle.snmp_tools_tests.specs.declared.both_ends.replay.{ReplayDoor.ReplayDoor, ReplayLinks.ReplayLinks}
use Rattle.snmp_tools_tests.specs.declared.both_ends.walk.WalkLinks.{WalkLinks}
use Rattle.snmp_tools_tests.specs.contracts.both_ends.replay.ReplayLinksLinks.TheImpl.{ghosts as replay_links}
use Rattle.snmp_tools_tests.specs.contracts.both_ends.walk.RecordedLinkLink.TheImpl.{ghosts as link}
use Rattle.snmp_tools_tests.specs.contracts.both_ends.walk.WalkLinksLinks.TheImpl.{ghosts as walk_links}
use Rattle.snmp_tools_tests.proofs.{RecordedEnds.asked_is, RecordedEnds.asks_so, RecordedEnds.served_is, Runs.one_run}

abbrev Run : Type 0
Run = List (Happening (Unit {0}))

module _ (before after : Seen WalkLinks) (status : ℕ) (server_before server_after : Seen ReplayLinks) (server_status : ℕ) where
  -- what the law `served_tables` says of any command line that asks and any of snmpd, if their runs have these states and statuses
  abbrev pub Law : Type 0
  Law = (words : AskWords) (serving : ServeWords) (rows : List VarBind)
      (ask : IsAskOfServer words before.files serving server_before.files rows) → IsAskDone walk_links link any_load words before after status
      → IsServeRun replay_links any_load serving server_before server_after server_status
      → PrintsServed walk_links link replay_links (λ (door : ReplayDoor). door) HappensAtDoor words before after status serving server_before
      server_after server_status rows ask

  module _ (law : Law) (new : before.links.network.run ≡ []) (faithful : IsFaithful tt after.links.network.run)
      (entries : map happening_of server_before.links.entries.now ≡ after.links.network.run) (zero_status : server_status ≡ 0)
      (done : server_after.links.is_done ≡ true) where
    pub prints_rows : (job : Stated) (words : AskWords) (serving : ServeWords) (rows : List VarBind)
        (ask : IsAskOfServer words before.files serving server_before.files rows) → Asks job words
        → IsJobDone walk_links link any_load job before after status
        → IsServeRun replay_links any_load serving server_before server_after server_status
        → PrintsRowsOf ask.mib ask.plan rows before.out after.out status
    prints_rows job words serving rows ask asks asked_done serve_run =
        let p = law words serving rows ask (asks_so before after status job words asks asked_done) serve_run in
        let asked = asked_is words ask.mib ask.plan before after status new p.asked p.at_asker in
        let served = served_is serving ask.view server_before server_after server_status p.served p.at_server zero_status done in
        let run = after.links.network.run in
        let one : AreEndsOfOneRun p.asked p.served = one_run run p.asked p.served faithful asked (served ∙ ap of_agents entries) in
        record {
          prefix_written = p.prefix_written one;
          all_written_at_status_0 = λ zero. p.all_written_at_status_0 one zero;
        }

    pub prints_walk : (words : WalkWords) (serving : ServeWords) (root text : List ℕ)
        → IsAskInNumbers words before.files serving server_before.files (lines text) root
        → IsJobDone walk_links link any_load (snmpwalk words) before after status
        → IsServeRun replay_links any_load serving server_before server_after server_status
        → PrintsWalk (lines text) root before.out after.out status
    prints_walk words serving root text a asked_done serve_run =
        let p = prints_rows (snmpwalk words) (asking_of false words) serving a.rows a.ask refl asked_done serve_run in
        record {
          rows = a.rows;
          are_walked = a.are_walked;
          prefix = a.prefix before.out after.out p.prefix_written;
          all = λ zero. a.all before.out after.out (p.all_written_at_status_0 zero);
        }

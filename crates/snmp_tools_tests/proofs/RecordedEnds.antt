-- When the network's record of an end is what is recorded of the events of a run there: for the walk `asked_is`, for snmpd `served_is`.
use Rattle.std.proofs.Common.{◌≡◌, ◌∙◌, inl, inr, ℕ, true, List, [], ◌∷◌, ◌++◌, refl, sym, ap, subst, append-nil}
use Rattle.std.specs.Prelude.{map}
use Rattle.snmp_agent.specs.{Event.Event, Event.InTurn, Event.came, Event.receive_failed, Event.send_failed, Event.sent, Event.silence}
use Rattle.snmp_agent.specs.table.Table.{MibView}
use Rattle.snmp_walk.specs.{Network.Happening, Network.of_agents, Network.of_walk, Tries.Happens}
use Rattle.snmp_words.specs.Words.{ServeWords, Stated, snmpbulkwalk, snmpd, snmpget, snmptranslate, snmpwalk}
use Rattle.smi_tree.specs.{Tree.Contents}
use Rattle.snmp_tools.specs.BothEnds as ends
use Rattle.snmp_tools.specs.BothEnds.{IsAtAsker, IsAtServer, ServesInTurn}
use Rattle.snmp_tools.specs.{Done.IsAskDone, Done.IsJobDone, Question.AskWords, Question.Plan, Seen.Seen, load.Loaded.any_load}
use Rattle.snmp_tools_tests.specs.{Printed.Asks, Recorded.Recording, Recorded.all_recorded, Recorded.happening_of, Recorded.recorded}
use Rattle.snmp_tools_tests.specs.{Replay.HappensAtDoor, Replay.ahead_of, Walk.HappensAtWalk}
use Rattle.snmp_tools_tests.specs.declared.both_ends.replay.{ReplayDoor.ReplayDoor, ReplayLinks.ReplayLinks}
use Rattle.snmp_tools_tests.specs.declared.both_ends.walk.{RecordedLink.RecordedLink, WalkLinks.WalkLinks}
use Rattle.snmp_tools_tests.specs.contracts.both_ends.replay.ReplayLinksLinks.TheImpl.{ghosts as replay_links}
use Rattle.snmp_tools_tests.specs.contracts.both_ends.walk.RecordedLinkLink.TheImpl.{ghosts as link}
use Rattle.snmp_tools_tests.specs.contracts.both_ends.walk.WalkLinksLinks.TheImpl.{ghosts as walk_links}

abbrev Events : Type 0
Events = List (Event (Unit {0}))

append_assoc : (xs ys zs : Events) → (xs ++ ys) ++ zs ≡ xs ++ (ys ++ zs)
append_assoc [] ys zs = refl
append_assoc (x ∷ xs) ys zs = ap (λ (es : Events). x ∷ es) (append_assoc xs ys zs)

-- ---- the walk's end

happens_so : (e : Event (Unit {0})) (old new : RecordedLink) → Happens link old e new → HappensAtWalk old e new
happens_so (came peer d) old new h = h
happens_so (sent peer d) old new h = h
happens_so (send_failed peer d) old new h = h
happens_so silence old new h = h
happens_so receive_failed old new h = h

walk_log : (events : Events) (old new : RecordedLink) → InTurn (Happens link) old events new
    → of_walk new.network.run ≡ of_walk old.network.run ++ all_recorded events
walk_log [] old new h = ap (λ (l : RecordedLink). of_walk l.network.run) h ∙ sym (append-nil (of_walk old.network.run))
walk_log (e ∷ events) old new h =
    walk_log events h.0 new h.2 ∙ ap (λ (es : Events). es ++ all_recorded events) (happens_so e old h.0 h.1)
    ∙ append_assoc (of_walk old.network.run) (recorded e) (all_recorded events)

module _ (words : AskWords) (mib : Contents) (plan : Plan) (before after : Seen WalkLinks) (status : ℕ) (new : before.links.network.run ≡ []) where
  unchanged : (events : Events) → events ≡ [] → after.links.network ≡ before.links.network → all_recorded events ≡ of_walk after.links.network.run
  unchanged events none same = ap all_recorded none ∙ sym (ap (λ (n : Recording). of_walk n.run) same ∙ ap of_walk new)

  -- if the network had recorded nothing before the run, then after it the network's record of the walk's end is what is recorded of the events at this end
  pub asked_is : (events : Events) → IsAtAsker walk_links link words mib plan before after status events
      → all_recorded events ≡ of_walk after.links.network.run
  asked_is events (ends.not_linked none left out not_0) = elim left [
    | inl same ↦ unchanged events none (ap (λ (l : WalkLinks). l.network) same)
    | inr same ↦ unchanged events none same
  ]
  asked_is events (ends.not_asked none host port over unused linked out not_0) = unchanged events none (linked.closed ∙ linked.opened)
  asked_is events (ends.asked host port fault warned over shown reported is turns) =
      let linked = shown.facts.linked in
      let log = walk_log events shown.facts.link shown.facts.after turns in
      sym
      (ap (λ (n : Recording). of_walk n.run) linked.closed ∙ log ∙ ap (λ (n : Recording). of_walk n.run ++ all_recorded events) linked.opened
      ∙ ap (λ (r : List (Happening (Unit {0}))). of_walk r ++ all_recorded events) new)

-- ---- the end of snmpd

door_log : (events : Events) (old new : ReplayDoor) → InTurn HappensAtDoor old events new
    → of_agents (ahead_of old) ≡ all_recorded events ++ of_agents (ahead_of new)
door_log [] old new h = ap (λ (d : ReplayDoor). of_agents (ahead_of d)) (sym h)
door_log (e ∷ events) old new h =
    h.1 ∙ ap (λ (es : Events). recorded e ++ es) (door_log events h.0 new h.2)
    ∙ sym (append_assoc (recorded e) (all_recorded events) (of_agents (ahead_of new)))

pub serves_in_turn : ServesInTurn replay_links (λ (door : ReplayDoor). door) HappensAtDoor
serves_in_turn before door agent turns served after later made = (made.0.0, (made.0.1, made.0.2))

-- if the status is 0 and the whole record passed, what is recorded of the events at the end of snmpd is the record of the agent's end
pub served_is : (words : ServeWords) (view : MibView) (before after : Seen ReplayLinks) (status : ℕ) (events : Events)
    → IsAtServer replay_links (λ (door : ReplayDoor). door) HappensAtDoor words view before after status events → status ≡ 0
    → after.links.is_done ≡ true → all_recorded events ≡ of_agents (map happening_of before.links.entries.now)
served_is words view before after status events (ends.unserved none prefix not_0) zero_status done = absurd (not_0 zero_status)
served_is words view before after status events (ends.served at door later opened counts fault warned bound made turns printed reported) zero_status done =
    let log = door_log events door later turns.1 in
    let left = made.1 done in
    sym (append-nil (all_recorded events)) ∙ sym (ap (λ (r : List (Happening (Unit {0}))). all_recorded events ++ of_agents r) left) ∙ sym log
    ∙ ap of_agents bound

-- ---- what is asked

pub asks_so : (before after : Seen WalkLinks) (status : ℕ) (job : Stated) (words : AskWords) → Asks job words
    → IsJobDone walk_links link any_load job before after status → IsAskDone walk_links link any_load words before after status
asks_so before after status (snmpget w) words is done =
    subst (λ (a : AskWords). IsAskDone walk_links link any_load a before after status) (sym is) done
asks_so before after status (snmpwalk w) words is done =
    subst (λ (a : AskWords). IsAskDone walk_links link any_load a before after status) (sym is) done
asks_so before after status (snmpbulkwalk w) words is done =
    subst (λ (a : AskWords). IsAskDone walk_links link any_load a before after status) (sym is) done
asks_so before after status (snmptranslate w) words none done = absurd none
asks_so before after status (snmpd w) words none done = absurd none

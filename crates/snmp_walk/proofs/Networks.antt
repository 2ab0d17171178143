-- Over a faithful network, each message that arrives at the walk is a reply of the agents at the other end (`replies_over`).
use Rattle.std.proofs.Common.{◌≡◌, inl, inr, ℕ, List, [], ◌∷◌, ◌++◌, refl, sym, ◌∙◌, ap, subst, append_assoc, append-nil, flat_map, arith, length}
use Rattle.std.proofs.Common.{map, Option, Some, None, Ok, Err, take, replicate, ◌+◌, ◌<◌}
use Rattle.std.specs.Prelude.{Result}
use Rattle.std.specs.{List.AllByRecursion, Prelude.IfSome, Prelude.IfNone}
use Rattle.std.proofs.{lemmas.List.Elements.recursion_from_All, lemmas.List.Elements.All-nil, lemmas.Grind.common_steps}
use Rattle.std.proofs.{lemmas.Grind.replicate_next, lemmas.List.replicate-append-replicate}
use Rattle.snmp_agent.specs.Event.{Event, came, silence, receive_failed, sent, send_failed, InTurn}
use Rattle.snmp_agent.specs.Serving.{IsTurn, TurnDone, AreTurns}
use Rattle.snmp_agent.specs.Reply.{IsReply, IsDropped}
use Rattle.snmp_agent.specs.{declared.server.Turn.Turn, table.Table.MibView, Reply.Agent, declared.server.Served.Served}
use Rattle.snmp_agent.specs.declared.server.Turn.TheVariants as turn
use Rattle.snmp_wire.specs.{Message.Message, Message.VarBind, Spelling.Spells}
use Rattle.snmp_walk.specs.Link.{Agents, OneOf, IsReplyFrom, agent_in, Outcome}
use Rattle.snmp_walk.proofs.{Members.one_left, Members.one_there, Members.split_at, Moves.moved_of}
use Rattle.snmp_walk.specs.Network.{Happening, at_walk, at_agents, of_walk, of_agents, tried, AreReplies, IsFaithful, Service, AreServices, AreServed}
use Rattle.snmp_walk.specs.Network.{event_of_got, requests_by, RepliesTo}
use Rattle.snmp_walk.specs.{Traffic.Gives, Traffic.received, declared.end.LinkFault.LinkFault}
use Rattle.snmp_walk.specs.{declared.link.Link.Ghosts as LinkFacts, Network.BeginWithSend, RunResult.IsWalkedOver, WalkState.WalkState}
use Rattle.snmp_walk.specs.{declared.end.WalkEnd.WalkEnd}
use Rattle.snmp_walk.specs.Link as outcome
use Rattle.snmp_walk.specs.Tries.{InTurn, Happens, Sends, ReceivesDatagram, EndsTry, IsTry, AreTried}

-- ---- the two ends of a run

module _ {Peer : Type 0} where
  pub of_walk-append : (a b : List (Happening Peer)) → of_walk (a ++ b) ≡ of_walk a ++ of_walk b
  of_walk-append [] b = refl
  of_walk-append (at_walk e ∷ a) b = ap (λ es. e ∷ es) (of_walk-append a b)
  of_walk-append (at_agents e ∷ a) b = of_walk-append a b

  pub of_agents-append : (a b : List (Happening Peer)) → of_agents (a ++ b) ≡ of_agents a ++ of_agents b
  of_agents-append [] b = refl
  of_agents-append (at_walk e ∷ a) b = of_agents-append a b
  of_agents-append (at_agents e ∷ a) b = ap (λ es. e ∷ es) (of_agents-append a b)

  agents_did : (run : List (Happening Peer)) (e : Event Peer) → OneOf (of_agents run) e → OneOf run (at_agents e)
  agents_did [] e one = absurd one
  agents_did (at_walk f ∷ run) e one = inr (agents_did run e one)
  agents_did (at_agents f ∷ run) e (inl is) = inl (ap at_agents is)
  agents_did (at_agents f ∷ run) e (inr one) = inr (agents_did run e one)

pub tried-append : (a b : List (Event (Unit {0}))) → tried (a ++ b) ≡ tried a ++ tried b
tried-append [] b = refl
tried-append (sent peer d ∷ a) b = ap (λ ds. d ∷ ds) (tried-append a b)
tried-append (send_failed peer d ∷ a) b = ap (λ ds. d ∷ ds) (tried-append a b)
tried-append (came peer d ∷ a) b = tried-append a b
tried-append (silence ∷ a) b = tried-append a b
tried-append (receive_failed ∷ a) b = tried-append a b

-- ---- what agents send

module _ {Peer : Type 0} (agents : Agents) where
  -- an agent replied r to a datagram that came from the peer
  abbrev IsReplied : List (Event Peer) → Peer → List ℕ → Type 0
  IsReplied before peer r = (d : List ℕ) × OneOf before (came peer d) × IsReplyFrom agents d r

  abbrev IsAnswer : List (Event Peer) → Event Peer → Type 0
  IsAnswer before (sent peer r) = IsReplied before peer r
  IsAnswer before (send_failed peer r) = IsReplied before peer r
  IsAnswer before _ = Unit {0}

  abbrev AreAnswers : List (Event Peer) → List (Event Peer) → Type 0
  AreAnswers before [] = Unit {0}
  AreAnswers before (e ∷ more) = IsAnswer before e × AreAnswers (before ++ e ∷ []) more

  answers-append : (before xs ys : List (Event Peer)) → AreAnswers before xs → AreAnswers (before ++ xs) ys → AreAnswers before (xs ++ ys)
  answers-append before [] ys h k = subst (λ (b : List (Event Peer)). AreAnswers b ys) (append-nil before) k
  answers-append before (e ∷ xs) ys h k =
      (h.0, answers-append (before ++ e ∷ []) xs ys h.1 (subst (λ (b : List (Event Peer)). AreAnswers b ys) (sym (append_assoc before (e ∷ []) xs)) k))

  of_turn : (view : MibView) → OneOf agents.tables view → (before : List (Event Peer)) (t : Turn) (events : List (Event Peer))
      → IsTurn (agent_in agents view) t events → AreAnswers before events
  of_turn view one before turn.Replied events h =
      subst (AreAnswers before) (sym h.4) (tt, ((h.1, one_there before [] (came h.0 h.1), (view, one, h.3)), tt))
  of_turn view one before turn.Dropped events h = subst (AreAnswers before) (sym h.4) (tt, tt)
  of_turn view one before turn.Idle events h = subst (AreAnswers before) (sym h) (tt, tt)
  of_turn view one before turn.Failed events (inl h) = subst (AreAnswers before) (sym h) (tt, tt)
  of_turn view one before turn.Failed events (inr h) =
      subst (AreAnswers before) (sym h.4) (tt, ((h.1, one_there before [] (came h.0 h.1), (view, one, h.3)), tt))

  of_turns : (view : MibView) → OneOf agents.tables view → (before : List (Event Peer)) (done : List (TurnDone Peer))
      → AllByRecursion (λ (t : TurnDone Peer). IsTurn (agent_in agents view) t.turn t.events) done
      → AreAnswers before (flat_map (λ (t : TurnDone Peer). t.events) done)
  of_turns view one before [] h = tt
  of_turns view one before (t ∷ done) h =
      answers-append before t.events (flat_map (λ (u : TurnDone Peer). u.events) done) (of_turn view one before t.turn t.events h.0)
      (of_turns view one (before ++ t.events) done h.1)

  of_services : (before : List (Event Peer)) (services : List (Service Peer)) → AreServices agents services
      → AreAnswers before (flat_map (λ (s : Service Peer). s.events) services)
  of_services before [] h = tt
  of_services before (s ∷ more) h =
      answers-append before s.events (flat_map (λ (u : Service Peer). u.events) more)
      (subst (AreAnswers before) (sym h.1.in_order)
      (of_turns s.view h.0 before h.1.done (recursion_from_All _ _ h.1.each)))
      (of_services (before ++ s.events) more h.2)

  answer_at : (before es f g : List (Event Peer)) (e : Event Peer) → AreAnswers before es → es ≡ f ++ e ∷ g → IsAnswer (before ++ f) e
  answer_at before [] [] g e h is = let no : ⊥ = cc in absurd no
  answer_at before [] (x ∷ f) g e h is = let no : ⊥ = cc in absurd no
  answer_at before (x ∷ es) [] g e h is =
      let same : x ≡ e = cc in rw append-nil (subst (IsAnswer before) same h.0)
  answer_at before (x ∷ es) (y ∷ f) g e h is =
      let same : x ≡ y = cc in
      let rest : es ≡ f ++ e ∷ g = cc in
      subst (λ (b : List (Event Peer)). IsAnswer b e) (append_assoc before (x ∷ []) f ∙ ap (λ z. before ++ z ∷ f) same)
      (answer_at (before ++ x ∷ []) es f g e h.1 rest)

  -- each message that arrived at the walk is an agent's reply to a datagram that the walk had sent, or tried to send, before
  carried : (walker : Peer) (run : List (Happening Peer)) → IsFaithful walker run → AreServed agents run
      → (before after : List (Happening Peer)) (peer : Unit {0}) (r : List ℕ) → run ≡ before ++ at_walk (came peer r) ∷ after
      → (m : Message) → Spells m r → (d : List ℕ) × OneOf (tried (of_walk before)) d × IsReplyFrom agents d r
  carried walker run faithful served before after peer r is m spelt = elim (faithful.replies before after peer r is m spelt) [
    | inl one ↦ by_sent (sent walker r) (λ b h. h) one
    | inr one ↦ by_sent (send_failed walker r) (λ b h. h) one
  ]
    where
      by_sent : (e : Event Peer) → ((b : List (Event Peer)) → IsAnswer b e → IsReplied b walker r) → OneOf before (at_agents e)
          → (d : List ℕ) × OneOf (tried (of_walk before)) d × IsReplyFrom agents d r
      by_sent e reads one =
          let s = split_at before (at_agents e) one in
          let whole : run ≡ s.0 ++ at_agents e ∷ (s.1 ++ at_walk (came peer r) ∷ after) =
          is ∙ ap (λ b. b ++ at_walk (came peer r) ∷ after) s.2 ∙ append_assoc s.0 (at_agents e ∷ s.1) (at_walk (came peer r) ∷ after) in
          let events : of_agents run ≡ of_agents s.0 ++ e ∷ of_agents (s.1 ++ at_walk (came peer r) ∷ after) =
          ap of_agents whole ∙ of_agents-append s.0 (at_agents e ∷ (s.1 ++ at_walk (came peer r) ∷ after)) in
          let replied = reads (of_agents s.0) (answer_at [] (of_agents run) (of_agents s.0) _ e
          (subst (AreAnswers []) (sym served.in_turn) (of_services [] served.services served.each)) events) in
          let came_it = agents_did s.0 (came walker replied.0) replied.1 in
          let t = split_at s.0 (at_agents (came walker replied.0)) came_it in
          let again : run ≡ t.0 ++ at_agents (came walker replied.0) ∷ (t.1 ++ at_agents e ∷ (s.1 ++ at_walk (came peer r) ∷ after)) =
          whole ∙ ap (λ b. b ++ at_agents e ∷ (s.1 ++ at_walk (came peer r) ∷ after)) t.2
          ∙ append_assoc t.0 (at_agents (came walker replied.0) ∷ t.1) (at_agents e ∷ (s.1 ++ at_walk (came peer r) ∷ after)) in
          let asked = faithful.requests t.0 _ replied.0 again in
          let earlier : of_walk before ≡ of_walk t.0 ++ of_walk (at_agents (came walker replied.0) ∷ (t.1 ++ at_agents e ∷ s.1)) =
          ap of_walk (s.2 ∙ ap (λ b. b ++ at_agents e ∷ s.1) t.2 ∙ append_assoc t.0 (at_agents (came walker replied.0) ∷ t.1) (at_agents e ∷ s.1))
          ∙ of_walk-append t.0 (at_agents (came walker replied.0) ∷ (t.1 ++ at_agents e ∷ s.1)) in (
            replied.0,
            subst (λ (ds : List (List ℕ)). OneOf ds replied.0) (sym (ap tried earlier ∙ tried-append (of_walk t.0) _)) (one_left _ _ replied.0 asked),
            replied.2,
          )

-- ---- each event at the walk's end is somewhere in the run

walk_position : {Peer : Type 0} (run : List (Happening Peer)) (xs ys : List (Event (Unit {0}))) (e : Event (Unit {0})) → of_walk run ≡ xs ++ e ∷ ys
    → (before after : List (Happening Peer)) × (run ≡ before ++ at_walk e ∷ after) × (of_walk before ≡ xs)
walk_position [] [] ys e is = let never : ⊥ = cc in absurd never
walk_position [] (x ∷ xs) ys e is = let never : ⊥ = cc in absurd never
walk_position (at_agents f ∷ run) xs ys e is =
    let w = walk_position run xs ys e is in (at_agents f ∷ w.0, w.1, ap (λ r. at_agents f ∷ r) w.2, w.3)
walk_position (at_walk f ∷ run) [] ys e is = let same : f ≡ e = cc in ([], run, ap (λ z. at_walk z ∷ run) same, refl)
walk_position (at_walk f ∷ run) (x ∷ xs) ys e is =
    let rest : of_walk run ≡ xs ++ e ∷ ys = cc in
    let same : f ≡ x = cc in
    let w = walk_position run xs ys e rest in
    (at_walk f ∷ w.0, w.1, ap (λ r. at_walk f ∷ r) w.2, ap (λ z. z ∷ of_walk w.0) same ∙ ap (λ zs. x ∷ zs) w.3)

pub replies_over : {Peer : Type 0} (agents : Agents) (walker : Peer) (run : List (Happening Peer)) → IsFaithful walker run → AreServed agents run
    → AreReplies agents (of_walk run)
replies_over agents walker run faithful served before after peer r is m spelt _ =
    let w = walk_position run before after (came peer r) is in
    let c = carried agents walker run faithful served w.0 w.1 peer r w.2 m spelt in
    (c.0, subst (λ (es : List (Event (Unit {0}))). OneOf (tried es) c.0) w.3 c.1, inl c.2)

-- ---- what happens at a link while a request is tried over it

pub in_turn-append : {L X : Type 0} (step : L → X → L → Type 0) (xs ys : List X) (old between new : L) → InTurn step old xs between
    → InTurn step between ys new → InTurn step old (xs ++ ys) new
in_turn-append step [] ys old between new h k = subst (λ l. InTurn step l ys new) h k
in_turn-append step (x ∷ xs) ys old between new h k = (h.0, h.1, in_turn-append step xs ys h.0 between new h.2 k)

-- there are events, and the first of them is a send, which may have failed
abbrev IsSendFirst : List (Event (Unit {0})) → Type 0
IsSendFirst [] = ⊥
IsSendFirst (sent peer d ∷ more) = Unit {0}
IsSendFirst (send_failed peer d ∷ more) = Unit {0}
IsSendFirst (_ ∷ more) = ⊥

begins_of : (events : List (Event (Unit {0}))) → IsSendFirst events → BeginWithSend events
begins_of [] h = absurd h
begins_of (sent peer d ∷ more) h = tt
begins_of (send_failed peer d ∷ more) h = tt
begins_of (came peer d ∷ more) h = h
begins_of (silence ∷ more) h = h
begins_of (receive_failed ∷ more) h = h

begins_on : (events more : List (Event (Unit {0}))) → IsSendFirst events → BeginWithSend (events ++ more)
begins_on [] more h = absurd h
begins_on (sent peer d ∷ events) more h = tt
begins_on (send_failed peer d ∷ events) more h = tt
begins_on (came peer d ∷ events) more h = h
begins_on (silence ∷ events) more h = h
begins_on (receive_failed ∷ events) more h = h

pub begins_both : (events more : List (Event (Unit {0}))) → BeginWithSend events → BeginWithSend more → BeginWithSend (events ++ more)
begins_both [] more h k = k
begins_both (sent peer d ∷ events) more h k = tt
begins_both (send_failed peer d ∷ events) more h k = tt
begins_both (came peer d ∷ events) more h k = h
begins_both (silence ∷ events) more h k = h
begins_both (receive_failed ∷ events) more h k = h

send_after : (events more : List (Event (Unit {0}))) → BeginWithSend events → IsSendFirst more → IsSendFirst (events ++ more)
send_after [] more h k = k
send_after (sent peer d ∷ events) more h k = tt
send_after (send_failed peer d ∷ events) more h k = tt
send_after (came peer d ∷ events) more h k = h
send_after (silence ∷ events) more h k = h
send_after (receive_failed ∷ events) more h k = h

module _ {L : Type 0} (facts : LinkFacts L) (q : List ℕ) where
  -- events took the link from `old` to `new`, and the datagrams passed to sends in them are `times` times q
  abbrev pub Grows : (times : ℕ) → L → L → Type 0
  Grows times old new = (events : List (Event (Unit {0}))) × InTurn (Happens facts) old events new × (tried events ≡ replicate times q)

  grows_none : (old : L) → Grows 0 old old
  grows_none old = ([], refl, refl)

  pub grows_on : (m n times : ℕ) → times ≡ m + n → (old between new : L) → Grows m old between → Grows n between new → Grows times old new
  grows_on m n times sum old between new a b = (
    a.0 ++ b.0,
    in_turn-append (Happens facts) a.0 b.0 old between new a.1 b.1,
    tried-append a.0 b.0 ∙ ap (λ (ds : List (List ℕ)). ds ++ tried b.0) a.2 ∙ ap (λ (ds : List (List ℕ)). replicate m q ++ ds) b.2
        ∙ replicate-append-replicate m n q ∙ ap (λ (k : ℕ). replicate k q) (sym sum),
  )

  brought : (old new : L) (d : List ℕ) → ReceivesDatagram facts old d new → Grows 0 old new
  brought old new d h = (came tt d ∷ [], (new, h.0, refl), refl)

  brought_all : (strays : List (List ℕ)) (old new : L) → InTurn (ReceivesDatagram facts) old strays new → Grows 0 old new
  brought_all [] old new h = subst (λ (l : L). Grows 0 old l) (sym h) (grows_none old)
  brought_all (d ∷ strays) old new h = grows_on 0 0 0 refl old h.0 new (brought old h.0 d h.1) (brought_all strays h.0 new h.2)

  sent_once : (old new : L) → Sends facts old q new → Grows 1 old new
  sent_once old new h = (sent tt q ∷ [], (new, h.0, refl), refl)

  over_try : (strays : ℕ) (old new : L) (o : Outcome) → EndsTry facts strays old o new → Grows 0 old new
  over_try strays old new (outcome.answered d) h = brought old new d h.1
  over_try strays old new outcome.missed (inl h) = (silence ∷ [], (new, h.1.0, refl), refl)
  over_try strays old new outcome.missed (inr h) = subst (λ (l : L). Grows 0 old l) (sym h.1) (grows_none old)
  over_try strays old new outcome.cut_off h = (receive_failed ∷ [], (new, h.1.0, refl), refl)

  module _ (Other : List ℕ → Type 0) where
    up_to : (old new : L) (strays : List (List ℕ)) (o : Outcome) → (t : IsTry facts Other q o old strays new) → Grows 1 old t.received.last
    up_to old new strays o t =
        grows_on 1 0 1 refl old t.between t.received.last (sent_once old t.between t.sent) (brought_all strays t.between t.received.last t.received.brought)

    pub one_try : (old new : L) (strays : List (List ℕ)) (o : Outcome) → IsTry facts Other q o old strays new → Grows 1 old new
    one_try old new strays o t =
        grows_on 1 0 1 refl old t.received.last new (up_to old new strays o t) (over_try (length strays) t.received.last new o t.received.over)

    pub missed_tries : (received : List (List (List ℕ))) (old new : L) → InTurn (IsTry facts Other q outcome.missed) old received new
        → Grows (length received) old new
    missed_tries [] old new h = ([], h, refl)
    missed_tries (strays ∷ more) old new h =
        grows_on 1 (length more) (length (strays ∷ more)) (omega arith) old h.0 new (one_try old h.0 strays outcome.missed h.1) (missed_tries more h.0 new h.2)

    -- if r answered q, then before r was delivered, q was passed to a send in each try, and nothing else was (`Grows`)
    pub answered_tries : (tries : ℕ) (old new : L) (r : List ℕ) → (h : AreTried facts Other q tries old (outcome.answered r) new)
        → (last : L) × Grows (h.0 + 1) old last × facts.delivers last r new
    answered_tries tries old new r (earlier, few, before, missed, inl (strays, t)) = (
      t.received.last,
      grows_on (length missed.received) 1 (earlier + 1) (omega (arith, missed.all)) old before t.received.last
          (missed_tries missed.received old before missed.are_missed) (up_to before new strays (outcome.answered r) t),
      t.received.over.1.0,
    )
    answered_tries tries old new r (earlier, few, before, missed, inr (same, fails)) = let never : ⊥ = cc in absurd never

    abbrev pub all_tries : (tries : ℕ) (old new : L) (o : Outcome) → AreTried facts Other q tries old o new
        → (events : List (Event (Unit {0}))) × InTurn (Happens facts) old events new
    all_tries tries old new outcome.missed h = let g = missed_tries h.received old new h.are_missed in (g.0, g.1)
    all_tries tries old new (outcome.answered r) h =
        let a = answered_tries tries old new r h in
        (a.1.0 ++ came tt r ∷ [], in_turn-append (Happens facts) a.1.0 (came tt r ∷ []) old a.0 new a.1.1 (new, a.2, refl))
    all_tries tries old new outcome.cut_off (earlier, few, before, missed, inl (strays, t)) =
        let g = grows_on (length missed.received) 1 (earlier + 1) (omega (arith, missed.all)) old before new
        (missed_tries missed.received old before missed.are_missed) (one_try before new strays outcome.cut_off t) in
        (g.0, g.1)
    all_tries tries old new outcome.cut_off (earlier, few, before, missed, inr (is, fails)) =
        let g = missed_tries missed.received old before missed.are_missed in
        (g.0 ++ send_failed tt q ∷ [], in_turn-append (Happens facts) g.0 (send_failed tt q ∷ []) old before new g.1 (new, fails.0, refl))

    -- the datagrams passed to sends in the events of the tries are q, as many times as the tries moved the link (`moved_of`)
    pub sends_of : (tries : ℕ) (some : 0 < tries) (o : Outcome) (old new : L) (h : AreTried facts Other q tries old o new)
        → tried (all_tries tries old new o h).0 ≡ replicate (moved_of facts Other q tries some o old new h).0 q
    unfolding answered_tries grows_on moved_of
    sends_of tries some outcome.missed old new h = (missed_tries h.received old new h.are_missed).2 ∙ ap (λ (n : ℕ). replicate n q) h.all
    sends_of tries some (outcome.answered r) old new (earlier, few, before, missed, inl (strays, t)) =
        let a = answered_tries tries old new r (earlier, few, before, missed, inl (strays, t)) in
        tried-append a.1.0 (came tt r ∷ []) ∙ append-nil (tried a.1.0) ∙ a.1.2
    sends_of tries some (outcome.answered r) old new (earlier, few, before, missed, inr (same, fails)) = let never : ⊥ = cc in absurd never
    sends_of tries some outcome.cut_off old new (earlier, few, before, missed, inl (strays, t)) =
        (grows_on (length missed.received) 1 (earlier + 1) (omega (arith, missed.all)) old before new
        (missed_tries missed.received old before missed.are_missed) (one_try before new strays outcome.cut_off t)).2
    sends_of tries some outcome.cut_off old new (earlier, few, before, missed, inr (is, fails)) =
        let g = missed_tries missed.received old before missed.are_missed in
        tried-append g.0 (send_failed tt q ∷ []) ∙ ap (λ (ds : List (List ℕ)). ds ++ q ∷ []) (g.2 ∙ ap (λ (n : ℕ). replicate n q) missed.all)
        ∙ sym (replicate_next earlier q)

    -- the events of tries, if there are any, begin with a send
    begins_missed : (received : List (List (List ℕ))) (old new : L) (h : InTurn (IsTry facts Other q outcome.missed) old received new)
        → BeginWithSend (missed_tries received old new h).0
    unfolding missed_tries grows_on one_try up_to sent_once
    begins_missed [] old new h = tt
    begins_missed (strays ∷ more) old new h = tt

    pub begins_tries : (tries : ℕ) (old new : L) (o : Outcome) (h : AreTried facts Other q tries old o new) → BeginWithSend (all_tries tries old new o h).0
    unfolding answered_tries missed_tries grows_on one_try up_to sent_once
    begins_tries tries old new outcome.missed h = begins_missed h.received old new h.are_missed
    begins_tries tries old new (outcome.answered r) (earlier, few, before, missed, inl (strays, t)) =
        let m = missed_tries missed.received old before missed.are_missed in
        let u = up_to before new strays (outcome.answered r) t in
        begins_on (m.0 ++ u.0) (came tt r ∷ []) (send_after m.0 u.0 (begins_missed missed.received old before missed.are_missed) tt)
    begins_tries tries old new (outcome.answered r) (earlier, few, before, missed, inr (same, fails)) = let never : ⊥ = cc in absurd never
    begins_tries tries old new outcome.cut_off (earlier, few, before, missed, inl (strays, t)) =
        let m = missed_tries missed.received old before missed.are_missed in
        let u = one_try before new strays outcome.cut_off t in
        begins_of (m.0 ++ u.0) (send_after m.0 u.0 (begins_missed missed.received old before missed.are_missed) tt)
    begins_tries tries old new outcome.cut_off (earlier, few, before, missed, inr (is, fails)) =
        let m = missed_tries missed.received old before missed.are_missed in
        begins_of (m.0 ++ send_failed tt q ∷ []) (send_after m.0 (send_failed tt q ∷ []) (begins_missed missed.received old before missed.are_missed) tt)

-- ---- the agent's turns and the walk's receives, on one network

module _ {N Peer : Type 0} (happens : N → Event Peer → N → Type 0) (carries : N → Happening Peer → N → Type 0)
    (at_end : (old new : N) (e : Event Peer) → happens old e new → carries old (at_agents e) new) where
  turns_carried : (events : List (Event Peer)) (old new : N) → InTurn happens old events new → InTurn carries old (map at_agents events) new
  turns_carried [] old new h = h
  turns_carried (e ∷ events) old new h = (h.0, at_end old h.0 e h.1, turns_carried events h.0 new h.2)

  pub chain_of : (events : List (Event Peer)) (e : Event (Unit {0})) (old between new : N) → InTurn happens old events between
      → carries between (at_walk e) new → InTurn carries old (map at_agents events ++ at_walk e ∷ []) new
  chain_of events e old between new first last = grind (arith, common_steps, in_turn-append, turns_carried)

pub by_some : (got : Option ℕ) (buffer : List ℕ) (P : Event (Unit {0}) → Type 0) → P (event_of_got (Ok got) buffer)
    → IfSome got (λ n. P (came tt (take n buffer)))
by_some None buffer P h = tt
by_some (Some n) buffer P h = h

pub by_none : (got : Option ℕ) (buffer : List ℕ) (P : Event (Unit {0}) → Type 0) → P (event_of_got (Ok got) buffer) → IfNone got (P silence)
by_none None buffer P h = h
by_none (Some n) buffer P h = tt

module _ {Peer : Type 0} where
  walk_of_agents : (events : List (Event Peer)) → of_walk (map at_agents events) ≡ []
  walk_of_agents [] = refl
  walk_of_agents (e ∷ events) = walk_of_agents events

  agents_of_agents : (events : List (Event Peer)) → of_agents (map at_agents events) ≡ events
  agents_of_agents [] = refl
  agents_of_agents (e ∷ events) = ap (λ es. e ∷ es) (agents_of_agents events)

no_turns : {Peer : Type 0} (agent : Agent) → AreTurns {Peer = Peer} agent 0 (record { replies = 0; dropped = 0; idle = 0; faults = 0 }) []
no_turns {Peer} agent = record {
  done = [];
  each = All-nil (λ (u : TurnDone Peer). IsTurn agent u.turn u.events);
  count = refl;
  by_kind = refl;
  in_order = refl;
}

-- the agent had `turns` turns, and then e happened at the walk's end
abbrev pub IsServedThen : {N Peer : Type 0} → (carries : N → Happening Peer → N → Type 0) → Agent → (turns : ℕ) → N → Event (Unit {0}) → N → Type 0
IsServedThen {N} {Peer} carries agent turns old e new =
    (served : Served) × (events : List (Event Peer)) × AreTurns agent turns served events
    × InTurn carries old (map at_agents events ++ at_walk e ∷ []) new

module _ {W N Peer : Type 0} (net : W → N) (agent_at : W → Agent) (carries : N → Happening Peer → N → Type 0) (turn_count : N → ℕ) where
  -- `run` are the events on the network that belong to the event e at the link: the turns of the agent, and e at the walk's end
  record Part (old new : W) (e : Event (Unit {0})) : Type 0 where
    same : agent_at new ≡ agent_at old
    run : List (Happening Peer)
    chain : InTurn carries (net old) run (net new)
    seen : of_walk run ≡ e ∷ []
    turns : ℕ
    served : Served
    are_turns : AreTurns (agent_at old) turns served (of_agents run)

  -- `run` are the events on the network that belong to all these events at the link
  pub record Whole (agents : Agents) (old new : W) (events : List (Event (Unit {0}))) : Type 0 where
    pub run : List (Happening Peer)
    pub chain : InTurn carries (net old) run (net new)
    pub seen : of_walk run ≡ events
    pub served : AreServed agents run

  once : (old new : W) (e : Event (Unit {0})) → (agent_at new ≡ agent_at old) × carries (net old) (at_walk e) (net new) → Part old new e
  once old new e h = record {
    same = h.0;
    run = at_walk e ∷ [];
    chain = (net new, h.1, refl);
    seen = refl;
    turns = 0;
    served = record { replies = 0; dropped = 0; idle = 0; faults = 0 };
    are_turns = no_turns (agent_at old);
  }

  then_part : (old new : W) (e : Event (Unit {0}))
      → (agent_at new ≡ agent_at old) × IsServedThen carries (agent_at old) (turn_count (net old)) (net old) e (net new) → Part old new e
  then_part old new e (same, (served, events, are, chain)) = record {
    same = same;
    run = map at_agents events ++ at_walk e ∷ [];
    chain = chain;
    seen = of_walk-append (map at_agents events) (at_walk e ∷ []) ∙ ap (λ es. es ++ e ∷ []) (walk_of_agents events);
    turns = turn_count (net old);
    served = served;
    are_turns = subst (AreTurns (agent_at old) (turn_count (net old)) served)
        (sym (of_agents-append (map at_agents events) (at_walk e ∷ []) ∙ append-nil (of_agents (map at_agents events)) ∙ agents_of_agents events)) are;
  }

module _ {W N Peer : Type 0} (facts : LinkFacts W) (net : W → N) (agent_at : W → Agent) (carries : N → Happening Peer → N → Type 0)
    (turn_count : N → ℕ)
    (sends : (old new : W) (d : List ℕ) → facts.sends old d new → (agent_at new ≡ agent_at old) × carries (net old) (at_walk (sent tt d)) (net new))
    (fails : (old new : W) (d : List ℕ) → facts.send_fails old d new → (agent_at new ≡ agent_at old)
    × carries (net old) (at_walk (send_failed tt d)) (net new))
    (delivers : (old new : W) (d : List ℕ) → facts.delivers old d new
    → (agent_at new ≡ agent_at old) × IsServedThen carries (agent_at old) (turn_count (net old)) (net old) (came tt d) (net new))
    (silent : (old new : W) → facts.is_silent old new → (agent_at new ≡ agent_at old)
    × IsServedThen carries (agent_at old) (turn_count (net old)) (net old) silence (net new))
    (receives : (old new : W) → facts.receive_fails old new
    → (agent_at new ≡ agent_at old) × IsServedThen carries (agent_at old) (turn_count (net old)) (net old) receive_failed (net new)) where
  part : (old new : W) (e : Event (Unit {0})) → Happens facts old e new → Part net agent_at carries turn_count old new e
  part old new (sent p d) h = once net agent_at carries turn_count old new (sent p d) (sends old new d h)
  part old new (send_failed p d) h = once net agent_at carries turn_count old new (send_failed p d) (fails old new d h)
  part old new (came p d) h = then_part net agent_at carries turn_count old new (came p d) (delivers old new d h)
  part old new silence h = then_part net agent_at carries turn_count old new silence (silent old new h)
  part old new receive_failed h = then_part net agent_at carries turn_count old new receive_failed (receives old new h)

  pub whole : (agents : Agents) (view : MibView) → OneOf agents.tables view → (events : List (Event (Unit {0}))) (old new : W)
      → agent_at old ≡ agent_in agents view → InTurn (Happens facts) old events new → Whole net agent_at carries turn_count agents old new events
  whole agents view one [] old new is h = grind (arith, common_steps)
  whole agents view one (e ∷ events) old new is h =
      let p = part old h.0 e h.1 in
      let w = whole agents view one events h.0 new (p.same ∙ is) h.2 in
      let s : Service Peer = record { view = view; turns = p.turns; served = p.served; events = of_agents p.run } in
      record {
        run = p.run ++ w.run;
        chain = in_turn-append carries p.run w.run (net old) (net h.0) (net new) p.chain w.chain;
        seen = of_walk-append p.run w.run ∙ ap (λ es. es ++ of_walk w.run) p.seen ∙ ap (λ es. e ∷ es) w.seen;
        served = record {
          services = s ∷ w.served.services;
          each = (one, subst (λ (a : Agent). AreTurns a p.turns p.served (of_agents p.run)) is p.are_turns, w.served.each);
          in_turn = of_agents-append p.run w.run ∙ ap (λ es. of_agents p.run ++ es) w.served.in_turn;
        };
      }

-- if each call of a link is a sequence of events on a network (`Part`), then so is all that happened at the link in a walk (`Whole`)
pub all_of : {W N Peer : Type 0} {facts : LinkFacts W} {link after : W} {tries : ℕ} {first : WalkState} {given refused : List VarBind} {end : WalkEnd}
    → (w : IsWalkedOver facts link after tries first given refused end) (net : W → N) (agent_at : W → Agent) (carries : N → Happening Peer → N → Type 0)
    (turn_count : N → ℕ) → ((old new : W) (d : List ℕ) → facts.sends old d new → (agent_at new ≡ agent_at old)
    × carries (net old) (at_walk (sent tt d)) (net new))
    → ((old new : W) (d : List ℕ) → facts.send_fails old d new → (agent_at new ≡ agent_at old) × carries (net old) (at_walk (send_failed tt d)) (net new))
    → ((old new : W) (d : List ℕ) → facts.delivers old d new
    → (agent_at new ≡ agent_at old) × IsServedThen carries (agent_at old) (turn_count (net old)) (net old) (came tt d) (net new))
    → ((old new : W) → facts.is_silent old new → (agent_at new ≡ agent_at old)
    × IsServedThen carries (agent_at old) (turn_count (net old)) (net old) silence (net new))
    → ((old new : W) → facts.receive_fails old new
    → (agent_at new ≡ agent_at old) × IsServedThen carries (agent_at old) (turn_count (net old)) (net old) receive_failed (net new))
    → (agents : Agents) (view : MibView) → OneOf agents.tables view
    → agent_at link ≡ agent_in agents view → Whole net agent_at carries turn_count agents link after w.happened.events
all_of {W} {N} {Peer} {facts} {link} {after} w net agent_at carries turn_count sends fails delivers silent receives agents view one is =
    grind (arith, common_steps, whole)

-- ---- what a network stores

-- a receive of the walk sends nothing
pub got_none : (Peer : Type 0) (result : Result (Option ℕ) LinkFault) (buffer : List ℕ)
    → requests_by {Peer = Peer} (at_walk (event_of_got result buffer)) ≡ []
got_none Peer (Ok (Some n)) buffer = refl
got_none Peer (Ok None) buffer = refl
got_none Peer (Err e) buffer = refl

sent_by_agents : {Peer : Type 0} (events : List (Event Peer)) (e : Event (Unit {0})) → requests_by {Peer = Peer} (at_walk e) ≡ []
    → flat_map requests_by (map at_agents events ++ at_walk e ∷ []) ≡ []
sent_by_agents {Peer} [] e none = append-nil (requests_by {Peer = Peer} (at_walk e)) ∙ none
sent_by_agents {Peer} (f ∷ events) e none = sent_by_agents {Peer = Peer} events e none

module _ {N Peer : Type 0} (carries : N → Happening Peer → N → Type 0) (sent_of : N → List (List ℕ))
    (sending : (old new : N) (e : Happening Peer) → carries old e new → sent_of new ≡ sent_of old ++ requests_by e) where
  all_sent : (run : List (Happening Peer)) (old new : N) → InTurn carries old run new → sent_of new ≡ sent_of old ++ flat_map requests_by run
  all_sent [] old new h = ap sent_of h ∙ sym (append-nil (sent_of old))
  all_sent (e ∷ run) old new h =
      all_sent run h.0 new h.2 ∙ ap (λ (ds : List (List ℕ)). ds ++ flat_map requests_by run) (sending old h.0 e h.1)
      ∙ append_assoc (sent_of old) (requests_by e) (flat_map requests_by run)

  -- what the walk sent is the same after turns of the agent and an event at the walk's end that sends nothing
  pub same_sent : (events : List (Event Peer)) (e : Event (Unit {0})) (old new : N) → requests_by {Peer = Peer} (at_walk e) ≡ []
      → InTurn carries old (map at_agents events ++ at_walk e ∷ []) new → sent_of new ≡ sent_of old
  same_sent events e old new none h =
      all_sent (map at_agents events ++ at_walk e ∷ []) old new h ∙ ap (λ (ds : List (List ℕ)). sent_of old ++ ds) (sent_by_agents {Peer = Peer} events e none)
      ∙ append-nil (sent_of old)

-- if each event preserves `Holds`, and `Holds` holds of a network before some events, it holds of the network after them
pub still_so : {N Peer : Type 0} (carries : N → Happening Peer → N → Type 0) (Holds : N → Type 0)
    → ((old new : N) (e : Happening Peer) → Holds old → carries old e new → Holds new)
    → (run : List (Happening Peer)) (old new : N) → Holds old → InTurn carries old run new → Holds new
still_so carries Holds on [] old new it h = subst Holds (sym h) it
still_so carries Holds on (e ∷ run) old new it h = still_so carries Holds on run h.0 new (on old h.0 e it h.1) h.2

-- if a receive returned what one of the agents replies to the request, or nothing without a reply, then the agents may return that (`Gives`)
pub gives_of : (agents : Agents) (view : MibView) → OneOf agents.tables view → (agent : Agent) → agent ≡ agent_in agents view
    → (request : Option (List ℕ)) (got : Option ℕ) (buffer : List ℕ) → RepliesTo agent request (event_of_got (Ok got) buffer)
    → Gives agents request (received got buffer)
gives_of agents view one agent is request (Some n) buffer h =
    subst (λ (q : Option (List ℕ)). Gives agents q (Some (take n buffer))) (sym h.1) (view, one, subst (λ (a : Agent). IsReply a h.0 (take n buffer)) is h.2)
gives_of agents view one agent is request None buffer (inl none) = subst (λ (q : Option (List ℕ)). Gives agents q None) (sym none) refl
gives_of agents view one agent is request None buffer (inr h) =
    subst (λ (q : Option (List ℕ)). Gives agents q None) (sym h.2)
    (record { view = view; one = one; why = h.1; dropped = subst (λ (a : Agent). IsDropped a h.0 h.1) is h.3 })

-- The events of a run, request by request, and the datagrams passed to sends in them (`read_more`).
use Rattle.std.proofs.lemmas.List.{flat_map_more}
use Rattle.std.proofs.Common.{◌≡◌, ℕ, List, [], ◌∷◌, ◌++◌, refl, sym, ◌∙◌, ap, subst, append_assoc, append-nil}
use Rattle.snmp_agent.specs.Event.{Event}
use Rattle.snmp_wire.specs.{Canon.canon, Message.VarBind}
use Rattle.snmp_walk.specs.{Network.tried, Request.request_of, StepRules.MeansBy, WalkState.WalkState, WalkState.IsWalkState}
use Rattle.snmp_walk.specs.{declared.link.Link.Ghosts as LinkFacts, Link.Outcome}
use Rattle.snmp_walk.specs.Tries.{InTurn, Happens, IsTried, IsNotAwaited}
use Rattle.snmp_walk.specs.Facts.{Reading, AreRead, HasRead, IsAskedLast, IsEndOfRun}
use Rattle.snmp_walk.specs.{declared.end.WalkEnd.WalkEnd}
use Rattle.snmp_walk.specs.Link as outcome
use Rattle.snmp_walk.specs.declared.end.WalkEnd.TheVariants as ending
use Rattle.snmp_walk.specs.declared.rows.Step.TheVariants as step
use Rattle.snmp_walk.proofs.Networks.{tried-append, in_turn-append, all_tries}

module _ {L : Type 0} (facts : LinkFacts L) (tries : ℕ) where
  abbrev pub Tried : WalkState → L → Outcome → L → Type 0
  Tried = IsTried facts tries

  abbrev pub Events : L → L → Type 0
  Events old new = (events : List (Event (Unit {0}))) × InTurn (Happens facts) old events new

  -- the events in the tries of the request of w
  abbrev pub tried_events : (w : WalkState) (old new : L) (o : Outcome) → Tried w old o new → Events old new
  tried_events w old new o h = all_tries facts (canon (request_of w)) (IsNotAwaited w.community w.id) tries old new o h

  -- the events in the tries of all requests that these readings answered
  abbrev pub read_events : (readings : List Reading) (v w : WalkState) (old now : L) → AreRead Tried v old readings w now → Events old now
  read_events [] v w old now h = ([], h.1)
  read_events (r ∷ more) v w old now h =
      let a = tried_events v old h.2 (outcome.answered r.datagram) h.3 in
      let b = read_events more h.1 w h.2 now h.5 in
      (a.0 ++ b.0, in_turn-append (Happens facts) a.0 b.0 old h.2 now a.1 b.1)

  -- `AreRead` holds of these readings, and the datagrams passed to sends in their events are `sent`
  record AreReadBy (sent : List (List ℕ)) (v : WalkState) (old : L) (readings : List Reading) (w : WalkState) (now : L) : Type 0 where
    are : AreRead Tried v old readings w now
    sends : tried (read_events readings v w old now are).0 ≡ sent

  -- if a walk read `readings`, and then the datagram of r as the rows of r, then it read `readings` and r, and their events follow one another
  are_more : (v w x : WalkState) (old now new : L) (readings : List Reading) (r : Reading) (h : AreRead Tried v old readings w now) → IsWalkState w
      → (t : Tried w now (outcome.answered r.datagram) new) → MeansBy w r.datagram (step.Rows r.rows) x
      → AreReadBy (tried (read_events readings v w old now h).0 ++ tried (tried_events w now new (outcome.answered r.datagram) t).0)
      v old (readings ++ r ∷ []) x new
  are_more v w x old now new [] r h good t taken = at_state w h.0 good t taken
    where
      at_link : (l : L) → l ≡ old → IsWalkState v → (t : Tried v l (outcome.answered r.datagram) new) → MeansBy v r.datagram (step.Rows r.rows) x
          → AreReadBy (tried (tried_events v l new (outcome.answered r.datagram) t).0) v old (r ∷ []) x new
      at_link l same = subst (λ (k : L). IsWalkState v → (t : Tried v k (outcome.answered r.datagram) new) → MeansBy v r.datagram (step.Rows r.rows) x
          → AreReadBy (tried (tried_events v k new (outcome.answered r.datagram) t).0) v old (r ∷ []) x new) (sym same)
          (λ good t taken. record {
            are = (good, x, new, t, taken, (refl, refl));
            sends = ap tried (append-nil (tried_events v old new (outcome.answered r.datagram) t).0);
          })

      at_state : (u : WalkState) → u ≡ v → IsWalkState u → (t : Tried u now (outcome.answered r.datagram) new)
          → MeansBy u r.datagram (step.Rows r.rows) x
          → AreReadBy (tried (tried_events u now new (outcome.answered r.datagram) t).0) v old (r ∷ []) x new
      at_state u same = subst (λ (k : WalkState). IsWalkState k → (t : Tried k now (outcome.answered r.datagram) new)
          → MeansBy k r.datagram (step.Rows r.rows) x
          → AreReadBy (tried (tried_events k now new (outcome.answered r.datagram) t).0) v old (r ∷ []) x new) (sym same) (at_link now h.1)
  are_more v w x old now new (s ∷ readings) r h good t taken =
      let m = are_more h.1 w x h.2 now new readings r h.5 good t taken in
      let mine = (tried_events v old h.2 (outcome.answered s.datagram) h.3).0 in
      let earlier = (read_events readings h.1 w h.2 now h.5).0 in
      record {
        are = (h.0, h.1, h.2, h.3, h.4, m.are);
        sends = tried-append mine (read_events (readings ++ r ∷ []) h.1 x h.2 new m.are).0 ∙ ap (λ (ds : List (List ℕ)). tried mine ++ ds) m.sends
            ∙ sym (append_assoc (tried mine) (tried earlier) (tried (tried_events w now new (outcome.answered r.datagram) t).0))
            ∙ ap (λ (ds : List (List ℕ)). ds ++ tried (tried_events w now new (outcome.answered r.datagram) t).0) (sym (tried-append mine earlier));
      }

  -- the events of what was read before the last request
  abbrev pub earlier_events : {first w : WalkState} {old now : L} {given : List VarBind} → HasRead Tried first old w now given → List (Event (Unit {0}))
  earlier_events {first} {w} {old} {now} h = (read_events h.readings first w old now h.are_read).0

  -- `HasRead` holds, and the datagrams passed to sends in the events are `sent`
  pub record HasReadBy (sent : List (List ℕ)) (first : WalkState) (old : L) (w : WalkState) (now : L) (given : List VarBind) : Type 0 where
    pub read : HasRead Tried first old w now given
    pub sends : tried (earlier_events read) ≡ sent

  pub read_more : (first w x : WalkState) (old now new : L) (given rows : List VarBind) (datagram : List ℕ) (sent : List (List ℕ))
      → HasReadBy sent first old w now given → IsWalkState w → (t : Tried w now (outcome.answered datagram) new) → MeansBy w datagram (step.Rows rows) x
      → HasReadBy (sent ++ tried (tried_events w now new (outcome.answered datagram) t).0) first old x new (given ++ rows)
  read_more first w x old now new given rows datagram sent h good t taken =
      let r : Reading = record { datagram = datagram; rows = rows } in
      let m = are_more first w x old now new h.read.readings r h.read.are_read good t taken in
      record {
        read = record {
          readings = h.read.readings ++ r ∷ [];
          rows = ap (λ (g : List VarBind). g ++ rows) h.read.rows ∙ flat_map_more (λ (q : Reading). q.rows) [] h.read.readings r;
          are_read = m.are;
        };
        sends = m.sends ∙ ap (λ (ds : List (List ℕ)). ds ++ tried (tried_events w now new (outcome.answered datagram) t).0) h.sends;
      }

  module _ (first : WalkState) (link after : L) where
    abbrev pub Asked : (WalkState → Type 0) → List VarBind → Outcome → WalkState → List VarBind → Type 0
    Asked Sent rows o w more = IsAskedLast Tried Sent first link rows after o w more

    -- all events of a run, which ended by what came of its last request
    abbrev pub asked_events : (Sent : WalkState → Type 0) (rows : List VarBind) (o : Outcome) (w : WalkState) (more : List VarBind)
        → Asked Sent rows o w more → Events link after
    asked_events Sent rows o w more a =
        let b = read_events a.read.readings first w link a.now a.read.are_read in
        let c = tried_events w a.now after o a.tried in
        (b.0 ++ c.0, in_turn-append (Happens facts) b.0 c.0 link a.now after b.1 c.1)

    module _ (sent : List (List ℕ)) (Sent : WalkState → Type 0) (rows : List VarBind) where
      -- `Asked` holds, and the datagrams passed to sends in the events of the run are `sent`
      pub record AskedBy (o : Outcome) (w : WalkState) (more : List VarBind) : Type 0 where
        pub asked : Asked Sent rows o w more
        pub sends : tried (asked_events Sent rows o w more asked).0 ≡ sent

      -- if an end has its reason with `AskedBy`, it has it with `Asked`
      pub asked_by : (refused : List VarBind) (end : WalkEnd) → IsEndOfRun AskedBy refused end → IsEndOfRun (Asked Sent rows) refused end
      asked_by refused ending.RequestTooLong h = h
      asked_by refused ending.NoResponse h = (h.0, h.1.asked)
      asked_by refused ending.Link h = (h.0, h.1.asked)
      asked_by refused (ending.Sink fault) h = (h.0, h.1, h.2, h.3.asked, h.4, h.5, h.6, h.7, h.8)
      asked_by refused end h = (h.0, h.1, h.2, h.3.asked, h.4, h.5)

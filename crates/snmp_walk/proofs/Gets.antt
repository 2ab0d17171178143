-- What a Get returns over an honest link, and when it is done (`get_facts`, `get_of`).
use Rattle.std.proofs.{lemmas.Grind.common_steps, lemmas.List.length-take}
use Rattle.std.proofs.Common.{◌≡◌, ◌≢◌, ◌⊎◌, inl, inr, ℕ, ℤ, ◌<◌, ◌≤◌, List, [], ◌∷◌, ◌++◌, length, take, refl, sym, ◌∙◌, ap, subst, arith, pos}
use Rattle.std.proofs.Common.{append-nil, Option}
use Rattle.std.specs.Prelude.{Result, Ok, Err, replicate, Some, None}
use Rattle.snmp_walk.specs.{declared.end.LinkFault.LinkFault, private.Codec.Codec, declared.end.SinkFault.SinkFault, declared.end.WalkEnd.WalkEnd}
use Rattle.snmp_walk.specs.{declared.tries.Course.Course, Traffic.Traffic, Traffic.Lost, Facts.IsDone, Facts.IsDoneOrCutOff, Facts.IsDoneOrStopped}
use Rattle.snmp_walk.specs.{private.Course.Heard, private.Course.heard_of, Read.IsReadAs, Read.Tells, Moved.AreFew, Moved.IsMoved, StepRules.IsResponseTo}
use Rattle.snmp_walk.specs.{Network.AreRepliesOf, Network.tried, declared.link.Link.Ghosts as LinkFacts, Responses.IsResponseFrom}
use Rattle.snmp_walk.specs.{Responses.MayRespond, Link.Agents}
use Rattle.snmp_walk.specs.{Link.OneOf, Link.AreLawful, Link.IsReplyFrom, Link.agent_in, Link.Outcome, Tries.AreTried, Tries.Happens, Tries.InTurn}
use Rattle.snmp_walk.specs.{Tries.IsNotAwaited, RunResult.HasHappened, RunResult.but_for_errors, RunResult.IsHonestFrom, RunResult.IsGetTried}
use Rattle.snmp_walk.specs.{RunResult.IsGotOver, RunResult.IsRun}
use Rattle.snmp_wire.specs.{Message.VarBind, Message.Message, Spelling.Spells, Canon.canon, Range.IsMessageInRange}
use Rattle.snmp_agent.specs.{Event.Event, table.Table.MibView, table.Table.IsMibView}
use Rattle.snmp_agent.specs.Reply.{response, got, got_next, unwritten, Fits, IsWhole, IsResponse, whole, shortened, bulk}
use Rattle.snmp_walk.specs.declared.end.WalkEnd.TheVariants as ending
use Rattle.snmp_walk.specs.declared.tries.Course.TheVariants as course
use Rattle.snmp_walk.specs.private.Course as heard
use Rattle.snmp_walk.specs.Get.{get_request, got_step, AreFor, AreGot, MeansToGet, IsDelivered, IsReasonOfGet, HasRoomForGet, IsEndOfGet, IsLostGet}
use Rattle.snmp_walk.specs.Get.{IsTooBig, GetFacts, GotFacts}
use Rattle.std.proofs.Common.{◌+◌, ◌*◌}
use Rattle.snmp_walk.proofs.{Networks.begins_tries, OwnReply.all_lower_more, OwnReply.all_lower_sent}
use Rattle.snmp_walk.specs.{RunResult.AreOfLowerIds}
use Rattle.snmp_walk.proofs.{Members.one_same, Names.no_end, Variables.get_one, Networks.all_tries, Networks.answered_tries, Networks.sends_of}
use Rattle.snmp_walk.proofs.OwnReply.{no_drop, error_or_none, may_be, of_community, own as spelt_own}
use Rattle.snmp_walk.proofs.SortedRows.{view_of, only_one, get_name, get_value}
use Rattle.snmp_walk.proofs.GetEnds.{brought, lost_get, no_set, response_of, IsByReply, IsPrefixOfReply, IsGot, MayEnd, by_reply, for_more}
use Rattle.snmp_walk.proofs.GetEnds.{for_names, for_none, for_nothing, prefix_of_reply}
use Rattle.snmp_walk.proofs.Moves.{Suits, agrees, moved_of, sent_of, tries_as, moves_as, moves_none, nil_prefix}
use Rattle.snmp_walk.specs.Link as outcome
use Rattle.snmp_walk.specs.Responses as sending

-- two lists of the results of Gets of the same names, in one MIB view, are equal
one_got : (view : MibView) → IsMibView view → (names : List (List ℕ)) (a b : List VarBind) → AreGot view names a → AreGot view names b → a ≡ b
one_got view good [] [] [] h k = refl
one_got view good (o ∷ names) (p ∷ a) (q ∷ b) h k = grind (arith, common_steps, one_got view good names a b h.1 k.1, get_one)
one_got view good names a b h k = absurd assumption

-- the results of Gets of the names are bindings for these names
for_got : (view : MibView) → IsMibView view → (names : List (List ℕ)) (bindings : List VarBind) → AreGot view names bindings → AreFor names bindings
for_got view good [] [] h = for_nothing
for_got view good (o ∷ names) (p ∷ bindings) h = grind (arith, common_steps, for_got view good names bindings h.1, for_more, get_name, no_end, get_value)
for_got view good names bindings h = absurd h

unless_silent : (end : WalkEnd) → (end ≡ ending.NoResponse → ⊥) → IsDoneOrCutOff end → IsDoneOrStopped end
unless_silent ending.NoResponse other h = absurd (other refl)
unless_silent _ other h = h

-- m is the reply to the Get's request, in a datagram that answered the request (`Tried`), and over an honest link a Response that one of the agents may send.
abbrev MayBeDelivered : (Tried : Outcome → Type 0) → Agents → (honest : Type 0) → List ℕ → ℕ → List (List ℕ) → Message → Type 0
MayBeDelivered Tried agents honest community id names m = IsResponseTo community id m
    × (honest → (view : MibView) × OneOf agents.tables view × (community ≡ agents.community)
    × MayRespond view agents.max_size (get_request community id names) m) × ((datagram : List ℕ) × Tried (outcome.answered datagram) × Spells m datagram)

-- if `From` implies `Other`, an end that has its reason with `From` has it with `Other`
module _ (Tried : Outcome → Type 0) (From Other : Message → Type 0) (by : (m : Message) → From m → Other m) (names : List (List ℕ))
    (rows refused : List VarBind) where
  reason_by : (end : WalkEnd) → IsReasonOfGet Tried From names rows refused end → IsReasonOfGet Tried Other names rows refused end
  reason_by (ending.Done count) r = (r.0, by r.0 r.1, r.2, r.3)
  reason_by (ending.Sink fault) r = (r.0, r.1, r.2, by r.0 r.3, r.4, r.5)
  reason_by ending.NoResponse r = r
  reason_by ending.RequestTooLong r = r
  reason_by ending.Link r = r
  reason_by end r = (r.0, by r.0 r.1, r.2, r.3)

module _ (agents : Agents) (lawful : AreLawful agents) (community : List ℕ) (id : ℕ) (names : List (List ℕ)) where
  abbrev Request : Message
  Request = get_request community id names

  good_view : (view : MibView) → OneOf agents.tables view → IsMibView view
  good_view view one = view_of agents.tables lawful.views view one

  -- m is the Response with the results of Gets of the names
  abbrev GivesAll : MibView → Message → Type 0
  GivesAll view m = (all : List VarBind) × AreGot view names all × (m ≡ response Request (pos 0) (pos 0) all)

  from_whole : (view : MibView) (m : Message) → IsWhole view Request m → GivesAll view m
  from_whole view m (got bindings k answers e) = (bindings, answers, e)
  from_whole view m (got_next bindings k answers e) = let no : ⊥ = cc in absurd no
  from_whole view m (unwritten k e) = let no : ⊥ = cc in absurd no

  -- m is tooBig, and the Response with the results of Gets of the names doesn't fit
  abbrev IsBigReply : MibView → Message → Type 0
  IsBigReply view m = (m ≡ response Request (pos 1) (pos 0) []) × ((all : List VarBind) × AreGot view names all
      × (Fits agents.max_size (response Request (pos 0) (pos 0) all) → ⊥))

  from_response : (view : MibView) (m : Message) → MayRespond view agents.max_size Request m → GivesAll view m ⊎ IsBigReply view m
  from_response view m (sending.whole is) = inl (from_whole view m is)
  from_response view m (sending.shortened large is no_fit e) = grind (arith, common_steps, from_whole)
  from_response view m (sending.bulk asked bindings k singles one chain few none e) = let no : ⊥ = cc in absurd no

  -- the Responses of `snmp_agent` are among those that agents may send
  may_respond : (view : MibView) (m : Message) → IsResponse view agents.max_size Request m → MayRespond view agents.max_size Request m
  may_respond view m (whole is fits) = sending.whole is
  may_respond view m (shortened large is no_fit e) = sending.shortened large is no_fit e
  may_respond view m (bulk all bindings k asked longest e) = let no : ⊥ = cc in absurd no

  -- a reply without an error has the results of Gets of the names
  brought_all : (view : MibView) (m : Message) → MayRespond view agents.max_size Request m → m.a ≡ pos 0 → AreGot view names m.bindings
  brought_all view m is status = grind (arith, common_steps, from_response)

  brought_end : (view : MibView) → OneOf agents.tables view → (m : Message) → MayRespond view agents.max_size Request m → (end : WalkEnd)
      → MeansToGet names m (Err end) → (end ≡ ending.Fault (pos 1) (pos 0)) × IsBigReply view m
  brought_end view one m is end means = grind (arith, common_steps, from_response, for_got, good_view)

  response_fits : HasRoomForGet agents Request names → (view : MibView) → OneOf agents.tables view → (m : Message)
      → IsResponse view agents.max_size Request m → Fits agents.max_size m
  response_fits room view one m (whole is fits) = fits
  response_fits room view one m (shortened large is no_fit e) =
      let all = from_whole view large is in
      absurd (no_fit (subst (Fits agents.max_size) (sym all.2) (room.response_fits view all.0 one all.1)))
  response_fits room view one m (bulk all bindings k asked longest e) = let no : ⊥ = cc in absurd no

  -- the agents have one table, and `all` are the results of Gets of the names in it
  module _ (view : MibView) (all : List VarBind) (one_view : agents.tables ≡ view ∷ []) (are : AreGot view names all) where
    one_good : IsMibView view
    one_good = good_view view (subst (λ (tables : List MibView). OneOf tables view) (sym one_view) (inl refl))

    same_rows : (v : MibView) → OneOf agents.tables v → (rows : List VarBind) → AreGot v names rows → rows ≡ all
    same_rows v one rows h =
        one_got view one_good names rows all (subst (λ (w : MibView). AreGot w names rows) (only_one view v agents.tables one_view one) h) are

  -- a Get over an honest link ended with `end`, after the sink took `rows` and perhaps refused one more
  module _ (honest : Type 0) (is_honest : honest) (Tried : Outcome → Type 0) (rows refused : List VarBind) (end : WalkEnd) where
    abbrev Brought : Message → Type 0
    Brought = MayBeDelivered Tried agents honest community id names

    abbrev HasLawfulEnd : WalkEnd → Type 0
    HasLawfulEnd why = IsEndOfGet (IsTooBig agents Request names) ⊥ (Unit {0}) Request names why
        × (HasRoomForGet agents Request names → IsDoneOrCutOff why)

    end_of : (why : WalkEnd) → IsReasonOfGet Tried Brought names rows refused why → MayEnd Request names why → HasLawfulEnd why
    end_of (ending.Done count) r may = (may, λ room. tt)
    end_of (ending.Sink fault) r may = (tt, λ room. tt)
    end_of ending.Link r may = (tt, λ room. tt)
    end_of ending.NoResponse r may = (tt, λ room. tt)
    end_of ending.RequestTooLong r may = (may, λ room. absurd (omega (arith, may, room.request_fits)))
    end_of why r may =
        let from = r.1.1 is_honest in
        let big = brought_end from.0 from.1 r.0 from.3 why r.2 in
        subst HasLawfulEnd (sym big.0) (
          record { too_big = refl; no_index = refl; view = from.0; one = from.1; all = big.1.1.0; got = big.1.1.1; no_room = big.1.1.2 },
          λ room. absurd (big.1.1.2 (room.response_fits from.0 big.1.1.0 from.1 big.1.1.1)),
        )

    -- if `rows` and `refused` are a prefix of a reply's bindings (`IsPrefixOfReply`), then with one table they are a prefix of the results `all`, and `rows`
    -- are all of these if the Get is done
    given_prefix : IsPrefixOfReply names Tried Brought rows refused end → (view : MibView) (all : List VarBind) → agents.tables ≡ view ∷ []
        → AreGot view names all
        → ((more : List VarBind) × (all ≡ (rows ++ refused) ++ more)) × (IsDone end → rows ≡ all)
    given_prefix (inl h) view all one_view are =
        let from = h.2.1 is_honest in
        let got_so = subst (AreGot from.0 names) (sym h.3.2) (brought_all from.0 h.0 from.3 h.3.0) in
        let same = same_rows view all one_view are from.0 from.1 ((rows ++ refused) ++ h.1) got_so in
        ((h.1, sym same), λ done. simp ((h.4 done).0, (h.4 done).1, append-nil) at same)
    given_prefix (inr h) view all one_view are = ((all, ap (λ (s : List VarBind). s ++ all) (sym h.0)), λ done. absurd (h.1 done))

    pub got_facts : IsReasonOfGet Tried Brought names rows refused end → MayEnd Request names end → GotFacts agents Request names rows refused end
    got_facts r may =
        let prefix = given_prefix (prefix_of_reply names Tried Brought rows refused end r) in
        let lawful_end = end_of end r may in record {
          beginning = λ view all one_view are. (prefix view all one_view are).0;
          all_at_done = λ view all one_view are. (prefix view all one_view are).1;
          ends = lawful_end.0;
          done_unless_lost = lawful_end.1;
        }

  module _ (codec : Codec) (own : length (canon Request) ≤ 65507 → Spells Request (canon Request)) (tries : ℕ) (some : 0 < tries) (old new : Traffic) where
    -- if there is room and no deliveries were ahead, the reply isn't lost
    never_lost : HasRoomForGet agents Request names → old.ahead ≡ [] → IsLostGet agents tries old (canon Request) new → ⊥
    never_lost room none lost = elim lost.lost [
      | inl u ↦ no_drop codec Request (own room.request_fits) refl (agent_in agents u.view) room.community tt (response_fits room u.view u.one) u.why u.dropped
      | inr h ↦
          let lost_none : Lost agents (old.sent ++ canon Request ∷ []) (canon Request) [] tries 0 =
          subst (λ (used : List (Option ℕ)). Lost agents (old.sent ++ canon Request ∷ []) (canon Request) used tries 0)
          (nil_prefix h.0 new.ahead (sym none ∙ h.1)) h.2 in
          omega (arith, some, lost_none)
    ]

    pub get_facts : (honest : Type 0) → honest → (Tried : Outcome → Type 0) (rows refused : List VarBind) (end : WalkEnd)
        → (end ≡ ending.NoResponse → IsLostGet agents tries old (canon Request) new)
        → IsReasonOfGet Tried (IsDelivered Tried agents honest community id names) names rows refused end → MayEnd Request names end
        → GetFacts agents tries old Request names rows refused end new
    get_facts honest is_honest Tried rows refused end lost r may =
        let sent = reason_by Tried (IsDelivered Tried agents honest community id names) (MayBeDelivered Tried agents honest community id names)
        (λ m b. (b.0, λ h. let from = b.1 h in (from.0, from.1, from.2, may_respond from.0 m from.3), b.2)) names rows refused end r in
        let given = got_facts honest is_honest Tried rows refused end sent may in record {
          given = given;
          lost_without_response = lost;
          done_unless_stopped = λ room ahead. unless_silent end (λ silent. never_lost room ahead (lost silent)) (given.done_unless_lost room);
        }

-- ---- the events at the link

-- tries of the request changed the link, as `IsGotOver` says
abbrev HasMoved : {W : Type 0} → LinkFacts W → (link : W) → (tries : ℕ) → (community : List ℕ) → (id : ℕ) → (names : List (List ℕ)) → (after : W)
    → WalkEnd → Type 0
HasMoved {W} facts link tries community id names after end = (times : ℕ) × (times ≤ tries)
    × (names ≢ [] → end ≢ ending.RequestTooLong → 0 < times) × (receives : ℕ)
    × IsMoved facts link (replicate times (canon (get_request community id names))) receives (end ≡ ending.Link) after
    × AreFew facts link receives after × (receives ≤ 64 * times)

-- the Get ended as `HasHappened` says, its tries changed the link as `HasMoved` says, and the events have the sends of these tries
pub record HasEnded {W : Type 0} (facts : LinkFacts W) (link : W) (tries : ℕ) (community : List ℕ) (id : ℕ) (names : List (List ℕ)) (after : W)
    (rows refused : List VarBind) (end : WalkEnd) : Type 0 where
  pub happened : HasHappened facts link after end (λ agents why. GotFacts agents (get_request community id names) names rows refused why)
  pub moved : HasMoved facts link tries community id names after end
  pub sends : tried happened.events ≡ replicate moved.0 (canon (get_request community id names))

module _ {W : Type 0} (codec : Codec) (facts : LinkFacts W) (link after : W) (tries : ℕ) (community : List ℕ) (id : ℕ) (names : List (List ℕ))
    (ranged : IsMessageInRange (get_request community id names)) (some : 0 < tries) where
  abbrev Was : Outcome → Type 0
  Was what = IsGetTried facts link after tries community id names what

  abbrev q : List ℕ
  q = canon (get_request community id names)

  abbrev tried_events : (what : Outcome) → Was what → (events : List (Event (Unit {0}))) × InTurn (Happens facts) link events after
  tried_events what h = all_tries facts q (IsNotAwaited community id) tries link after what h

  -- in a run of a Get, only its request is sent, so that each reply of the agents is a reply to it
  module _ (agents : Agents) (good : AreLawful agents) where
    abbrev IsFromThese : Message → Type 0
    IsFromThese m = MayBeDelivered Was agents (Unit {0}) community id names m

    from_agents : (Sort : Message → Type 0) (m : Message) (d : List ℕ) → IsResponseTo community id m → Spells m d → (h : Was (outcome.answered d))
        → AreRepliesOf Sort agents (tried_events (outcome.answered d) h).0 → Sort m → IsFromThese m
    from_agents Sort m d response spelt h replies sorted =
        let a = answered_tries facts q (IsNotAwaited community id) tries link after d h in
        let sent_it = replies a.1.0 [] tt d refl m spelt sorted in
        let reply = subst (λ (x : List ℕ). IsReplyFrom agents x d ⊎ IsResponseFrom agents x m)
        (one_same (h.0 + 1) q sent_it.0 (subst (λ (ds : List (List ℕ)). OneOf ds sent_it.0) a.1.2 sent_it.1)) sent_it.2 in (
          response,
          (λ _. elim reply [
            | inl own ↦
                let from = response_of codec community id names ranged agents good m d spelt own in
                (from.0, from.1, from.2, may_respond agents good community id names from.0 m from.3)
            | inr other ↦ (
              other.view,
              other.one,
              of_community codec (get_request community id names) ranged no_set agents m other,
              may_be codec (get_request community id names) ranged no_set agents m other,
            )
          ]),
          (d, h, spelt),
        )

  module _ (rows refused : List VarBind) where
    abbrev Known : WalkEnd → Type 0
    Known end = HasEnded facts link tries community id names after rows refused end

    -- an error status ended the Get, and nothing was passed to the sink
    abbrev IsFailed : WalkEnd → Type 0
    IsFailed end = (rows ++ refused ≡ []) × ((status index : ℤ) × (end ≡ ending.Fault status index))

    abbrev HasReason : List (Event (Unit {0})) → WalkEnd → Type 1
    HasReason all end = (agents : Agents) (good : AreLawful agents) (Sort : Message → Type 0) (Errors : Type 0)
        → ((m : Message) → Sort m ⊎ (Errors × (m.a ≢ pos 0))) → AreRepliesOf Sort agents all
        → IsReasonOfGet Was (IsFromThese agents good) names rows refused end ⊎ (Errors × IsFailed end)

    known : (end : WalkEnd) (what : Outcome) → Suits what end → (h : Was what) → MayEnd (get_request community id names) names end
        → HasReason (tried_events what h).0 end → Known end
    known end what suits h may reason =
        let e = tried_events what h in
        let a = agrees what end suits in
        let m = tries_as facts (IsNotAwaited community id) q a.0 a.1 (moved_of facts (IsNotAwaited community id) q tries some what link after h) in
        record {
          happened = record {
            events = e.0;
            in_turn = e.1;
            begins = begins_tries facts q (IsNotAwaited community id) tries link after what h;
            replied = λ agents good replies. elim (reason agents good (λ m. Unit {0}) ⊥ (λ m. inl tt) replies) [
              | inl why ↦ got_facts agents good community id names (Unit {0}) tt Was rows refused end why may
              | inr none ↦ absurd none.0
            ];
            replied_or_failed = λ agents good replies. elim (reason agents good (λ m. m.a ≡ pos 0) (Unit {0}) error_or_none replies) [
              | inl why ↦ got_but agents end (got_facts agents good community id names (Unit {0}) tt Was rows refused end why may)
              | inr failed ↦ subst (λ (x : WalkEnd). GotFacts agents (get_request community id names) names rows refused (but_for_errors x))
                  (sym failed.1.1.2) (got_facts agents good community id names (Unit {0}) tt (λ what. Unit {0}) rows refused ending.Link (tt, failed.1.0) tt)
            ];
          };
          moved = (m.0, m.1, (λ _ _. m.2), m.3, m.4, m.5, m.6);
          sends = sends_of facts q (IsNotAwaited community id) tries some what link after h;
        }
      where
        got_but : (agents : Agents) (end : WalkEnd) → GotFacts agents (get_request community id names) names rows refused end
            → GotFacts agents (get_request community id names) names rows refused (but_for_errors end)
        got_but agents (ending.Fault status index) g = record {
          beginning = g.beginning;
          all_at_done = λ view all one are done. absurd done;
          ends = tt;
          done_unless_lost = λ room. tt;
        }
        got_but agents end g = g

    module _ (other : Agents) (honest : Type 0) where
      pub happened_by : (end : WalkEnd) → IsReasonOfGet Was (IsDelivered Was other honest community id names) names rows refused end
          → MayEnd (get_request community id names) names end
          → (end ≡ ending.RequestTooLong → ⊥) → Known end
      happened_by (ending.Sink fault) r may short =
          let from = r.3 in
          known (ending.Sink fault) (outcome.answered from.2.0) ((λ e. cc), λ e. cc) from.2.1 may
          (λ agents good Sort Errors sort replies. elim (sort r.0) [
            | inl sorted ↦ inl (r.0, r.1, r.2, from_agents agents good Sort r.0 from.2.0 from.0 from.2.2 from.2.1 replies sorted, r.4, r.5)
            | inr error ↦ absurd (error.1 r.4.0)
          ])
      happened_by (ending.Done count) r may short =
          let from = r.1 in
          known (ending.Done count) (outcome.answered from.2.0) ((λ e. cc), λ e. cc) from.2.1 may
          (λ agents good Sort Errors sort replies. elim (sort r.0) [
            | inl sorted ↦ inl (r.0, from_agents agents good Sort r.0 from.2.0 from.0 from.2.2 from.2.1 replies sorted, r.2, r.3)
            | inr error ↦ absurd (error.1 r.2.0)
          ])
      happened_by ending.NoResponse r may short = known ending.NoResponse outcome.missed refl r.0 may (λ agents good Sort Errors sort replies. inl r)
      happened_by ending.Link r may short = known ending.Link outcome.cut_off refl r.0 may (λ agents good Sort Errors sort replies. inl r)
      happened_by ending.RequestTooLong none may short = absurd (short refl)
      happened_by end r may short =
          let from = r.1 in
          known end (outcome.answered from.2.0) ((λ e. cc), λ e. cc) from.2.1 may
          (λ agents good Sort Errors sort replies. elim (sort r.0) [
            | inl sorted ↦ inl (r.0, from_agents agents good Sort r.0 from.2.0 from.0 from.2.2 from.2.1 replies sorted, r.2, r.3)
            | inr error ↦ elim r.2 [
              | inl fault ↦ inr (error.0, (r.3, (r.0.a, r.0.b, fault.1)))
              | inr bad ↦ absurd (error.1 bad.0)
            ]
          ])

-- ---- a Get over a link

none_got : (view : MibView) (names : List (List ℕ)) (all : List VarBind) → names ≡ [] → AreGot view names all → all ≡ []
none_got view [] [] e are = refl
none_got view [] (p ∷ all) e are = absurd are
none_got view (o ∷ names) all e are = let no : ⊥ = cc in absurd no

module _ {W S : Type 0} (facts : LinkFacts W) (link : W) (tries : ℕ) (community : List ℕ) (id : ℕ) (names : List (List ℕ))
    (takes : S → VarBind → Result (Unit {0}) SinkFault → S → Type 0) (before : S) where
  abbrev Asked : Message
  Asked = get_request community id names

  abbrev Tried : W → Outcome → Type 0
  Tried after = IsGetTried facts link after tries community id names

  abbrev From : W → Message → Type 0
  From after m = IsDelivered (Tried after) (facts.agents link) (IsHonestFrom facts id link) community id names m

  abbrev Sent : W → WalkEnd → Type 0
  Sent after end = facts.records link → (times : ℕ) × (times ≤ tries)
      × ((facts.traffic after).sent ≡ (facts.traffic link).sent ++ replicate times (canon Asked)) × (end ≡ ending.NoResponse → times ≡ tries)
      × (names ≢ [] → end ≢ ending.RequestTooLong → end ≢ ending.Link → 0 < times)

  abbrev pub IsGotSo : W → S → WalkEnd → Type 0
  IsGotSo after sunk end = IsGot takes Asked names (Tried after) (From after) before sunk end

  abbrev IsOver : W → S → WalkEnd → Type 0
  IsOver after sunk end = IsRun takes before end sunk (λ given refused. IsGotOver facts link after tries community id names given refused end)

  -- how the Get ended, by what `exchange` returned; it never continues
  abbrev pub IsGetTurn : W → S → WalkEnd → Result (Option Course) LinkFault → Type 0
  IsGetTurn after sunk end (Ok (Some course.GoesOn)) = ⊥
  IsGetTurn after sunk end (Ok (Some course.Ends)) = IsOver after sunk end
  IsGetTurn after sunk end (Ok None) = IsOver after sunk ending.NoResponse
  IsGetTurn after sunk end (Err e) = IsOver after sunk ending.Link

  -- if a Get has no names or its request is too long, and it doesn't end with `NoResponse`, then `Sent` holds with nothing sent
  sent_none : (end : WalkEnd) → (end ≡ ending.NoResponse → ⊥) → (names ≢ [] → end ≢ ending.RequestTooLong → ⊥) → Sent link end
  sent_none end heard unsent keeps = grind (arith, common_steps, append-nil)

  abbrev moved_none : (end : WalkEnd) → (end ≡ ending.Link → ⊥) → (names ≢ [] → end ≢ ending.RequestTooLong → ⊥)
      → HasMoved facts link tries community id names link end
  moved_none end fine unsent = (
    0,
    omega arith,
    (λ named fits. absurd (unsent named fits)),
    0,
    moves_as facts (omega arith) (λ f. absurd f) fine (moves_none facts link),
    (λ keeps. omega arith),
    omega arith,
  )

  -- if there are no names, `GotFacts` holds of a Get that is done and returned nothing
  nothing_got : (agents : Agents) → names ≡ [] → GotFacts agents Asked names [] [] (ending.Done 0)
  nothing_got agents none = grind (arith, common_steps, none_got)

  pub got_none : names ≡ [] → IsOver link before (ending.Done 0)
  got_none none = record {
    rows = [];
    refused = [];
    took = (refl, refl);
    facts = record {
      named = for_none Asked names none;
      reason = λ some. absurd (some none);
      unasked = λ _. refl;
      sent = sent_none (ending.Done 0) (λ silent. cc) (λ some. absurd (some none));
      judged = λ fresh. record {
        given = nothing_got (facts.agents link) none;
        lost_without_response = λ silent. let no : ⊥ = cc in absurd no;
        done_unless_stopped = λ room ahead. tt;
      };
      moved = moved_none (ending.Done 0) (λ e. cc) (λ some. absurd (some none));
      later = λ k. all_lower_more (facts.traffic link).sent id (id + 1) (omega arith);
      happened = record {
        events = [];
        in_turn = refl;
        begins = tt;
        replied = λ agents good replies. nothing_got agents none;
        replied_or_failed = λ agents good replies. nothing_got agents none;
      };
      sends = refl;
    };
  }

  module _ (codec : Codec) (lawful : facts.honest link → AreLawful (facts.agents link)) (some : 0 < tries) (named : names ≢ []) where
    got_over : (length (canon Asked) ≤ 65507 → Spells Asked (canon Asked)) → (after : W) (sunk : S) (end : WalkEnd) → (g : IsGotSo after sunk end)
        → HasEnded facts link tries community id names after g.rows g.refused end
        → (end ≡ ending.NoResponse → IsHonestFrom facts id link → IsLostGet (facts.agents link) tries (facts.traffic link) (canon Asked) (facts.traffic after))
        → (65507 < length (canon Asked) → end ≡ ending.RequestTooLong) → (end ≡ ending.RequestTooLong → after ≡ link) → Sent after end
        → (facts.records link → AreOfLowerIds (facts.traffic link).sent id → AreOfLowerIds (facts.traffic after).sent (id + 1)) → IsOver after sunk end
    got_over spells after sunk end g known lost long unasked sent later = record {
      rows = g.rows;
      refused = g.refused;
      took = g.took;
      facts = record {
        named = for_names names (Tried after) (From after) g.rows g.refused Asked end
            (prefix_of_reply names (Tried after) (From after) g.rows g.refused end g.reason) g.ends named long;
        reason = λ _. g.reason;
        unasked = elim [ inl none ↦ absurd (named none) | inr too_long ↦ unasked too_long ];
        sent = sent;
        judged = λ fresh. get_facts (facts.agents link) (lawful fresh.0) community id names codec spells tries some (facts.traffic link) (facts.traffic after)
            (IsHonestFrom facts id link) fresh (Tried after) g.rows g.refused end (λ silent. lost silent fresh) g.reason g.ends;
        moved = known.moved;
        later = later;
        happened = known.happened;
        sends = known.sends;
      };
    }

    -- if the request is longer than a datagram, then the Get ends with `RequestTooLong` and leaves the link as it was
    pub got_too_long : 65507 < length (canon Asked) → IsOver link before ending.RequestTooLong
    got_too_long long =
        got_over (λ fits. absurd (omega (arith, fits, long))) link before ending.RequestTooLong
        (record { rows = []; refused = []; took = (refl, refl); reason = refl; ends = long })
        (record {
          happened = record {
            events = [];
            in_turn = refl;
            begins = tt;
            replied = λ agents good replies. too_long agents good;
            replied_or_failed = λ agents good replies. too_long agents good;
          };
          moved = moved_none ending.RequestTooLong (λ e. cc) (λ _ fits. fits refl);
          sends = refl;
        })
        (λ silent. let no : ⊥ = cc in absurd no) (λ _. refl)
        (λ _. refl) (sent_none ending.RequestTooLong (λ silent. cc) (λ _ fits. fits refl))
        (λ k. all_lower_more (facts.traffic link).sent id (id + 1) (omega arith))
      where
        too_long : (agents : Agents) → AreLawful agents → GotFacts agents Asked names [] [] ending.RequestTooLong
        too_long agents good = got_facts agents good community id names (Unit {0}) tt (Tried link) [] [] ending.RequestTooLong refl long

    -- an exchange of the request that was written ends the Get
    module _ (recording : (l : W) → facts.honest l → facts.records l) (ranged : IsMessageInRange Asked) (n : ℕ) (octets : List ℕ) (few : n ≤ 65507)
        (is : take n octets ≡ canon Asked) (after : W) where
      got_asked : (what : Outcome) → Tried after what → (sunk : S) (end : WalkEnd) → Suits what end → (end ≡ ending.RequestTooLong → ⊥)
          → IsGotSo after sunk end
          → IsOver after sunk end
      got_asked what tried sunk end suits short g =
          let a = agrees what end suits in
          let x = sent_of facts (IsNotAwaited community id) (canon Asked) tries some what link after tried in
          got_over (λ _. spelt_own codec Asked ranged no_set) after sunk end g
          (happened_by codec facts link after tries community id names ranged some g.rows g.refused (facts.agents link)
          (IsHonestFrom facts id link) end g.reason g.ends short)
          (λ silent fresh.
          let none = a.2 silent in
          let y = x (recording link fresh.0) in
          lost_get codec community id names ranged facts recording link after tries lawful (subst (Tried after) none tried) fresh
          (y.2 ∙ ap (λ (n : ℕ). (facts.traffic link).sent ++ replicate n (canon Asked)) (y.4 none)))
          (λ long. absurd (omega (arith, long, ap length is, few, length-take n octets))) (λ long. absurd (short long))
          (λ keeps. let y = x keeps in (y.0, y.1, y.2, (λ silent. y.4 (a.2 silent)), λ _ sent fine. y.3 (λ cut. fine (a.0 cut))))
          (λ k low.
          let y = x k in
          all_lower_sent Asked ranged no_set id (id + 1) refl (omega arith) (facts.traffic link).sent (facts.traffic after).sent y.0 y.2
          (all_lower_more (facts.traffic link).sent id (id + 1) (omega arith) low))

      -- the reply d was read, and its bindings were passed to the sink
      abbrev IsReadSo : {V : Type 0} → V → S → List ℕ → Heard → Type 0
      IsReadSo {V} new sunk d what = IsReadAs d community id (λ m given (_ : V). given ≡ got_step names m) takes before new sunk what

      pub get_of : {V : Type 0} (new : V) (same : Type 0) (sunk : S) (end : WalkEnd) (what : Outcome)
          → AreTried facts (IsNotAwaited community id) (take n octets) tries link what after → (result other : Result (Option Course) LinkFault)
          → Tells (λ d course. IsReadSo new sunk d (heard_of course end)) (same × (sunk ≡ before)) result what → result ≡ other
          → IsGetTurn after sunk end other
      get_of {V} new same sunk end what h result other reported result_is = subst (IsGetTurn after sunk end) result_is (by_result result reported)
        where
          came : (o : Outcome) → what ≡ o → Tried after o
          came o e = subst (Tried after) e (subst (λ (x : List ℕ). AreTried facts (IsNotAwaited community id) x tries link what after) is h)

          read_so : (d : List ℕ) (how : Heard) → what ≡ outcome.answered d → IsReadSo new sunk d how → (why : WalkEnd) × (how ≡ heard.ends why)
              × IsOver after sunk why
          read_so d how e r =
              let tried = came (outcome.answered d) e in
              let b = by_reply takes Asked names (Tried after) (From after) before sunk r.message
              (brought codec community id names ranged facts recording link after tries lawful r.message d tried r.spelt r.awaited) r.given how r.read
              r.delivered in (
                b.0,
                b.1,
                got_asked (outcome.answered d) tried sunk b.0 ((λ x. subst IsByReply x b.2), λ x. subst IsByReply x b.2)
                    (λ x. subst IsByReply x b.2) b.3,
              )

          by_result : (x : Result (Option Course) LinkFault) → Tells (λ d course. IsReadSo new sunk d (heard_of course end)) (same × (sunk ≡ before)) x what
              → IsGetTurn after sunk end x
          by_result (Ok (Some course.GoesOn)) t = let e = (read_so t.0 heard.goes_on t.1 t.2).1 in cc
          by_result (Ok (Some course.Ends)) t =
              let b = read_so t.0 (heard.ends end) t.1 t.2 in
              let e = b.1 in
              let same_end : b.0 ≡ end = cc in
              subst (IsOver after sunk) same_end b.2
          by_result (Ok None) t =
              got_asked outcome.missed (came outcome.missed t.0) sunk ending.NoResponse refl (λ e. cc)
              (record { rows = []; refused = []; took = (t.1.1, refl); reason = (came outcome.missed t.0, refl); ends = tt })
          by_result (Err e) t =
              got_asked outcome.cut_off (came outcome.cut_off t.0) sunk ending.Link refl (λ e. cc)
              (record { rows = []; refused = []; took = (t.1.1, refl); reason = (came outcome.cut_off t.0, refl); ends = tt })

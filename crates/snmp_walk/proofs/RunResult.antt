-- The loop of `run_walk`: its invariant `Runs` holds at the start (`runs_first`), and each request preserves it or ends the run with what the contract says
-- (`turn_of`).
use Rattle.std.proofs.{lemmas.Grind.common_steps, lemmas.Bool.and_from, lemmas.Bool.false≢true}
use Rattle.std.proofs.Common.{◌≡◌, inl, inr, ℕ, ◌+◌, ◌^◌, ◌<◌, List, [], ◌∷◌, ◌++◌, refl, sym, ◌∙◌, ap, true, false, subst, arith, append-nil}
use Rattle.std.proofs.Common.{append_assoc, Option, Some, None, replicate}
use Rattle.std.specs.Prelude.{◌≢◌, not, Result, Ok, Err}
use Rattle.snmp_wire.specs.{Canon.canon, Message.VarBind, Message.Message, Spelling.Spells}
use Rattle.std.proofs.Common.{length-append}
use Rattle.snmp_walk.specs.declared.mode.Phase.TheVariants as phase
use Rattle.snmp_walk.specs.{declared.end.WalkEnd.WalkEnd, declared.end.SinkFault.SinkFault, declared.rows.Step.Step, WalkState.WalkState, WalkState.IsWalkState}
use Rattle.snmp_walk.specs.{Request.request_of, private.ComputedStep.awaits, private.ComputedStep.is_over, private.ComputedStep.take_of}
use Rattle.snmp_walk.specs.{Link.Agents}
use Rattle.snmp_walk.specs.{Link.AreLawful, Link.IsNextFrom, Link.IsGotFrom, Link.IsTooLarge, Link.Outcome, Sink.TakesAll, Sink.Took}
use Rattle.snmp_walk.specs.{Network.tried, Run.Try, Run.sent_by}
use Rattle.snmp_walk.specs.{Run.IsFullReply, Read.rows_in, Read.Delivers, Read.IsReadAs, Read.Tells, Read.all_taken, Read.is_refused}
use Rattle.snmp_walk.specs.{private.Course.Heard, private.Course.heard_of, declared.tries.Course.Course, declared.end.LinkFault.LinkFault}
use Rattle.snmp_walk.specs.{private.OwnReply.IsEarlier, private.Codec.Codec, declared.link.Link.Ghosts as LinkFacts, Moved.IsMovedByTries, RunResult.IsRun}
use Rattle.snmp_walk.specs.{RunResult.IsWalkedOver, RunResult.AreOfLowerIds, RunResult.IsHonestFrom, Tries.AreTried, Tries.IsNotAwaited, Tries.IsTried}
use Rattle.snmp_walk.specs.declared.end.WalkEnd.TheVariants as ending
use Rattle.snmp_walk.specs.declared.rows.Step.TheVariants as step
use Rattle.snmp_walk.specs.Progress.{IsPartOfWalk, Reaches, Ends, Advances, Increases, Named, IsReplyEnd, CountsAll, AdvancesAnyhow, IsReplyTo}
use Rattle.snmp_walk.specs.Link as outcome
use Rattle.snmp_walk.specs.declared.tries.Course.TheVariants as course
use Rattle.snmp_walk.specs.private.Course as heard
use Rattle.snmp_walk.specs.Facts.{IsFresh, IsLastSent, DeliversNoRows, IsReadSo, IsEndedBy, IsLawfulEnd}
use Rattle.snmp_walk.specs.Facts.{HasNoReply, IsEndOfRun, IsReadyForAll}
use Rattle.snmp_walk.proofs.{StepRules.means_by, StepRules.response_to_decided, SortedRows.views_answer, EnoughRoom.few_in}
use Rattle.snmp_walk.proofs.{EnoughRoom.gets_one, EnoughRoom.HasFew, Lost.lost_of, OwnReply.asked_of, OwnReply.from_of}
use Rattle.snmp_walk.proofs.{RequestParts.request_short, SortedRows.AreLawfulReplies, ComputedStep.EndsEmpty, ComputedStep.ends_empty}
use Rattle.snmp_walk.proofs.{Ordered.ordered_from_rising, Progress.part_prefix, Progress.part_rises, FreshWalk.fresh_reached}
use Rattle.snmp_walk.proofs.{FreshWalk.lawful_reply, ReplyFacts.given_by, FullReplies.AreRoomy, FullReplies.IsFast, FullReplies.fast_first}
use Rattle.snmp_walk.proofs.{FullReplies.fast_on, Sinks.given-append, Variables.after_precedes, Members.one_left, Members.one_right}
use Rattle.snmp_walk.proofs.Moves.{sent_all, IsSent, moved_of, sent_of, tries_as, Suits, agrees}
use Rattle.snmp_walk.proofs.StepProgress.{taken, part_of_stage, part_of_step, waiting, Small, taken_any, rising_answers}
use Rattle.snmp_walk.proofs.Facts.{counted_few, facts as facts_of, send_facts}
use Rattle.snmp_walk.proofs.RunEvents.{AskedBy, HasReadBy, asked_by, earlier_events, read_more, tried_events}
use Rattle.snmp_walk.proofs.{Networks.sends_of, Networks.tried-append, Runs.sent_push}
use Rattle.snmp_walk.proofs.Runs.{Sends, sends_more, HasMoved, moved_first, moved_more, moved_fine}
use Rattle.snmp_walk.proofs.{OwnReply.all_lower_after, OwnReply.earlier_first, OwnReply.earlier_more, EnoughRoom.few_asked}

-- if a reply ends a walk and the sink took all rows, no row was refused
took_reply : {S : Type 0} (takes : S → VarBind → Result (Unit {0}) SinkFault → S → Type 0) (before after : S) (rows : List VarBind) (why : WalkEnd)
    → IsReplyEnd why
    → TakesAll takes before rows after → Took takes before rows [] why after
took_reply takes before after rows (ending.Sink fault) own h = absurd own
took_reply takes before after rows _ own h = (h, refl)

-- if the reply to the last request was read as `end` (`IsReadSo`), that is the reason of the end (`IsEndOfRun`)
read_end : (Asked : Outcome → WalkState → List VarBind → Type 0) (refused : List VarBind) (end : WalkEnd) → IsReplyEnd end
    → IsReadSo Asked end → IsEndOfRun Asked refused end
read_end Asked refused ending.RequestTooLong own h = absurd own
read_end Asked refused ending.NoResponse own h = absurd own
read_end Asked refused ending.Link own h = absurd own
read_end Asked refused (ending.Sink fault) own h = absurd own
read_end Asked refused _ own h = h

-- ---- runs

module _ {S L : Type 0} (facts : LinkFacts L) (takes : S → VarBind → Result (Unit {0}) SinkFault → S → Type 0) (tries : ℕ) (first : WalkState) (link : L)
    (before : S) where
  -- the state of a run between two requests: `given` are the rows that it passed on, `here` is the state of the link, and w waits for a reply
  pub record Runs (here : L) (w : WalkState) (s : S) : Type 0 where
    pub given : List VarBind
    pub sunk : TakesAll takes before given s
    pub reached : Reaches Increases Named first w given
    pub has_moved : HasMoved facts link tries first given w.id ⊥ here
    pub read : HasReadBy facts tries (sent_by has_moved.by.requests) first link w here given
    pub honestly : IsHonestFrom facts first.id link → Reaches (IsNextFrom (facts.agents link)) (IsGotFrom (facts.agents link)) first w given
    pub earlier : facts.records link → AreOfLowerIds (facts.traffic link).sent first.id → IsEarlier (facts.traffic here).sent w
    pub fast : IsHonestFrom facts first.id link → IsFast (IsNextFrom (facts.agents link)) (IsGotFrom (facts.agents link))
        (AreRoomy (facts.agents link) has_moved.by.requests) first given w.id w.phase

  pub runs_first : IsFresh first → Runs link first before
  runs_first fresh = record {
    given = [];
    sunk = refl;
    reached = fresh_reached Increases Named first fresh;
    has_moved = moved_first facts link tries first [];
    read = record { read = record { readings = []; rows = refl; are_read = (refl, refl) }; sends = refl };
    honestly = λ h. fresh_reached (IsNextFrom (facts.agents link)) (IsGotFrom (facts.agents link)) first fresh;
    earlier = λ k none. earlier_first (facts.traffic link).sent first none;
    fast = λ h. fast_first (IsNextFrom (facts.agents link)) (IsGotFrom (facts.agents link)) (AreRoomy (facts.agents link) []) first fresh;
  }

  -- a run ended with `end`, the link then being in state `after` and the sink in state t, and what `run_walk` promises holds of the run
  abbrev pub Returns : L → WalkEnd → S → Type 0
  Returns after end t = IsRun takes before end t (λ given refused. IsWalkedOver facts link after tries first given refused end)

  -- what holds after `exchange` tried the request of the walk w, by its result: the run continues in state v, or it ended as promised
  abbrev pub IsTurn : WalkState → L → WalkState → S → WalkEnd → Result (Option Course) LinkFault → Type 0
  IsTurn w after v t end (Ok (Some course.GoesOn)) = Runs after v t × (v.id ≡ w.id + 1) × (v.id < 2 ^ 31)
  IsTurn w after v t end (Ok (Some course.Ends)) = Returns after end t
  IsTurn w after v t end (Ok None) = Returns after ending.NoResponse t
  IsTurn w after v t end (Err e) = Returns after ending.Link t

module _ {S L : Type 0} {facts : LinkFacts L} {takes : S → VarBind → Result (Unit {0}) SinkFault → S → Type 0} {tries : ℕ} {first w : WalkState} {link here : L}
    {before s : S} (codec : Codec) (recording : (l : L) → facts.honest l → facts.records l) (lawful : (l : L) → facts.honest l → AreLawful (facts.agents l))
    (some : 0 < tries) (r : Runs facts takes tries first link before here w s) (good : IsWalkState w) (after : L) where
  abbrev Ran : WalkEnd → S → Type 0
  Ran = Returns facts takes tries first link before after

  abbrev agents : Agents
  agents = facts.agents link

  abbrev Next : List ℕ → VarBind → Type 0
  Next = IsNextFrom agents

  abbrev Got : List ℕ → VarBind → Type 0
  Got = IsGotFrom agents

  abbrev Tried : Outcome → Type 0
  Tried what = IsTried facts tries w here what after

  laws : IsHonestFrom facts first.id link → AreLawfulReplies Next Got
  laws h = views_answer agents (lawful link h.0).views

  waits : is_over w.phase ≡ false
  waits = waiting Increases Named Small rising_answers first r.given w.asked w.phase r.reached.stage

  pub still_waits : w.phase ≢ phase.Over
  still_waits over = false≢true (sym waits ∙ ap is_over over)

  -- if q encodes the request of w, then what came of q is what came of the request of w
  pub tried_by : {q : List ℕ} {what other : Outcome} → q ≡ canon (request_of w) → what ≡ other
      → AreTried facts (IsNotAwaited w.community w.id) q tries here what after → Tried other
  tried_by {q} {what} {other} is same h = grind (arith, common_steps)

  -- if the link was honest when the run began, and earlier runs had lower ids, it is still honest, and what was sent over it are the request of w and
  -- requests with lower ids
  asked : IsHonestFrom facts first.id link → facts.honest here × IsEarlier (facts.traffic here).sent w
  asked h = (r.has_moved.by.moved.honest h.0, r.earlier (recording link h.0) h.1)

  abbrev moves : (what : Outcome) {failed : Type 0} → (what ≡ outcome.cut_off → failed) → (failed → what ≡ outcome.cut_off) → Tried what
      → IsMovedByTries facts here (canon (request_of w)) tries failed after
  moves what there back tried =
      tries_as facts (IsNotAwaited w.community w.id) _ there back (moved_of facts _ (canon (request_of w)) tries some what here after tried)

  abbrev moved_on : {failed : Type 0} (rows : List VarBind) → IsMovedByTries facts here (canon (request_of w)) tries failed after
      → HasMoved facts link tries first (r.given ++ rows) (w.id + 1) failed after
  moved_on rows m = moved_more facts tries first w r.given rows good r.reached r.has_moved m (request_short w good.community good.identifier.short)

  -- the requests so far and that of w, which had this outcome
  abbrev requests_on : (what : Outcome) (end : WalkEnd) → Suits what end → Tried what → List Try
  requests_on what end suits tried =
      let a = agrees what end suits in r.has_moved.by.requests ++ record { by = w; times = (moves what a.0 a.1 tried).0 } ∷ []

  -- once the request of w was tried too, the datagrams passed to sends are those of the requests so far and of this one
  sends_on : (what : Outcome) {failed : Type 0} (there : what ≡ outcome.cut_off → failed) (back : failed → what ≡ outcome.cut_off) (h : Tried what)
      → sent_by r.has_moved.by.requests ++ tried (tried_events facts tries w here after what h).0
      ≡ sent_by (r.has_moved.by.requests ++ record { by = w; times = (moves what there back h).0 } ∷ [])
  sends_on what there back h =
      let last : Try = record { by = w; times = (moves what there back h).0 } in
      ap (λ (ds : List (List ℕ)). sent_by r.has_moved.by.requests ++ ds)
      (sends_of facts (canon (request_of w)) (IsNotAwaited w.community w.id) tries some what here after h) ∙ sym (sent_push r.has_moved.by.requests last)

  sent_on : (what : Outcome) → Tried what → facts.records link → IsSent facts (IsNotAwaited w.community w.id) (canon (request_of w)) tries what here after
  sent_on what tried keeps = sent_of facts _ (canon (request_of w)) tries some what here after tried (r.has_moved.by.moved.keeps keeps)

  -- a reply m, encoded by d, answered the request
  module _ (m : Message) (d : List ℕ) (tried : Tried (outcome.answered d)) (spelt : Spells m d) (awaited : awaits w.community w.id m ≡ true) where
    any : AdvancesAnyhow first w r.given (take_of w m).0 (take_of w m).1
    any = taken_any first w r.given (after_precedes codec) m
        (and_from (not (is_over w.phase)) (awaits w.community w.id m) (ap not waits) awaited) r.reached

    honest_reply : IsHonestFrom facts first.id link → IsReplyTo Next Got (IsTooLarge agents) w m × IsFullReply agents w m
    honest_reply h =
        subst (λ (a : Agents). IsReplyTo (IsNextFrom a) (IsGotFrom a) (IsTooLarge a) w m × IsFullReply a w m) r.has_moved.by.moved.agents
        (from_of facts recording codec tries w here after (lawful here) good waits m d tried spelt ((response_to_decided w.community w.id m).0 awaited)
        (asked h).0 (asked h).1)

    honest_step : IsHonestFrom facts first.id link → Advances Next Got (IsTooLarge agents) first w r.given (take_of w m).0 (take_of w m).1
    honest_step h = taken Next Got (IsTooLarge agents) (laws h) first r.given w m (r.honestly h) (honest_reply h).0

    -- if m is read as `step.Rows rows`, and the sink takes the rows, the run continues
    pub runs_on : (rows : List VarBind) (v : WalkState) (t : S) → (take_of w m).0 ≡ step.Rows rows → v ≡ (take_of w m).1 → TakesAll takes s rows t
        → Runs facts takes tries first link before after v t × (v.id ≡ w.id + 1) × (v.id < 2 ^ 31)
    runs_on rows v t e f sink =
        let x = sent_on (outcome.answered d) tried in
        let stood = subst (λ (u : WalkState). AdvancesAnyhow first w r.given (step.Rows rows) u) (sym f)
        (subst (λ (st : Step). AdvancesAnyhow first w r.given st (take_of w m).1) e any) in
        let on : IsHonestFrom facts first.id link → Reaches Next Got first v (r.given ++ rows) =
        λ h. subst (λ (u : WalkState). Reaches Next Got first u (r.given ++ rows)) (sym f)
        (subst (λ (st : Step). Advances Next Got (IsTooLarge agents) first w r.given st (take_of w m).1) e (honest_step h)) in
        let uncut : outcome.answered d ≡ outcome.cut_off → ⊥ = λ e. cc in
        let tries_of = moves (outcome.answered d) uncut (λ f. absurd f) tried in
        let moved = moved_on rows tries_of in
        let requests = r.has_moved.by.requests in
        let last : Try = record { by = w; times = tries_of.0 } in (
          record {
            given = r.given ++ rows;
            sunk = given-append S takes r.given rows before s t r.sunk sink;
            reached = stood.2;
            has_moved = record { by = moved.by; ids = stood.0 ∙ moved.ids; short = moved.short };
            read = subst (λ (ds : List (List ℕ)). HasReadBy facts tries ds first link v after (r.given ++ rows))
                (sends_on (outcome.answered d) uncut (λ f. absurd f) tried)
                (read_more facts tries first w v link here after r.given rows d _ r.read good tried (means_by codec.less w d m spelt _ _ (sym e) f));
            honestly = on;
            earlier = λ k none. earlier_more w v (facts.traffic here).sent (facts.traffic after).sent (x k).0 good (omega (arith, stood.0)) (x k).2
                (r.earlier k none);
            fast = λ h.
                let reply = honest_reply h in
                fast_on agents (laws h) first w v r.given rows (AreRoomy agents requests) (AreRoomy agents moved.by.requests)
                (λ all u one. all u (one_left requests (last ∷ []) u one)) (λ all. all last (one_right requests (last ∷ []) last (inl refl)))
                (r.honestly h) (on h) stood.0 m reply.0 reply.1 e f (r.fast h);
          },
          stood.0,
          stood.1,
        )

  -- if the link lists what is sent, the last datagrams that it sent are the request of u (`IsLastSent`)
  abbrev IsSentLast : WalkEnd → WalkState → Type 0
  IsSentLast end u = facts.records link → IsLastSent tries end (facts.traffic after) u

  abbrev IsUnreplied : WalkState → Type 0
  IsUnreplied = HasNoReply agents tries (facts.traffic link) (facts.traffic after)

  last_sent : (what : Outcome) (end : WalkEnd) → Suits what end → Tried what → IsSentLast end w
  last_sent what end suits tried keeps = grind (arith, common_steps, sent_on, agrees)

  -- if no reply arrived over an honest link, and earlier runs had lower ids, one of the agents has no reply to the request, or the deliveries lost the reply
  no_reply : Tried outcome.missed → IsHonestFrom facts first.id link → IsUnreplied w
  no_reply tried h =
      let q : List ℕ = canon (request_of w) in
      let asked_here = asked_of codec (facts.agents here) (facts.traffic here).sent w (lawful here (asked h).0) good waits (asked h).1 in
      let l = lost_of facts recording (IsNotAwaited w.community w.id) q tries here after (asked h).0 asked_here tried in
      let u = r.has_moved.by.moved.used h.0 in
      let x = sent_on outcome.missed tried (recording link h.0) in
      let sent = (facts.traffic here).sent in
      subst (λ (a : Agents). HasNoReply a tries (facts.traffic link) (facts.traffic after) w) r.has_moved.by.moved.agents (record {
        earlier = sent;
        sent = x.2 ∙ ap (λ (n : ℕ). sent ++ replicate n q) (x.4 refl);
        lost = elim l.2 [ inl none ↦ inl none | inr gone ↦ inr (u.0, l.0, u.1 ∙ ap (λ (es : List (Option ℕ)). u.0 ++ es) l.1, gone) ];
      })

  -- the run ended with `end`, after the sink took `all` and perhaps refused one more; the facts of the whole run follow from this (`ran`)
  record IsOver (requests : List Try) (all : List VarBind) (end : WalkEnd) (t : S) : Type 0 where
    refused : List VarBind
    sink : Took takes before all refused end t
    part : IsPartOfWalk Increases Named first (all ++ refused)
    counted : CountsAll end all
    reason : IsEndOfRun (AskedBy facts tries first link after (sent_by requests) (IsSentLast end) all) refused end
    honestly : IsHonestFrom facts first.id link → IsPartOfWalk Next Got first (all ++ refused) × IsLawfulEnd agents IsUnreplied first all end
        × IsEndedBy agents IsUnreplied (IsLastSent tries end (facts.traffic after)) first all end

  module _ (what : Outcome) (end : WalkEnd) (suits : Suits what end) (was_tried : Tried what) where
    abbrev Asked : (all more : List VarBind) → Type 0
    Asked all more = AskedBy facts tries first link after (sent_by (requests_on what end suits was_tried)) (IsSentLast end) all what w more

    asked_last : (more all : List VarBind) → all ≡ r.given ++ more → Asked all more
    asked_last more all parts =
        let a = agrees what end suits in
        record {
          asked = record {
            now = here;
            given = r.given;
            parts = parts;
            walker = good;
            id = omega (arith, r.has_moved.ids);
            read = r.read.read;
            reaches = r.reached;
            sent = last_sent what end suits was_tried;
            tried = was_tried;
          };
          sends = tried-append (earlier_events facts tries r.read.read) (tried_events facts tries w here after what was_tried).0
              ∙ ap (λ (ds : List (List ℕ)). ds ++ tried (tried_events facts tries w here after what was_tried).0) r.read.sends
              ∙ sends_on what a.0 a.1 was_tried;
        }

    ended_by : (more all : List VarBind) → all ≡ r.given ++ more → (h : IsHonestFrom facts first.id link)
        → (IsReplyEnd end → Ends Next Got (IsTooLarge agents) first w all end) → DeliversNoRows end more → (end ≡ ending.NoResponse → IsUnreplied w)
        → IsEndedBy agents IsUnreplied (IsLastSent tries end (facts.traffic after)) first all end
    ended_by more all parts h last none silent = record {
      w = w;
      given = r.given;
      more = more;
      parts = parts;
      none = none;
      walker = good;
      id = omega (arith, r.has_moved.ids);
      reaches = r.honestly h;
      ends = last;
      silent = silent;
      sent = last_sent what end suits was_tried (recording link h.0);
    }

    -- if the run ended as `IsOver` says, then what is promised of the whole run holds (`Ran`)
    ran : IsFresh first → (rows : List VarBind) (t : S) → IsOver (requests_on what end suits was_tried) (r.given ++ rows) end t
        → Ran end t
    ran fresh rows t done =
        let all = r.given ++ rows in
        let a = agrees what end suits in
        let moved = moved_on rows (moves what a.0 a.1 was_tried) in
        let x = sent_on what was_tried in
        let sent = sent_by (requests_on what end suits was_tried) in
        let known = given_by codec facts tries first fresh link after sent (IsSentLast end) all done.refused end takes before t done.sink done.reason in
        let fine_in : IsHonestFrom facts first.id link → (k : ℕ) → HasFew Next first k → IsReadyForAll (facts.ready link) tries k → end ≢ ending.Link =
        λ h k bound ready. moved_fine facts tries first all (w.id + 1) moved k
        (omega (arith, few_in Next Got first k bound w r.given (r.honestly h), gets_one first.mode)) ready in
        record {
          rows = all;
          refused = done.refused;
          took = done.sink;
          facts = record {
            part = done.part;
            ends = record {
              rising = ordered_from_rising (after_precedes codec) (all ++ done.refused)
                  (part_rises Increases Named rising_answers first (all ++ done.refused) done.part);
              counted = done.counted;
              reason = asked_by facts tries first link after sent (IsSentLast end) all done.refused end done.reason;
            };
            sent = λ k.
                let requests = r.has_moved.by.requests in
                let last : Try = record { by = w; times = (x k).0 } in
                let sends : Sends tries first r.given (facts.traffic link) w.id (facts.traffic here) = record {
                  requests = requests;
                  sent = sent_all (λ no. no) (r.has_moved.by.moved.sent k);
                  are_tries = r.has_moved.by.are_tries;
                  ids = r.has_moved.ids;
                } in
                send_facts codec agents (IsHonestFrom facts first.id link) (AreRoomy agents requests) tries (facts.traffic link)
                (facts.traffic after) first w all
                r.given end fresh good
                (sends_more tries (x k).0 first w r.given rows (facts.traffic link) (facts.traffic here) (facts.traffic after) good r.reached sends (x k).1
                (x k).2)
                (λ h.
                let u = moved.by.moved.used h.0 in
                ((u.0, u.1, omega (arith, u.2, moved.by.few k)), (lawful link h.0).views, r.honestly h, r.fast h))
                (λ room u one. room u (one_left requests (last ∷ []) u one))
                (requests, last, refl, r.has_moved.by.each_tried, λ other. (x k).3 (λ e. other (a.0 e)))
                (λ is. (requests, last, refl, (x k).4 (a.2 is)));
            judged = λ h.
                let shown = done.honestly h in
                facts_of codec agents tries (facts.traffic link) (facts.traffic after) first all done.refused end some fresh (lawful link h.0).views
                shown.0 shown.1 shown.2;
            ready = λ h k counts ready. fine_in h k (counted_few codec agents (lawful link h.0).views first fresh k counts) ready;
            moved = moved.by;
            later = λ k low.
                subst (AreOfLowerIds (facts.traffic after).sent) (omega (arith, moved.ids))
                (all_lower_after w (facts.traffic here).sent (facts.traffic after).sent (x k).0 (w.id + 1) good (omega arith) (x k).2 (r.earlier k low));
            few_of_rows = let few = few_asked Increases Named first w r.given r.reached in omega (arith, few, moved.ids, length-append r.given rows);
            happened = known.happened;
            sends = known.sends;
          };
        }

  reply_suits : (d : List ℕ) (why : WalkEnd) → IsReplyEnd why → Suits (outcome.answered d) why
  reply_suits d why own = ((λ e. subst IsReplyEnd e own), λ e. subst IsReplyEnd e own)

  -- the reply m, encoded by d, ended the run
  module _ (m : Message) (d : List ℕ) (tried : Tried (outcome.answered d)) (spelt : Spells m d) (awaited : awaits w.community w.id m ≡ true)
      (fresh : IsFresh first) (rows : List VarBind) (t : S) where
    pub ran_reply : (why : WalkEnd) → (take_of w m).0 ≡ step.Last rows why → TakesAll takes s rows t
        → Ran why t
    ran_reply why e sink =
        let over = subst (λ (st : Step). AdvancesAnyhow first w r.given st (take_of w m).1) e (any m d tried spelt awaited) in
        let none = subst EndsEmpty e (ends_empty w m) in
        let suits = reply_suits d why over.0 in
        ran (outcome.answered d) why suits tried fresh rows t (record {
          refused = [];
          sink = took_reply takes before t (r.given ++ rows) why over.0 (given-append S takes r.given rows before s t r.sunk sink);
          part = rw append-nil over.1;
          counted = over.2;
          reason = read_end (λ o u more. AskedBy facts tries first link after (sent_by (requests_on (outcome.answered d) why suits tried)) (IsSentLast why)
              (r.given ++ rows) o u more) [] why over.0 (
                d,
                w,
                rows,
                asked_last (outcome.answered d) why suits tried rows (r.given ++ rows) refl,
                (take_of w m).1,
                means_by codec.less w d m spelt _ _ (sym e) refl,
              );
          honestly = λ h.
              let last = subst (λ (st : Step). Advances Next Got (IsTooLarge agents) first w r.given st (take_of w m).1) e
              (honest_step m d tried spelt awaited h) in (
                rw append-nil last.0,
                lawful_reply agents IsUnreplied first w r.given rows why none (r.honestly h) last.1,
                ended_by (outcome.answered d) why suits tried rows (r.given ++ rows) refl h (λ _. last.1) none (λ is. absurd (suits.1 is)),
              );
        })

    pub ran_refused : (fault : SinkFault) (p : VarBind) (left : List VarBind) (between : S) → rows_in (take_of w m).0 ≡ rows ++ p ∷ left
        → TakesAll takes s rows between → takes between p (Err fault) t
        → Ran (ending.Sink fault) t
    ran_refused fault p left between e sink refused =
        let cut : r.given ++ rows_in (take_of w m).0 ≡ ((r.given ++ rows) ++ p ∷ []) ++ left =
        ap (λ (g : List VarBind). r.given ++ g) e ∙ sym (append_assoc r.given rows (p ∷ left)) ∙ sym (append_assoc (r.given ++ rows) (p ∷ []) left) in
        let suits : Suits (outcome.answered d) (ending.Sink fault) = ((λ is. cc), λ is. cc) in
        ran (outcome.answered d) (ending.Sink fault) suits tried fresh rows t (record {
          refused = p ∷ [];
          sink = (between, given-append S takes r.given rows before s between r.sunk sink, (p, refl, refused));
          part = part_prefix Increases Named first ((r.given ++ rows) ++ p ∷ []) left
              (subst (IsPartOfWalk Increases Named first) cut (any_part (take_of w m).0 (take_of w m).1 (any m d tried spelt awaited)));
          counted = tt;
          reason = (
            d,
            w,
            rows,
            asked_last (outcome.answered d) (ending.Sink fault) suits tried rows (r.given ++ rows) refl,
            (take_of w m).0,
            (take_of w m).1,
            left,
            means_by codec.less w d m spelt _ _ refl refl,
            e,
          );
          honestly = λ h. (
            part_prefix Next Got first ((r.given ++ rows) ++ p ∷ []) left
                (subst (IsPartOfWalk Next Got first) cut (part_of_step Next Got (IsTooLarge agents) (laws h) first w r.given (take_of w m).0
                (take_of w m).1 (honest_step m d tried spelt awaited h))),
            tt,
            ended_by (outcome.answered d) (ending.Sink fault) suits tried rows (r.given ++ rows) refl h (λ own. absurd own) tt (λ is. absurd (suits.1 is)),
          );
        })
      where
        any_part : (st : Step) (u : WalkState) → AdvancesAnyhow first w r.given st u → IsPartOfWalk Increases Named first (r.given ++ rows_in st)
        any_part step.Stray u k = absurd k
        any_part (step.Rows more) u k = part_of_stage Increases Named Small rising_answers first (r.given ++ more) u.asked u.phase k.2.stage
        any_part (step.Last more why) u k = k.1

  -- if the run ended without a reply, so that it passed on no more rows, then what is known of the whole run holds (`Ran`)
  ran_none : (what : Outcome) (why : WalkEnd) (suits : Suits what why) (tried : Tried what) → IsFresh first → (IsReplyEnd why → ⊥) → CountsAll why r.given
      → IsEndOfRun (AskedBy facts tries first link after (sent_by (requests_on what why suits tried)) (IsSentLast why) r.given) [] why
      → Took takes before r.given [] why s
      → DeliversNoRows why [] → (IsHonestFrom facts first.id link → why ≡ ending.NoResponse → IsUnreplied w)
      → (IsHonestFrom facts first.id link → IsLawfulEnd agents IsUnreplied first r.given why)
      → Ran why s
  ran_none what why suits tried fresh none counts reason sink no_rows silent lawful_end =
      ran what why suits tried fresh [] s (subst (λ (g : List VarBind). IsOver (requests_on what why suits tried) g why s) (sym (append-nil r.given)) (record {
        refused = [];
        sink = sink;
        part = rw append-nil (part_of_stage Increases Named Small rising_answers first r.given w.asked w.phase r.reached.stage);
        counted = counts;
        reason = reason;
        honestly = λ h. (
          rw append-nil (part_of_stage Next Got (IsTooLarge agents) (laws h) first r.given w.asked w.phase (r.honestly h).stage),
          lawful_end h,
          ended_by what why suits tried [] r.given (sym (append-nil r.given)) h (λ own. absurd (none own)) no_rows (silent h),
        );
      }))

  pub ran_silent : Tried outcome.missed → IsFresh first
      → Ran ending.NoResponse s
  ran_silent tried fresh =
      ran_none outcome.missed ending.NoResponse refl tried fresh (λ own. own) tt
      (w, asked_last outcome.missed ending.NoResponse refl tried [] r.given (sym (append-nil r.given))) (r.sunk, refl) refl (λ h _. no_reply tried h)
      (λ h. (w, good, r.honestly h, no_reply tried h))

  pub ran_cut : Tried outcome.cut_off → IsFresh first
      → Ran ending.Link s
  ran_cut tried fresh =
      ran_none outcome.cut_off ending.Link refl tried fresh (λ own. own) tt
      (w, asked_last outcome.cut_off ending.Link refl tried [] r.given (sym (append-nil r.given))) (r.sunk, refl) refl (λ h is. absurd cc) (λ h. tt)

  -- ---- `IsTurn`, by what was read and passed to the sink

  abbrev IsReadSoBy : List ℕ → WalkState → S → Heard → Type 0
  IsReadSoBy d v t what = IsReadAs d w.community w.id (λ m given new. (given, new) ≡ take_of w m) takes s v t what

  pub reads_on : (d : List ℕ) (v : WalkState) (t : S) → Tried (outcome.answered d) → IsReadSoBy d v t heard.goes_on
      → Runs facts takes tries first link before after v t × (v.id ≡ w.id + 1) × (v.id < 2 ^ 31)
  reads_on d v t tried h = by_step h.given (sym (ap (λ (x : Step × WalkState). x.0) h.read)) h.delivered
    where
      by_step : (given : Step) → (take_of w h.message).0 ≡ given → Delivers takes given s heard.goes_on t
          → Runs facts takes tries first link before after v t × (v.id ≡ w.id + 1) × (v.id < 2 ^ 31)
      by_step step.Stray e delivered =
          absurd (subst (λ (st : Step). AdvancesAnyhow first w r.given st (take_of w h.message).1) e (any h.message d tried h.spelt h.awaited))
      by_step (step.Rows rows) e (all_taken on sink) = runs_on h.message d tried h.spelt h.awaited rows v t e (ap (λ (x : Step × WalkState). x.1) h.read) sink
      by_step (step.Last rows why) e (all_taken on sink) = absurd cc
      by_step given e (is_refused fault rows p left between parts on sink refused) = absurd cc

  pub reads_end : (d : List ℕ) (v : WalkState) (t : S) (end : WalkEnd) → Tried (outcome.answered d) → IsReadSoBy d v t (heard.ends end) → IsFresh first
      → Ran end t
  reads_end d v t end tried h fresh = by_step h.given (sym (ap (λ (x : Step × WalkState). x.0) h.read)) h.delivered
    where
      by_step : (given : Step) → (take_of w h.message).0 ≡ given → Delivers takes given s (heard.ends end) t
          → Ran end t
      by_step step.Stray e delivered =
          absurd (subst (λ (st : Step). AdvancesAnyhow first w r.given st (take_of w h.message).1) e (any h.message d tried h.spelt h.awaited))
      by_step (step.Rows rows) e (all_taken is sink) = absurd cc
      by_step (step.Last rows why) e (all_taken is sink) =
          ran_reply h.message d tried h.spelt h.awaited fresh rows t end (let same : why ≡ end = cc in rw (← same) e) sink
      by_step given e (is_refused fault rows p left between parts is sink refused) =
          let same : ending.Sink fault ≡ end = cc in
          rw (← same) (ran_refused h.message d tried h.spelt h.awaited fresh rows t fault p left between (ap rows_in e ∙ parts) sink refused)

  -- ---- `IsTurn`, by what `exchange` returned

  abbrev Turn : WalkState → S → WalkEnd → Result (Option Course) LinkFault → Type 0
  Turn = IsTurn facts takes tries first link before w after

  pub turn_of : IsFresh first → (v : WalkState) (t : S) (end : WalkEnd) {q : List ℕ} → ((w.phase ≢ phase.Over) → q ≡ canon (request_of w)) → (what : Outcome)
      → AreTried facts (IsNotAwaited w.community w.id) q tries here what after → (result other : Result (Option Course) LinkFault)
      → Tells (λ d course. IsReadSoBy d v t (heard_of course end)) ((v ≡ w) × (t ≡ s)) result what → result ≡ other → Turn v t end other
  turn_of fresh v t end {q} is what h result other reported same = subst (Turn v t end) same (by_result result reported)
    where
      came : (other : Outcome) → what ≡ other → Tried other
      came other same = tried_by (is still_waits) same h

      by_result : (x : Result (Option Course) LinkFault) → Tells (λ d course. IsReadSoBy d v t (heard_of course end)) ((v ≡ w) × (t ≡ s)) x what
          → Turn v t end x
      by_result (Ok (Some course.GoesOn)) h = reads_on h.0 v t (came (outcome.answered h.0) h.1) h.2
      by_result (Ok (Some course.Ends)) h = reads_end h.0 v t end (came (outcome.answered h.0) h.1) h.2 fresh
      by_result (Ok None) h = subst (Ran ending.NoResponse) (sym h.1.1) (ran_silent (came outcome.missed h.0) fresh)
      by_result (Err e) h = subst (Ran ending.Link) (sym h.1.1) (ran_cut (came outcome.cut_off h.0) fresh)

-- What a walk returns if all that arrives are replies of its agents, or errors too (`given_by`).
use Rattle.std.proofs.Common.{◌≡◌, ◌≢◌, ◌⊎◌, false, pos, inl, inr, ℕ, ℤ, ◌+◌, ◌<◌, List, [], ◌∷◌, ◌++◌, refl, sym, ◌∙◌, ap, subst, arith, append_assoc}
use Rattle.std.proofs.Common.{append-nil}
use Rattle.std.proofs.lemmas.Bool.{and_from}
use Rattle.std.specs.Prelude.{not, Result}
use Rattle.snmp_agent.specs.Event.{Event, came}
use Rattle.snmp_wire.specs.{Canon.canon, Message.VarBind, Message.Message, Spelling.Spells}
use Rattle.snmp_walk.specs.{private.Codec.Codec, private.OwnReply.IsEarlier, StepRules.IsResponseTo, StepRules.MeansBy, StepRules.MeansReply}
use Rattle.snmp_walk.specs.{Network.AreRepliesOf, Network.tried, RunResult.HasHappened, RunResult.but_for_errors, Read.rows_in, Request.request_of, Sink.Took}
use Rattle.snmp_walk.specs.{private.ComputedStep.awaits, private.ComputedStep.is_over, WalkState.WalkState, WalkState.IsWalkState}
use Rattle.snmp_walk.specs.{declared.end.SinkFault.SinkFault}
use Rattle.snmp_walk.specs.{declared.end.WalkEnd.WalkEnd, declared.link.Link.Ghosts as LinkFacts, declared.rows.Step.Step, Responses.IsResponseFrom}
use Rattle.snmp_walk.specs.Tries.{IsTried, IsNotAwaited}
use Rattle.snmp_walk.specs.Facts.{IsFresh, IsLawfulEnd, ReplyFacts, Reading, rows_read, AreRead, IsReadSo, IsEndOfRun}
use Rattle.snmp_walk.specs.Link.{Agents, AreLawful, OneOf, IsReplyFrom, IsNextFrom, IsGotFrom, IsTooLarge, Outcome}
use Rattle.snmp_walk.specs.Link as outcome
use Rattle.snmp_walk.specs.Progress.{Reaches, Advances, AdvancesAnyhow, IsPartOfWalk, Increases, Named}
use Rattle.snmp_walk.specs.declared.end.WalkEnd.TheVariants as ending
use Rattle.snmp_walk.specs.declared.rows.Step.TheVariants as step
use Rattle.snmp_walk.proofs.StepProgress.{Small, taken_any, rising_answers, taken, part_of_stage, part_of_step, waiting}
use Rattle.snmp_walk.proofs.{ComputedStep.EndsEmpty, ComputedStep.ends_empty, Facts.given_facts, FreshWalk.fresh_reached, FreshWalk.lawful_reply}
use Rattle.snmp_walk.proofs.{Variables.after_precedes, Members.one_append, Progress.part_prefix, OwnReply.before_more, OwnReply.lower_reply}
use Rattle.snmp_walk.proofs.{SortedRows.views_answer, OwnReply.any_reply, OwnReply.error_or_none}
use Rattle.snmp_walk.proofs.StepRules.{only, response_to_decided}
use Rattle.snmp_walk.proofs.Networks.{tried-append, answered_tries, begins_both, begins_tries}
use Rattle.snmp_walk.proofs.{Members.one_same, RunEvents.Events, RunEvents.tried_events as events_tried, RunEvents.read_events as events_read}
use Rattle.snmp_walk.proofs.RunEvents.{Asked as HasAsked, AskedBy, asked_events as events_asked}
use Rattle.snmp_walk.specs.{Network.BeginWithSend}

module _ {L : Type 0} (codec : Codec) (facts : LinkFacts L) (tries : ℕ) (first : WalkState) (fresh : IsFresh first) (link after : L) where
  abbrev Tried : WalkState → L → Outcome → L → Type 0
  Tried = IsTried facts tries

  abbrev tried_events : (w : WalkState) (old new : L) (o : Outcome) → Tried w old o new → Events facts tries old new
  tried_events = events_tried facts tries

  abbrev read_events : (readings : List Reading) (v w : WalkState) (old now : L) → AreRead Tried v old readings w now → Events facts tries old now
  read_events = events_read facts tries

  abbrev Asked : (WalkState → Type 0) → List VarBind → Outcome → WalkState → List VarBind → Type 0
  Asked = HasAsked facts tries first link after

  abbrev asked_events : (Sent : WalkState → Type 0) (rows : List VarBind) (o : Outcome) (w : WalkState) (more : List VarBind) → Asked Sent rows o w more
      → Events facts tries link after
  asked_events = events_asked facts tries first link after

  begins_tried : (w : WalkState) (old new : L) (o : Outcome) (h : Tried w old o new) → BeginWithSend (tried_events w old new o h).0
  begins_tried w old new o h = begins_tries facts (canon (request_of w)) (IsNotAwaited w.community w.id) tries old new o h

  begins_read : (readings : List Reading) (v w : WalkState) (old now : L) (h : AreRead Tried v old readings w now)
      → BeginWithSend (read_events readings v w old now h).0
  begins_read [] v w old now h = tt
  begins_read (r ∷ more) v w old now h =
      begins_both (tried_events v old h.2 (outcome.answered r.datagram) h.3).0 (read_events more h.1 w h.2 now h.5).0
      (begins_tried v old h.2 (outcome.answered r.datagram) h.3) (begins_read more h.1 w h.2 now h.5)

  begins_asked : (Sent : WalkState → Type 0) (rows : List VarBind) (o : Outcome) (w : WalkState) (more : List VarBind) (a : Asked Sent rows o w more)
      → BeginWithSend (asked_events Sent rows o w more a).0
  begins_asked Sent rows o w more a =
      begins_both (read_events a.read.readings first w link a.now a.read.are_read).0 (tried_events w a.now after o a.tried).0
      (begins_read a.read.readings first w link a.now a.read.are_read) (begins_tried w a.now after o a.tried)

  -- A run that passed on `rows`, and then perhaps had one refused, ended with `end` as it can if only replies of these agents arrive.
  abbrev IsHonestEnd : Agents → (rows refused : List VarBind) → WalkEnd → Type 0
  IsHonestEnd agents rows refused end =
      IsPartOfWalk (IsNextFrom agents) (IsGotFrom agents) first (rows ++ refused) × IsLawfulEnd agents (λ w. Unit {0}) first rows end

  abbrev IsEnd : (Errors : Type 0) → Agents → (rows refused : List VarBind) → WalkEnd → Type 0
  IsEnd Errors agents rows refused end = IsHonestEnd agents rows refused end
      ⊎ (Errors × IsHonestEnd agents rows refused ending.Link × ((status index : ℤ) × (end ≡ ending.Fault status index)))

  module _ (agents : Agents) (good : AreLawful agents) (all : List (Event (Unit {0}))) (Sort : Message → Type 0) (Errors : Type 0)
      (sort : (m : Message) → Sort m ⊎ (Errors × (m.a ≢ pos 0))) (replies : AreRepliesOf Sort agents all) where
    abbrev Next : List ℕ → VarBind → Type 0
    Next = IsNextFrom agents

    abbrev Got : List ℕ → VarBind → Type 0
    Got = IsGotFrom agents

    -- the state of a run: w waits for a reply, `given` was passed on, and `events` have happened
    record Reached (w : WalkState) (given : List VarBind) : Type 0 where
      events : List (Event (Unit {0}))
      earlier : IsEarlier (tried events) w
      honestly : Reaches Next Got first w given
      anyhow : Reaches Increases Named first w given

    waits : (w : WalkState) (given : List VarBind) → Reached w given → is_over w.phase ≡ false
    waits w given s = waiting Increases Named Small rising_answers first given w.asked w.phase s.anyhow.stage

    -- before the reply to the request of w was received, only this request was passed to sends in its tries
    only_request : (w : WalkState) (l new : L) (r : List ℕ) (h : Tried w l (outcome.answered r) new) (d : List ℕ)
        → OneOf (tried (answered_tries facts (canon (request_of w)) (IsNotAwaited w.community w.id) tries l new r h).1.0) d → d ≡ canon (request_of w)
    only_request w l new r h d one =
        let a = answered_tries facts (canon (request_of w)) (IsNotAwaited w.community w.id) tries l new r h in
        one_same (h.0 + 1) (canon (request_of w)) d (subst (λ (ds : List (List ℕ)). OneOf ds d) a.1.2 one)

    -- the reply that was read is the reply of one of the agents to the waiting request, or another Response that one of them may send to it
    read_is : (w : WalkState) (l new : L) (given : List VarBind) (s : Reached w given) → IsWalkState w → (r : List ℕ) (m : Message) → Spells m r → Sort m
        → IsResponseTo w.community w.id m → (h : Tried w l (outcome.answered r) new) → (rest : List (Event (Unit {0})))
        → all ≡ s.events ++ ((tried_events w l new (outcome.answered r) h).0 ++ rest)
        → IsReplyFrom agents (canon (request_of w)) r ⊎ IsResponseFrom agents (canon (request_of w)) m
    read_is w l new given s walker r m spelt sorted response h rest is =
        let a = answered_tries facts (canon (request_of w)) (IsNotAwaited w.community w.id) tries l new r h in
        let cut : all ≡ (s.events ++ a.1.0) ++ came tt r ∷ rest =
        is ∙ ap (λ (es : List (Event (Unit {0}))). s.events ++ es) (append_assoc a.1.0 (came tt r ∷ []) rest)
        ∙ sym (append_assoc s.events a.1.0 (came tt r ∷ rest)) in
        let sent_it = replies (s.events ++ a.1.0) rest tt r cut m spelt sorted in
        let sooner : IsEarlier (tried (s.events ++ a.1.0)) w =
        λ d one. elim (one_append (tried s.events) (tried a.1.0) d (subst (λ (ds : List (List ℕ)). OneOf ds d) (tried-append s.events a.1.0) one)) [
          | inl o ↦ s.earlier d o
          | inr o ↦ inl (only_request w l new r h d o)
        ] in
        elim (sooner sent_it.0 sent_it.1) [
          | inl same ↦ subst (λ (d : List ℕ). IsReplyFrom agents d r ⊎ IsResponseFrom agents d m) same sent_it.2
          | inr low ↦
              let l = lower_reply codec agents good w.id sent_it.0 r m low spelt sent_it.2 in
              let same : pos l.0 ≡ pos w.id = sym l.1 ∙ response.id_is in
              let equal : l.0 ≡ w.id = cc in
              absurd (omega (arith, equal, l.2))
        ]

    -- The step `st` took the walk from w to u as an honest reply can, and as any reply can. If `st` ends the walk by an error status or by a reply without
    -- bindings, it passes on no rows.
    record Steps (w : WalkState) (given : List VarBind) (st : Step) (u : WalkState) : Type 0 where
      honestly : Advances Next Got (IsTooLarge agents) first w given st u
      anyhow : AdvancesAnyhow first w given st u
      empty : EndsEmpty st

    abbrev IsFailed : Step → Type 0
    IsFailed st = Errors × ((status index : ℤ) × (st ≡ step.Last [] (ending.Fault status index)))

    failed : (w : WalkState) (m : Message) (st : Step) (u : WalkState) → Errors × (m.a ≢ pos 0) → MeansReply w m st u → IsFailed st
    failed w m st u errors (inl (none, _)) = absurd (errors.1 none)
    failed w m st u errors (inr (_, ends)) = (errors.0, (m.a, m.b, ends.0))

    reads : (w : WalkState) (l new : L) (given : List VarBind) (s : Reached w given) → IsWalkState w → (r : List ℕ) (st : Step) (u : WalkState)
        → (st ≡ step.Stray → ⊥) → MeansBy w r st u → (h : Tried w l (outcome.answered r) new) → (rest : List (Event (Unit {0})))
        → all ≡ s.events ++ ((tried_events w l new (outcome.answered r) h).0 ++ rest) → Steps w given st u ⊎ IsFailed st
    reads w l new given s walker r st u gives (inr (none, stray)) h rest is = absurd (gives stray.0)
    reads w l new given s walker r st u gives (inl (m, spelt, inr (unawaited, stray))) h rest is = absurd (gives stray.0)
    reads w l new given s walker r st u gives (inl (m, spelt, inl (awaited, means))) h rest is =
        elim (sort m) [
          | inr errors ↦ inr (failed w m st u errors means)
          | inl sorted ↦
              let one = only codec.less st u w m (inl (awaited, means)) in
              let reply = read_is w l new given s walker r m spelt sorted awaited.response h rest is in
              let lawful = any_reply codec agents good w walker (waits w given s) r m spelt reply in
              inl (rw (one.0, one.1) (record {
                honestly = taken Next Got (IsTooLarge agents) (views_answer agents good.views) first given w m s.honestly lawful;
                anyhow = taken_any first w given (after_precedes codec) m (and_from (not (is_over w.phase)) (awaits w.community w.id m)
                    (ap not (waits w given s)) ((response_to_decided w.community w.id m).1 awaited.response)) s.anyhow;
                empty = ends_empty w m;
              }))
        ]

    abbrev reached_first : Reached first []
    reached_first = record {
      events = [];
      earlier = λ d one. absurd one;
      honestly = fresh_reached Next Got first fresh;
      anyhow = fresh_reached Increases Named first fresh;
    }

    by_prefix : {p : List ℕ → Type 0} (events : List (Event (Unit {0}))) → ((d : List ℕ) → OneOf (tried events) d → p d) → (r d : List ℕ)
        → OneOf (tried (events ++ came tt r ∷ [])) d → p d
    by_prefix events f r d one =
        elim (one_append (tried events) [] d (subst (λ (ds : List (List ℕ)). OneOf ds d) (tried-append events (came tt r ∷ [])) one)) [
          | inl o ↦ f d o
          | inr none ↦ absurd none
        ]

    -- the run has reached w and passed on `given`, and `rest` are the events after that
    abbrev ReachedBefore : WalkState → List VarBind → List (Event (Unit {0})) → Type 0
    ReachedBefore w given rest = (s : Reached w given) × (all ≡ s.events ++ rest)

    reached_on : (w u : WalkState) (l new : L) (given rows : List VarBind) (s : Reached w given) → IsWalkState w → (r : List ℕ)
        → MeansBy w r (step.Rows rows) u → (h : Tried w l (outcome.answered r) new) → (rest : List (Event (Unit {0})))
        → all ≡ s.events ++ ((tried_events w l new (outcome.answered r) h).0 ++ rest) → ReachedBefore u (given ++ rows) rest
    reached_on w u l new given rows s walker r means h rest is =
        let on : Steps w given (step.Rows rows) u = elim (reads w l new given s walker r (step.Rows rows) u (λ e. let no : ⊥ = cc in no) means h rest is) [
          | inl steps ↦ steps
          | inr f ↦ let ended = f.1.2 in let no : ⊥ = cc in absurd no
        ] in
        let a = answered_tries facts (canon (request_of w)) (IsNotAwaited w.community w.id) tries l new r h in
        let less : w.id < u.id = omega (arith, on.anyhow.0) in (
          record {
            events = s.events ++ (a.1.0 ++ came tt r ∷ []);
            earlier = λ d one. elim (one_append (tried s.events) (tried (a.1.0 ++ came tt r ∷ [])) d
                (subst (λ (ds : List (List ℕ)). OneOf ds d) (tried-append s.events (a.1.0 ++ came tt r ∷ [])) one)) [
                  | inl o ↦ before_more w u walker less d (s.earlier d o)
                  | inr o ↦ before_more w u walker less d (inl (by_prefix a.1.0 (only_request w l new r h) r d o))
                ];
            honestly = on.honestly;
            anyhow = on.anyhow.2;
          },
          is ∙ sym (append_assoc s.events (a.1.0 ++ came tt r ∷ []) rest),
        )

    reached_all : (readings : List Reading) (v w : WalkState) (old now : L) (given : List VarBind) (rest : List (Event (Unit {0})))
        → (h : AreRead Tried v old readings w now) → ReachedBefore v given ((read_events readings v w old now h).0 ++ rest)
        → ReachedBefore w (given ++ rows_read readings) rest
    reached_all [] v w old now given rest h s =
        rw append-nil (subst (λ (u : WalkState). ReachedBefore u given rest) (sym h.0) s)
    reached_all (r ∷ more) v w old now given rest h s =
        let later = (read_events more h.1 w h.2 now h.5).0 in
        let mine = (tried_events v old h.2 (outcome.answered r.datagram) h.3).0 in
        subst (λ (g : List VarBind). ReachedBefore w g rest) (append_assoc given r.rows (rows_read more))
        (reached_all more h.1 w h.2 now (given ++ r.rows) rest h.5
        (reached_on v h.1 old h.2 given r.rows s.0 h.0 r.datagram h.4 h.3 (later ++ rest)
        (s.1 ∙ ap (λ (es : List (Event (Unit {0}))). s.0.events ++ es) (append_assoc mine later rest))))

    reached_last : (Sent : WalkState → Type 0) (rows : List VarBind) (o : Outcome) (w : WalkState) (more : List VarBind) → (a : Asked Sent rows o w more)
        → all ≡ (asked_events Sent rows o w more a).0 → ReachedBefore w a.given ((tried_events w a.now after o a.tried).0 ++ [])
    reached_last Sent rows o w more a is =
        let late = (tried_events w a.now after o a.tried).0 in
        subst (λ (g : List VarBind). ReachedBefore w g (late ++ [])) (sym a.read.rows)
        (reached_all a.read.readings first w link a.now [] (late ++ []) a.read.are_read (
          reached_first,
          is ∙ ap (λ (es : List (Event (Unit {0}))). (read_events a.read.readings first w link a.now a.read.are_read).0 ++ es)
              (sym (append-nil late)),
        ))

    -- if w was reached with `given`, and nothing was passed on since, then what was passed on is a prefix of what the walk may return
    part_at : (w : WalkState) (rows given more : List VarBind) → rows ≡ given ++ more → more ≡ [] → Reaches Next Got first w given
        → IsPartOfWalk Next Got first (rows ++ [])
    part_at w rows given more parts none reaches =
        let same : rows ++ [] ≡ given = append-nil rows ∙ parts ∙ ap (λ (g : List VarBind). given ++ g) none ∙ append-nil given in
        subst (IsPartOfWalk Next Got first) (sym same)
        (part_of_stage Next Got (IsTooLarge agents) (views_answer agents good.views) first given w.asked w.phase reaches.stage)

    end_read : (Sent : WalkState → Type 0) (rows : List VarBind) (end : WalkEnd) (datagram : List ℕ) (w : WalkState) (more : List VarBind)
        → (a : Asked Sent rows (outcome.answered datagram) w more) → (over : WalkState) → MeansBy w datagram (step.Last more end) over
        → all ≡ (asked_events Sent rows (outcome.answered datagram) w more a).0 → IsEnd Errors agents rows [] end
    end_read Sent rows end datagram w more a over means is =
        let s = reached_last Sent rows (outcome.answered datagram) w more a is in
        elim (reads w a.now after a.given s.0 a.walker datagram (step.Last more end) over (λ e. let no : ⊥ = cc in no) means a.tried [] s.1) [
          | inl st ↦ inl (rw (append-nil, a.parts) (
            st.honestly.0,
            lawful_reply agents (λ w. Unit {0}) first w a.given more end st.empty s.0.honestly st.honestly.1,
          ))
          | inr f ↦
              let ended = f.1.2 in
              let none : more ≡ [] = cc in
              let by : end ≡ ending.Fault f.1.0 f.1.1 = cc in
              inr (f.0, (part_at w rows a.given more a.parts none s.0.honestly, tt), (f.1.0, f.1.1, by))
        ]

    end_refused : (Sent : WalkState → Type 0) (rows refused : List VarBind) (fault : SinkFault) → refused ≢ []
        → (datagram : List ℕ) (w : WalkState) (more : List VarBind)
        → (a : Asked Sent rows (outcome.answered datagram) w more) → (st : Step) (over : WalkState) (left : List VarBind) → MeansBy w datagram st over
        → rows_in st ≡ more ++ (refused ++ left) → all ≡ (asked_events Sent rows (outcome.answered datagram) w more a).0
        → IsHonestEnd agents rows refused (ending.Sink fault)
    end_refused Sent rows refused fault some datagram w more a st over left means cut is =
        let s = reached_last Sent rows (outcome.answered datagram) w more a is in
        let h : Steps w a.given st over = elim (reads w a.now after a.given s.0 a.walker datagram st over
        (λ e. some (no_rows (ap rows_in e))) means a.tried [] s.1) [
          | inl steps ↦ steps
          | inr f ↦ absurd (some (no_rows (ap rows_in f.1.2)))
        ] in
        let whole_rows : a.given ++ rows_in st ≡ (rows ++ refused) ++ left =
        ap (λ (g : List VarBind). a.given ++ g) cut ∙ sym (append_assoc a.given more (refused ++ left))
        ∙ ap (λ (g : List VarBind). g ++ (refused ++ left)) (sym a.parts)
        ∙ sym (append_assoc rows refused left) in (
          part_prefix Next Got first (rows ++ refused) left (subst (IsPartOfWalk Next Got first) whole_rows (part_of_step Next Got (IsTooLarge agents)
              (views_answer agents good.views) first w a.given st over h.honestly)),
          tt,
        )
      where
        no_rows : rows_in st ≡ [] → refused ≡ []
        no_rows e = nil_middle more refused left (sym cut ∙ e)
          where
            nil_middle : (a b c : List VarBind) → a ++ (b ++ c) ≡ [] → b ≡ []
            nil_middle [] [] c e = refl
            nil_middle [] (x ∷ b) c e = let no : ⊥ = cc in absurd no
            nil_middle (x ∷ a) b c e = let no : ⊥ = cc in absurd no

    end_none : (Sent : WalkState → Type 0) (rows : List VarBind) (o : Outcome) (w : WalkState) (end : WalkEnd) → (a : Asked Sent rows o w [])
        → all ≡ (asked_events Sent rows o w [] a).0 → (Reaches Next Got first w rows → IsLawfulEnd agents (λ w. Unit {0}) first rows end)
        → IsHonestEnd agents rows [] end
    end_none Sent rows o w end a is lawful =
        let reaches = (reached_last Sent rows o w [] a is).0.honestly in
        let all_taken : a.given ≡ rows = sym (append-nil a.given) ∙ sym a.parts in
        (part_at w rows a.given [] a.parts refl reaches, lawful (subst (Reaches Next Got first w) all_taken reaches))

  -- if an end is lawful, so is the end in which an error status is replaced by a failure of the link (`but_for_errors`)
  lawful_but : (agents : Agents) (rows : List VarBind) (end : WalkEnd) → IsLawfulEnd agents (λ w. Unit {0}) first rows end
      → IsLawfulEnd agents (λ w. Unit {0}) first rows (but_for_errors end)
  lawful_but agents rows (ending.Fault status index) h = tt
  lawful_but agents rows end h = h

  end_but : (agents : Agents) (rows refused : List VarBind) (end : WalkEnd) → IsEnd (Unit {0}) agents rows refused end
      → IsHonestEnd agents rows refused (but_for_errors end)
  end_but agents rows refused end (inl h) = (h.0, lawful_but agents rows end h.1)
  end_but agents rows refused end (inr (_, h, by)) = subst (λ (e : WalkEnd). IsHonestEnd agents rows refused (but_for_errors e)) (sym by.2) h

  abbrev IsEndBy : List (Event (Unit {0})) → (rows refused : List VarBind) → WalkEnd → Type 1
  IsEndBy all rows refused end = (agents : Agents) → AreLawful agents → (Sort : Message → Type 0) (Errors : Type 0)
      → ((m : Message) → Sort m ⊎ (Errors × (m.a ≢ pos 0))) → AreRepliesOf Sort agents all → IsEnd Errors agents rows refused end

  module _ (sent : List (List ℕ)) where
    abbrev By : (WalkState → Type 0) → List VarBind → Outcome → WalkState → List VarBind → Type 0
    By = AskedBy facts tries first link after sent

    -- the run ended as `HasHappened` says, with `ReplyFacts` if only replies of the agents arrived, and the datagrams passed to sends in its events are `sent`
    pub record Known (rows refused : List VarBind) (end : WalkEnd) : Type 0 where
      pub happened : HasHappened facts link after end (λ agents why. ReplyFacts agents (λ w. Unit {0}) first rows refused why)
      pub sends : tried happened.events ≡ sent

    known_by : (Sent : WalkState → Type 0) (rows refused : List VarBind) (end : WalkEnd) (o : Outcome) (w : WalkState) (more : List VarBind)
        → (a : By Sent rows o w more) → IsEndBy (asked_events Sent rows o w more a.asked).0 rows refused end → Known rows refused end
    known_by Sent rows refused end o w more a honestly =
        let e = asked_events Sent rows o w more a.asked in
        record {
          happened = record {
            events = e.0;
            in_turn = e.1;
            begins = begins_asked Sent rows o w more a.asked;
            replied = λ agents good replies.
                let h : IsHonestEnd agents rows refused end = elim (honestly agents good (λ m. Unit {0}) ⊥ (λ m. inl tt) replies) [
                  | inl honest ↦ honest
                  | inr none ↦ absurd none.0
                ] in
                given_facts codec agents (λ w. Unit {0}) first rows refused end fresh good.views h.0 h.1;
            replied_or_failed = λ agents good replies.
                let h = end_but agents rows refused end (honestly agents good (λ m. m.a ≡ pos 0) (Unit {0}) error_or_none replies) in
                given_facts codec agents (λ w. Unit {0}) first rows refused (but_for_errors end) fresh good.views h.0 h.1;
          };
          sends = a.sends;
        }

    known_read : (Sent : WalkState → Type 0) (rows : List VarBind) (end : WalkEnd) → IsReadSo (By Sent rows) end → Known rows [] end
    known_read Sent rows end (datagram, w, more, a, over, means) =
        known_by Sent rows [] end (outcome.answered datagram) w more a
        (λ agents good Sort Errors sort replies. end_read agents good _ Sort Errors sort replies Sent rows end datagram w more a.asked over means refl)

    known_none : (Sent : WalkState → Type 0) (rows : List VarBind) (o : Outcome) (w : WalkState) (end : WalkEnd) → (a : By Sent rows o w [])
        → ((agents : Agents) → Reaches (IsNextFrom agents) (IsGotFrom agents) first w rows → IsLawfulEnd agents (λ w. Unit {0}) first rows end)
        → Known rows [] end
    known_none Sent rows o w end a lawful =
        known_by Sent rows [] end o w [] a
        (λ agents good Sort Errors sort replies. inl (end_none agents good _ Sort Errors sort replies Sent rows o w end a.asked refl (lawful agents)))

    pub given_by : (Sent : WalkState → Type 0) (rows refused : List VarBind) (end : WalkEnd)
        → {S : Type 0} (takes : S → VarBind → Result (Unit {0}) SinkFault → S → Type 0)
        (before now : S) → Took takes before rows refused end now → IsEndOfRun (By Sent rows) refused end → Known rows refused end
    given_by Sent rows refused ending.RequestTooLong takes before now took h = absurd h
    given_by Sent rows refused ending.NoResponse takes before now took h =
        rw took.1 (known_none Sent rows outcome.missed h.0 ending.NoResponse h.1 (λ agents reaches. (h.0, h.1.asked.walker, reaches, tt)))
    given_by Sent rows refused ending.Link takes before now took h =
        rw took.1 (known_none Sent rows outcome.cut_off h.0 ending.Link h.1 (λ agents reaches. tt))
    given_by Sent rows refused (ending.Sink fault) takes before now took (datagram, w, more, a, st, over, left, means, cut) =
        known_by Sent rows refused (ending.Sink fault) (outcome.answered datagram) w more a
        (λ agents good Sort Errors sort replies. inl (end_refused agents good _ Sort Errors sort replies Sent rows refused fault
        (λ none. let r = took.2 in let no : ⊥ = cc in no) datagram w more a.asked st over left means cut refl))
    given_by Sent rows refused end takes before now took h = rw took.1 (known_read Sent rows end h)

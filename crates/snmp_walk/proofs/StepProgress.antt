-- An honest reply to the waiting request makes progress or ends the walk lawfully (`taken`); what holds of any reply is `taken_any`.
use Rattle.std.proofs.{lemmas.Grind.common_steps, lemmas.List.Elements.All-nil, lemmas.List.Elements.All-push}
use Rattle.std.proofs.Common.{◌≡◌, inl, inr, ℕ, ◌+◌, ◌≤◌, true, false, cond, List, [], ◌∷◌, ◌++◌, ◌≢◌, length, refl, sym, ◌∙◌, ap, subst, arith}
use Rattle.std.proofs.Common.{append_assoc, append-nil, length-append, pos, Some, None}
use Rattle.std.proofs.lemmas.Bool.{le-ltb, or_from, and_from, and_parts, eqb-true, eq-eqb, cond_both, false≢true, or_parts, not-true}
use Rattle.std.proofs.lemmas.List.{flat_map_more, length_push, nil_from_length}
use Rattle.std.specs.{Prelude.◌==◌, Prelude.◌&&◌, Prelude.flat_map, Prelude.not, Bool.nat_eq, List.list_any, Ordering.int_eq}
use Rattle.std.specs.Cmp.Lexicographic.{pointwise, nat_list_eq_equiv, same_text}
use Rattle.snmp_wire.specs.Message.{VarBind, Message, end_of_mib_view}
use Rattle.snmp_walk.specs.{declared.mode.Mode.Mode, declared.mode.Phase.Phase, declared.rows.Step.Step, Trail.last_name, Trail.IsTrail}
use Rattle.snmp_walk.specs.{Trail.IsAtEnd, WalkState.WalkState, Request.asked_for, Read.rows_in, declared.end.WalkEnd.WalkEnd}
use Rattle.snmp_walk.specs.Names.{is_missing, is_end, comes_after}
use Rattle.snmp_walk.specs.declared.mode.Mode.TheVariants as mode
use Rattle.snmp_walk.specs.declared.mode.Phase.TheVariants as phase
use Rattle.snmp_walk.specs.declared.end.WalkEnd.TheVariants as ending
use Rattle.snmp_walk.specs.declared.rows.Step.TheVariants as step
use Rattle.snmp_walk.proofs.{StepRules.response_to_decided, SortedRows.AreLawfulReplies, ReplyRows.prefix_taken, ReplyRows.prefixes_by}
use Rattle.snmp_walk.proofs.ComputedStep.{goes_by, given_of, take_by}
use Rattle.snmp_walk.proofs.Names.{present, after_test, end_test, inside_decided, miss_test, no_end, no_miss}
use Rattle.snmp_walk.specs.private.ComputedStep.{is_over, is_plain, stops, goes_on, closes, reads_as, reads_next, got, if_present, reads_first, reads_last}
use Rattle.snmp_walk.specs.private.ComputedStep.{reads_for, take_of, is_awaited}
use Rattle.snmp_walk.specs.Progress.{IsChain, IsLarge, IsReplyContent, IsReplyTo, IsOpening, HasReturned, IsPartOfWalk, IsStage, opening_gets, IsPaced}
use Rattle.snmp_walk.specs.Progress.{Reaches, Advances, Increases, Named, IsReplyEnd, CountsAll, AdvancesAnyhow}
use Rattle.snmp_walk.specs.private.ReplyRows.{After, nothing, leaving, falling, reply_rows, is_misplaced}
use Rattle.snmp_walk.proofs.Trail.{last_name-append, trail-append, EndsChain, IsTrailPrefix, chain_prefix, chain_has_values, few_replies}
use Rattle.snmp_walk.specs.declared.mode.Phase.TheVariants as phase
use Rattle.snmp_walk.specs.declared.end.WalkEnd.TheVariants as ending
use Rattle.snmp_oid.specs.Identifier.{Precedes}

module _ (Next Got : List ℕ → VarBind → Type 0) (Large : ℕ → VarBind → Type 0) (laws : AreLawfulReplies Next Got) (first : WalkState) where
  -- `Advances` holds of the step and the state in the pair s
  abbrev pub Goes : WalkState → List VarBind → Step × WalkState → Type 0
  Goes old given s = Advances Next Got Large first old given s.0 s.1

  pub part_of_stage : (given : List VarBind) (o : List ℕ) (p : Phase) → IsStage Next Got first given o p → IsPartOfWalk Next Got first given
  part_of_stage given o phase.First h = inl h.0
  part_of_stage given o phase.Rows h = inr (inl (o, h))
  part_of_stage given o phase.Last h = inl h.0
  part_of_stage given o phase.Over h = absurd h

  pub part_of_step : (old : WalkState) (given : List VarBind) (st : Step) (w : WalkState) → Advances Next Got Large first old given st w
      → IsPartOfWalk Next Got first (given ++ rows_in st)
  part_of_step old given step.Stray w h = absurd h
  part_of_step old given (step.Rows more) w h = part_of_stage (given ++ more) w.asked w.phase h.stage
  part_of_step old given (step.Last more why) w h = h.0

  -- if `prefix` is the opening of a walk that begins from the name o, then `last_name o` of `prefix ++ trail` is `last_name o` of `trail`: the opening
  -- has no name but o
  pub opening_last : (m : Mode) (o : List ℕ) (prefix trail : List VarBind) → IsOpening Got m o prefix → last_name o (prefix ++ trail) ≡ last_name o trail
  opening_last mode.Include o prefix trail (p, h, inl is) = rw is.1
  opening_last mode.Include o prefix trail (p, h, inr is) = rw (is.1, laws.same_name o p h)
  opening_last _ o prefix trail none = rw none

  -- if the next stage is reached, `goes_on` advances the walk: it continues, or has no id left
  pub goes : (given more : List VarBind) (w : WalkState) (next : Phase) → Reaches Next Got first w given
      → IsStage Next Got first (given ++ more) (last_name w.asked more) next → IsPaced Next Got first (given ++ more) (w.id + 1) next
      → Goes w given (goes_on w next more)
  goes given more w next h stage pace = grind (arith, common_steps, goes_by, length-append, part_of_stage)

  none_asked : (given : List VarBind) (o : List ℕ) → length given ≡ 0 → HasReturned Next Got first given o → o ≡ first.asked
  none_asked given o none h = grind (arith, common_steps, nil_from_length, length-append)

  plain_from : (m : Mode) → is_plain m ≡ true → m ≡ mode.Plain
  plain_from mode.Plain e = refl
  plain_from _ e = absurd (false≢true e)

  pub root_is : (w : WalkState) (given : List VarBind) → Reaches Next Got first w given → w.root ≡ first.root
  root_is w given h = ap (λ (v : WalkState). v.root) h.same

  -- a plain walk that returned nothing, and waits for the next instances, has sent no request before the waiting one
  plain_pace : (given : List VarBind) (w : WalkState) → w.phase ≡ phase.Rows → Reaches Next Got first w given → length given ≡ 0 → first.mode ≡ mode.Plain
      → w.id ≡ first.id
  plain_pace given w waits h none plain = grind (arith, common_steps, length-append, few_replies)

  -- the name that the walk asks from is the last one returned below the root, or the name that the walk began from if none was returned
  pub asked_last : (given : List VarBind) (o : List ℕ) (prefix trail : List VarBind) → HasReturned Next Got first given o → given ≡ prefix ++ trail
      → IsOpening Got first.mode first.asked prefix → o ≡ last_name first.asked trail
  asked_last given o prefix trail g parts opening = grind (arith, common_steps, opening_last)

  -- if a reply has at least one row, then `IsPaced` holds of the next id, after the rows of the reply
  pub more_pace : (given rows : List VarBind) (w : WalkState) → w.phase ≡ phase.Rows → Reaches Next Got first w given → HasReturned Next Got first given w.asked
      → IsTrail Next first.root w.asked rows → 1 ≤ length rows → IsPaced Next Got first (given ++ rows) (w.id + 1) phase.Rows
  more_pace given rows w waits h g trail some =
      let p = subst (IsPaced Next Got first given w.id) waits h.paced in
      let before : List VarBind = flat_map (λ r. r) p.replies in
      let last : w.asked ≡ last_name first.asked before = asked_last given w.asked p.prefix before g p.parts p.opening in
      let now : before ++ rows ≡ flat_map (λ r. r) (p.replies ++ rows ∷ []) = flat_map_more (λ (r : List VarBind). r) [] p.replies rows in
      record {
        prefix = p.prefix;
        replies = p.replies ++ rows ∷ [];
        parts = ap (λ (s : List VarBind). s ++ rows) p.parts ∙ append_assoc p.prefix before rows ∙ ap (λ (s : List VarBind). p.prefix ++ s) now;
        opening = p.opening;
        some = All-push (λ (r : List VarBind). r ≢ []) p.replies rows p.some (λ none. omega (arith, some, ap length none));
        is_trail = subst (IsTrail Next first.root first.asked) now
            (trail-append Next first.root first.asked before rows p.is_trail (subst (λ (n : List ℕ). IsTrail Next first.root n rows) last trail));
        ids = omega (arith, p.ids, length_push p.replies rows);
      }

  -- if no more instances are below the root, `closes` advances the walk
  pub closed : (given more : List VarBind) (w : WalkState) (o : List ℕ) → w.phase ≡ phase.Rows → Reaches Next Got first w given
      → HasReturned Next Got first given w.asked → HasReturned Next Got first (given ++ more) o → IsAtEnd Next first.root o → Goes w given (closes w more)
  closed given more w o waits h before after end =
      cond_both (is_plain w.mode && (w.count + length more == 0)) (goes_on w phase.Last []) (stops w more (ending.Done (w.count + length more))) (Goes w given)
      (λ both.
      let parts = and_parts (is_plain w.mode) (w.count + length more == 0) both in
      let none : w.count + length more ≡ 0 = eqb-true _ _ parts.1 in
      let no_given : length given ≡ 0 = omega (arith, none, h.count) in
      let asked : w.asked ≡ first.asked = none_asked given w.asked no_given before in
      let at : o ≡ first.asked = none_asked (given ++ more) o (omega (arith, none, h.count, length-append given more)) after in
      let plain : first.mode ≡ mode.Plain = sym (ap (λ (v : WalkState). v.mode) h.same) ∙ plain_from w.mode parts.0 in
      let pace : w.id ≡ first.id = plain_pace given w waits h no_given plain in
      goes given [] w phase.Last h (append-nil given ∙ nil_from_length given no_given, asked, plain, subst (IsAtEnd Next first.root) at end)
      (omega (arith, pace)))
      (λ other. (
        inr (inl (o, after)),
        (
          omega (arith, h.count, length-append given more),
          inl (
            o,
            after,
            end,
            λ plain none.
                let zero_count : w.count + length more ≡ 0 = omega (arith, h.count, ap length none, length-append given more) in
                false≢true (sym other ∙ and_from _ _ (ap is_plain (ap (λ (v : WalkState). v.mode) h.same ∙ plain)) (eq-eqb _ _ zero_count)),
          ),
        ),
      ))

  -- if a walk has returned `given` and asks next from the name o, and `rows` are a trail from o, then `HasReturned` holds of `given ++ rows`
  pub given_more : (given rows : List VarBind) (o : List ℕ) → HasReturned Next Got first given o → IsTrail Next first.root o rows
      → HasReturned Next Got first (given ++ rows) (last_name o rows)
  given_more given rows o h more = grind (arith, common_steps, append_assoc, trail-append, last_name-append)

  -- the rows at the start of an honest reply advance the walk, by what follows them
  reads_prefix : (given rows : List VarBind) (w : WalkState) (after : After) → w.phase ≡ phase.Rows → Reaches Next Got first w given
      → HasReturned Next Got first given w.asked → IsTrail Next first.root w.asked rows → EndsChain Next first.root (last_name w.asked rows) after
      → (after ≡ nothing → 1 ≤ length rows) → Goes w given (reads_as after w rows)
  reads_prefix given rows w nothing waits h before trail end some =
      goes given rows w phase.Rows h (given_more given rows w.asked before trail) (more_pace given rows w waits h before trail (some refl))
  reads_prefix given rows w leaving waits h before trail end some =
      closed given rows w (last_name w.asked rows) waits h before (given_more given rows w.asked before trail) end
  reads_prefix given rows w (falling name) waits h before trail end some = absurd end

  -- an honest reply with the next instances advances the walk
  reads_instances : (given bindings : List VarBind) (w : WalkState) → w.phase ≡ phase.Rows → Reaches Next Got first w given
      → HasReturned Next Got first given w.asked
      → IsChain Next w.asked bindings → length bindings ≤ asked_for w.method → (bindings ≡ [] → IsLarge Next (Large w.id) w.asked)
      → Goes w given (reads_next w bindings)
  reads_instances given [] w waits h before chain few large = grind (arith, common_steps, append-nil)
  reads_instances given (b ∷ more) w waits h before chain few large =
      let bindings = b ∷ more in
      let prefix = reply_rows w.root w.asked bindings in
      let fine : is_misplaced (asked_for w.method) bindings ≡ false =
      or_from _ _ (le-ltb _ _ few) (chain_has_values Next Got laws first.root w.asked bindings chain) in
      let is = subst (λ (r : List ℕ). IsTrailPrefix Next r w.asked prefix) (root_is w given h) (chain_prefix Next Got laws w.root w.asked bindings chain) in
      rw fine (reads_prefix given prefix.rows w prefix.after waits h before is.is_trail is.ends
      (λ all. omega (arith, ap length ((prefix_taken w.root w.asked bindings).1 all))))

  -- the binding that agents return for a Get is the one that `got` finds
  got_is : (o : List ℕ) (p : VarBind) → Got o p → got o (p ∷ []) ≡ Some p
  got_is o p h =
      let name : pointwise nat_eq p.name o ≡ true = ap (λ (n : List ℕ). pointwise nat_eq n o) (laws.same_name o p h) ∙ nat_list_eq_equiv.refl o in
      rw (name, laws.is_answer o p h)

  present_name : (o : List ℕ) (p : VarBind) → p.name ≡ o → last_name o (if_present p) ≡ o
  present_name o p e = cond_both (is_missing p.value) [] (p ∷ []) (λ s. last_name o s ≡ o) (λ _. refl) (λ _. e)

  -- the honest reply to the Get that begins a walk advances it
  pub reads_root : (given : List VarBind) (w : WalkState) (p : VarBind) → w.phase ≡ phase.First → Reaches Next Got first w given
      → IsStage Next Got first given w.asked phase.First
      → Got w.asked p → Goes w given (reads_first w (Some p))
  reads_root given w p waits h stage answer =
      let at : Got first.asked p = subst (λ (o : List ℕ). Got o p) stage.1 answer in
      let name : last_name w.asked (if_present p) ≡ w.asked = present_name w.asked p (laws.same_name w.asked p answer) in
      let parts : given ++ if_present p ≡ if_present p ++ [] = ap (λ (s : List VarBind). s ++ if_present p) stage.0 ∙ sym (append-nil (if_present p)) in
      let opening = subst (λ (m : Mode). IsOpening Got m first.asked (if_present p)) (sym stage.2) (p, at, present p) in
      let pace : w.id ≡ first.id = subst (IsPaced Next Got first given w.id) waits h.paced in
      let gets : opening_gets first.mode ≡ 1 = ap opening_gets stage.2 in
      goes given (if_present p) w phase.Rows h
      (record { prefix = if_present p; trail = []; parts = parts; opening = opening; is_trail = tt; last = name ∙ stage.1 })
      (record {
        prefix = if_present p;
        replies = [];
        parts = parts;
        opening = opening;
        some = All-nil (λ (r : List VarBind). r ≢ []);
        is_trail = tt;
        ids = omega (arith, pace, gets);
      })

  -- the honest reply to the Get that ends a walk advances it
  pub reads_alone : (given : List VarBind) (w : WalkState) (p : VarBind) → Reaches Next Got first w given → IsStage Next Got first given w.asked phase.Last
      → Got w.asked p → Goes w given (reads_last w (Some p))
  reads_alone given w p h stage answer = grind (arith, common_steps, length-append)

  -- a reply with honest content, which has what was asked for or tooBig, advances the walk
  reads_content : (given : List VarBind) (w : WalkState) (m : Message) (p : Phase) → w.phase ≡ p → Reaches Next Got first w given
      → IsStage Next Got first given w.asked p
      → IsReplyContent Next Got Large p w m → Goes w given (cond (int_eq m.a (pos 0)) (reads_for p w m.bindings) (stops w [] (ending.Fault m.a m.b)))
  reads_content given w m phase.First waits h stage (inl (fine, (p, answer, only))) = grind (arith, common_steps, got_is, reads_root)
  reads_content given w m phase.Rows waits h stage (inl c) = rw c.0 (reads_instances given m.bindings w waits h stage c.1 c.2 c.3)
  reads_content given w m phase.Last waits h stage (inl (fine, (p, answer, only))) = rw (fine, only, got_is w.asked p answer)
      (reads_alone given w p h stage answer)
  reads_content given w m phase.Over waits h stage c = absurd c
  reads_content given w m p waits h stage (inr c) = rw c.0 (rw append-nil (part_of_stage given w.asked p stage), (refl, c.1, rw waits c.2))

  pub waiting : (given : List VarBind) (o : List ℕ) (p : Phase) → IsStage Next Got first given o p → is_over p ≡ false
  waiting given o phase.Over h = absurd h
  waiting given o _ h = refl

  -- an honest reply to the waiting request advances the walk
  pub taken : (given : List VarBind) (w : WalkState) (m : Message) → Reaches Next Got first w given → IsReplyTo Next Got Large w m
      → Advances Next Got Large first w given (take_of w m).0 (take_of w m).1
  taken given w m h r = grind (arith, common_steps, and_from, waiting, response_to_decided, reads_content)

-- ---- what holds of a step whatever the reply is

-- what replaces `Large` if replies needn't be honest: any binding may have no room
abbrev pub Small : ℕ → VarBind → Type 0
Small id p = Unit {0}

pub rising_answers : AreLawfulReplies Increases Named
rising_answers = grind (arith, common_steps, after_test, no_end, miss_test, end_test)

-- a walk can end at any name (`IsAtEnd`), since any reply can have endOfMibView
anywhere : (root o : List ℕ) → IsAtEnd Increases root o
anywhere root o =
    let last : VarBind = record { name = o; value = end_of_mib_view } in
    (last, ((λ value. absurd (value refl)), no_miss last refl), (λ inside. inside.value refl))

-- the binding that `got` finds has the requested name
got_named : (o : List ℕ) (bindings : List VarBind) (p : VarBind) → got o bindings ≡ Some p → Named o p
got_named o [] p h = absurd cc
got_named o (b ∷ []) p h = cond_both (pointwise nat_eq b.name o && not (is_end b.value)) (Some b) None (λ g. g ≡ Some p → Named o p) (λ both e.
    let parts = and_parts _ _ both in
    let same : b ≡ p = cc in
    subst (Named o) same (same_text b.name o (sym parts.0), no_end b.value (not-true _ parts.1))) (λ _ e. absurd cc) h
got_named o (b ∷ c ∷ more) p h = absurd cc

-- the rows of any reply without noSuchObject and noSuchInstance are a trail of increasing names
rising_trail : ((o p : List ℕ) → comes_after o p ≡ true → Precedes o p) → (root o : List ℕ) (bindings : List VarBind)
    → list_any (λ p. is_missing p.value) bindings ≡ false → IsTrail Increases root o (reply_rows root o bindings).rows
rising_trail precedes root = prefixes_by root (λ o all prefix. list_any (λ p. is_missing p.value) all ≡ false → IsTrail Increases root o prefix.rows)
    (λ o v. tt)
    (λ o p more prefix i u later v.
    let parts = or_parts (is_missing p.value) (list_any (λ q. is_missing q.value) more) v in
    (((λ _. precedes o p.name u), no_miss p parts.0), (inside_decided root p).0 i, later parts.1)) (λ o p more i f v. tt) (λ o p more f v. tt)

module _ (first old : WalkState) (given : List VarBind) where
  abbrev IsAny : Step × WalkState → Type 0
  IsAny s = AdvancesAnyhow first old given s.0 s.1

  -- `Advances` holds of the step and the state in the pair s, with conditions that any reply meets (`Increases`, `Named`, `Small`)
  abbrev IsHonest : Step × WalkState → Type 0
  IsHonest s = Advances Increases Named Small first old given s.0 s.1

  goes_any : (more : List VarBind) (next : Phase) → IsHonest (goes_on old next more) → IsAny (goes_on old next more)
  goes_any more next = goes_by old (λ s. IsHonest s → IsAny s) next more (λ less h. (refl, omega arith, h)) (λ _ h. (tt, h.0, tt))

  closes_any : (more : List VarBind) → IsHonest (closes old more) → IsAny (closes old more)
  closes_any more = cond_both (is_plain old.mode && (old.count + length more == 0)) (goes_on old phase.Last [])
      (stops old more (ending.Done (old.count + length more))) (λ s. IsHonest s → IsAny s) (λ _. goes_any [] phase.Last) (λ _ h. (tt, h.0, h.1.0))

  pub taken_any : ((o p : List ℕ) → comes_after o p ≡ true → Precedes o p) → (m : Message) → is_awaited old m ≡ true
      → Reaches Increases Named first old given → AdvancesAnyhow first old given (take_of old m).0 (take_of old m).1
  taken_any precedes m awaited h = take_by old m IsAny (record {
    stray = λ other. absurd (false≢true (sym other ∙ awaited));
    fault = none (ending.Fault m.a m.b) tt tt;
    bad = none ending.BadReply tt tt;
    first = λ waits b e. goes_any (if_present b) phase.Rows (reads_root Increases Named Small rising_answers first given old b waits h (stage phase.First waits)
        (got_named old.asked m.bindings b e));
    last = λ waits b e.
        let alone = reads_alone Increases Named Small rising_answers first given old b h (stage phase.Last waits) (got_named old.asked m.bindings b e) in
        (tt, alone.0, alone.1.0);
    empty = λ _. none (ending.NoProgress old.asked) tt tt;
    next = λ waits _ some fine.
        let rows = given_of old m.bindings in
        let before : HasReturned Increases Named first given old.asked = stage phase.Rows waits in
        let trail : IsTrail Increases first.root old.asked rows =
        subst (λ (r : List ℕ). IsTrail Increases r old.asked rows) (root_is Increases Named Small rising_answers first old given h)
        (rising_trail precedes old.root old.asked m.bindings fine) in
        let after = given_more Increases Named Small rising_answers first given rows old.asked before trail in (
          (λ name last. (tt, inr (inl (last_name old.asked rows, after)), tt)),
          closes_any rows (closed Increases Named Small rising_answers first given rows old (last_name old.asked rows) waits h before after
              (anywhere first.root (last_name old.asked rows))),
          λ all. goes_any rows phase.Rows (goes Increases Named Small rising_answers first given rows old phase.Rows h after
              (more_pace Increases Named Small rising_answers first given rows old waits h before trail
              (omega (arith, some, ap length ((prefix_taken old.root old.asked m.bindings).1 all))))),
        );
  })
    where
      none : (why : WalkEnd) → IsReplyEnd why → CountsAll why (given ++ []) → IsAny (stops old [] why)
      none why own counts = (
        own,
        subst (IsPartOfWalk Increases Named first) (sym (append-nil given))
            (part_of_stage Increases Named Small rising_answers first given old.asked old.phase h.stage),
        counts,
      )

      stage : (p : Phase) → old.phase ≡ p → IsStage Increases Named first given old.asked p
      stage p waits = subst (IsStage Increases Named first given old.asked) waits h.stage

-- If replies hold all bindings asked for, a walk needs few requests (`fast_few`).
use Rattle.std.proofs.{lemmas.Grind.common_steps, Math.Nat.mul-suc, lemmas.Bool.cond_both, lemmas.Bool.false≢true, lemmas.Bool.or_from}
use Rattle.std.proofs.Common.{◌≡◌, ◌⊎◌, inl, inr, ℕ, ◌+◌, ◌*◌, ◌≤◌, false, List, [], ◌++◌, length, refl, sym, ◌∙◌, ap, subst, arith, append_assoc}
use Rattle.std.proofs.Common.{length-append, pos, add-one}
use Rattle.std.specs.List.{list_any}
use Rattle.snmp_wire.specs.Message.{VarBind, Message}
use Rattle.snmp_walk.specs.{declared.mode.Mode.Mode, declared.mode.Phase.Phase, declared.rows.Step.Step, Names.is_end, Trail.last_name}
use Rattle.snmp_walk.specs.{Trail.IsTrail, WalkState.WalkState, Request.first_phase, Request.asked_for, Room.HasRoomForAll, Run.Try, Run.IsFullReply}
use Rattle.snmp_walk.specs.{Facts.IsFresh, Facts.gets, private.ReplyRows.nothing, private.ReplyRows.reply_rows}
use Rattle.snmp_walk.specs.Link.{Agents, OneOf, IsNextFrom, IsGotFrom, IsTooLarge}
use Rattle.snmp_walk.specs.declared.mode.Mode.TheVariants as mode
use Rattle.snmp_walk.specs.declared.mode.Phase.TheVariants as phase
use Rattle.snmp_walk.specs.declared.rows.Step.TheVariants as step
use Rattle.snmp_walk.specs.private.ComputedStep.{stops, goes_on, if_present, take_of}
use Rattle.snmp_walk.specs.Progress.{IsOpening, IsStage, IsPaced, opening_gets, Reaches, IsReplyTo}
use Rattle.snmp_walk.proofs.{ComputedStep.goes_by, ComputedStep.given_of, ComputedStep.take_by, StepProgress.asked_last, StepProgress.root_is}
use Rattle.snmp_walk.proofs.{EnoughRoom.opening_is_get, EnoughRoom.HasFew, SortedRows.AreLawfulReplies, Trail.trail-append}
use Rattle.snmp_walk.proofs.{Trail.chain_prefix, ReplyRows.prefixes_by, ReplyRows.prefix_taken, Names.inside_value}

-- ---- a walk that continues

-- if all bindings are rows, none has endOfMibView
given_all : (root o : List ℕ) (bindings : List VarBind) → (reply_rows root o bindings).after ≡ nothing → list_any (λ q. is_end q.value) bindings ≡ false
given_all root = prefixes_by root (λ o all prefix. prefix.after ≡ nothing → list_any (λ q. is_end q.value) all ≡ false) (λ o e. refl)
    (λ o p more prefix i u later e. or_from _ _ (inside_value root p i) (later e)) (λ o p more i f e. absurd cc) (λ o p more f e. absurd cc)

-- if the step continues the walk w, whose next state is v, then m is the reply to the first Get; or v waits for the reply to the last Get; or m has no error,
-- all its bindings are rows, and none has endOfMibView
abbrev pub GoesFull : WalkState → Message → Step → WalkState → Type 0
GoesFull w m (step.Rows rows) v =
    (w.phase ≡ phase.First)
    ⊎ ((w.phase ≡ phase.Rows)
    × ((v.phase ≡ phase.Last)
    ⊎ ((m.a ≡ pos 0) × (rows ≡ given_of w m.bindings) × (rows ≡ m.bindings) × (list_any (λ q. is_end q.value) m.bindings ≡ false))))
GoesFull w m _ v = Unit {0}

take_full : (w : WalkState) (m : Message) → GoesFull w m (take_of w m).0 (take_of w m).1
take_full w m =
    let IsFullStep : Step × WalkState → Type 0 = λ s. GoesFull w m s.0 s.1 in
    take_by w m IsFullStep (record {
      stray = λ _. tt;
      fault = tt;
      bad = tt;
      first = λ waits b _. goes_by w IsFullStep phase.Rows (if_present b) (λ _. inl waits) (λ _. tt);
      last = λ _ b _. tt;
      empty = λ _. tt;
      next = λ waits status _ _. (
        (λ name last. tt),
        cond_both _ (goes_on w phase.Last []) (stops w _ _) IsFullStep
            (λ _. goes_by w IsFullStep phase.Last [] (λ _. inr (waits, inl refl)) (λ _. tt)) (λ _. tt),
        λ all. goes_by w IsFullStep phase.Rows (given_of w m.bindings)
            (λ _. inr (waits, inr (status, refl, (prefix_taken w.root w.asked m.bindings).1 all, given_all w.root w.asked m.bindings all))) (λ _. tt),
      );
    })

-- ---- the ids used so far

-- the agents have room for all bindings that each of these requests for the next instances asks for
abbrev pub AreRoomy : Agents → List Try → Type 0
AreRoomy agents requests = (t : Try) → OneOf requests t → t.by.phase ≡ phase.Rows → HasRoomForAll agents t.by

-- If there is room (`Roomy`) and the waiting request is for the next instances, some n exists: at most n such requests came before it, and n of them ask for
-- at most as many rows as were returned below the root.
abbrev pub IsFast : (Next Got : List ℕ → VarBind → Type 0) → Type 0 → WalkState → List VarBind → ℕ → Phase → Type 0
IsFast Next Got Roomy first given id phase.Rows =
    Roomy → (prefix : List VarBind) × (trail : List VarBind) × (given ≡ prefix ++ trail) × IsOpening Got first.mode first.asked prefix
    × IsTrail Next first.root first.asked trail × (n : ℕ) × (id ≤ first.id + opening_gets first.mode + n) × (asked_for first.method * n ≤ length trail)
IsFast Next Got Roomy first given id _ = Unit {0}

pub fast_first : (Next Got : List ℕ → VarBind → Type 0) (Roomy : Type 0) (first : WalkState) → IsFresh first
    → IsFast Next Got Roomy first [] first.id first.phase
fast_first Next Got Roomy first h = subst (IsFast Next Got Roomy first [] first.id) (sym h.phase) (by_mode first.mode refl)
  where
    by_mode : (m : Mode) → first.mode ≡ m → IsFast Next Got Roomy first [] first.id (first_phase m)
    by_mode mode.Include e = tt
    by_mode _ e = λ _. ([], [], refl, subst (λ (n : Mode). IsOpening Got n first.asked []) (sym e) refl, tt, 0, omega arith, omega arith)

more_times : (a n t r : ℕ) → a * n ≤ t → r ≡ a → a * (n + 1) ≤ t + r
more_times a n t r h e = subst (λ (k : ℕ). a * k ≤ t + r) (sym (add-one n)) (omega (arith, mul-suc a n, h, e))

module _ (agents : Agents) (laws : AreLawfulReplies (IsNextFrom agents) (IsGotFrom agents)) (first w v : WalkState) (given rows : List VarBind)
    (Roomy More : Type 0) (less : More → Roomy) (room : More → w.phase ≡ phase.Rows → HasRoomForAll agents w)
    (before : Reaches (IsNextFrom agents) (IsGotFrom agents) first w given) (after : Reaches (IsNextFrom agents) (IsGotFrom agents) first v (given ++ rows))
    (next : v.id ≡ w.id + 1) (m : Message)
    (reply : IsReplyTo (IsNextFrom agents) (IsGotFrom agents) (IsTooLarge agents) w m)
    (full : IsFullReply agents w m) (e : (take_of w m).0 ≡ step.Rows rows) (f : v ≡ (take_of w m).1) where
  abbrev Next : List ℕ → VarBind → Type 0
  Next = IsNextFrom agents

  abbrev Got : List ℕ → VarBind → Type 0
  Got = IsGotFrom agents

  rows_trail : w.phase ≡ phase.Rows → m.a ≡ pos 0 → rows ≡ given_of w m.bindings → IsTrail Next first.root w.asked rows
  rows_trail waits status is = grind (arith, common_steps, root_is, chain_prefix)

  by_phase : (q : Phase) → v.phase ≡ q → IsFast Next Got Roomy first given w.id w.phase → GoesFull w m (step.Rows rows) v
      → IsFast Next Got More first (given ++ rows) v.id q
  by_phase phase.Rows j fast (inl i) = grind (arith, common_steps)
  by_phase phase.Rows j fast (inr (i, inl last)) = absurd cc
  by_phase phase.Rows j fast (inr (i, inr h)) = λ more.
      let old = subst (IsFast Next Got Roomy first given w.id) i fast (less more) in
      let count : length m.bindings ≡ asked_for w.method =
      elim (full (room more i) i h.0) [ inl whole ↦ whole | inr end ↦ absurd (false≢true (sym h.3 ∙ end)) ] in
      let same : asked_for w.method ≡ asked_for first.method = ap (λ (x : WalkState). asked_for x.method) before.same in
      let trail = rows_trail i h.0 h.1 in
      let stage = subst (IsStage Next Got first given w.asked) i before.stage in
      let last : w.asked ≡ last_name first.asked old.1 =
      asked_last Next Got (IsTooLarge agents) laws first given w.asked old.0 old.1 stage old.2 old.3 in
      let long : length (old.1 ++ rows) ≡ length old.1 + length rows = length-append old.1 rows in (
        old.0,
        old.1 ++ rows,
        ap (λ (s : List VarBind). s ++ rows) old.2 ∙ append_assoc old.0 old.1 rows,
        old.3,
        trail-append Next first.root first.asked old.1 rows old.4 (subst (λ (o : List ℕ). IsTrail Next first.root o rows) last trail),
        old.5 + 1,
        omega (arith, next, old.6),
        subst (λ (k : ℕ). asked_for first.method * (old.5 + 1) ≤ k) (sym long)
            (more_times (asked_for first.method) old.5 (length old.1) (length rows) old.7 (ap length h.2 ∙ count ∙ same)),
      )
  by_phase _ j fast h = tt

  pub fast_on : IsFast Next Got Roomy first given w.id w.phase → IsFast Next Got More first (given ++ rows) v.id v.phase
  fast_on fast =
      by_phase v.phase refl fast (subst (GoesFull w m (step.Rows rows)) (sym f) (subst (λ (st : Step). GoesFull w m st (take_of w m).1) e (take_full w m)))

-- if each trail has at most `k` rows and there is room, then before the waiting request a walk has sent at most its Gets and `n` other requests, which ask for
-- at most `k` rows together
pub fast_few : (Next Got : List ℕ → VarBind → Type 0) (Roomy : Type 0) (first w : WalkState) (given : List VarBind) (k : ℕ)
    → HasFew Next first k → (p : Phase) → IsStage Next Got first given w.asked p
    → IsPaced Next Got first given w.id p → IsFast Next Got Roomy first given w.id p → Roomy
    → (n : ℕ) × (asked_for first.method * n ≤ k) × (w.id ≤ first.id + n + gets first.mode)
fast_few Next Got Roomy first w given k bound phase.First stage pace fast room = (0, omega arith, omega (arith, pace))
fast_few Next Got Roomy first w given k bound phase.Rows stage pace fast room = grind (arith, common_steps, opening_is_get)
fast_few Next Got Roomy first w given k bound phase.Last stage pace fast room = grind (arith, common_steps)
fast_few Next Got Roomy first w given k bound phase.Over stage pace fast room = absurd pace

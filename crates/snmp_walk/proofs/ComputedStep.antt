-- If P holds in each case of what a message can mean to a walk, it holds of `take_of` (`take_by`).
use Rattle.std.proofs.{lemmas.Grind.common_steps, lemmas.Bool.Decides.Decides-int_eq}
use Rattle.std.proofs.Common.{◌≡◌, ℕ, ◌+◌, ◌<◌, ◌≤◌, List, [], ◌∷◌, length, refl, sym, ap, subst, arith, pos, Some, false}
use Rattle.std.proofs.lemmas.Bool.{cond_both, or_parts, ltb-true, ltb-false}
use Rattle.std.specs.{Prelude.nat_lt, Prelude.◌&&◌, Prelude.not, List.list_any, Ordering.int_eq}
use Rattle.snmp_wire.specs.Message.{VarBind, Message}
use Rattle.snmp_walk.specs.declared.mode.Phase.{Phase}
use Rattle.snmp_walk.specs.{declared.rows.Step.Step, Names.is_missing, Trail.last_name, WalkState.WalkState, Facts.DeliversNoRows, Request.asked_for}
use Rattle.snmp_walk.specs.declared.mode.Phase.TheVariants as phase
use Rattle.snmp_walk.specs.declared.end.WalkEnd.TheVariants as ending
use Rattle.snmp_walk.specs.declared.rows.Step.TheVariants as step
use Rattle.snmp_walk.specs.private.ComputedStep.{awaits, is_awaited, is_over, stops, goes_on, closes, reads, reads_as, reads_next, got, if_present}
use Rattle.snmp_walk.specs.private.ComputedStep.{reads_for, reads_reply, take_of}
use Rattle.snmp_walk.specs.private.ReplyRows.{After, nothing, leaving, falling, reply_rows, is_misplaced}

-- if P holds in both cases, that the walk sends its next request and that no id is left, then it holds of `goes_on`
pub goes_by : (w : WalkState) (P : Step × WalkState → Type 0) (next : Phase) (rows : List VarBind)
    → (w.id < 2147483647 → P (step.Rows rows, record w { phase = next; asked = last_name w.asked rows; id = w.id + 1; count = w.count + length rows }))
    → (2147483647 ≤ w.id → P (stops w rows ending.TooManyRequests)) → P (goes_on w next rows)
goes_by w P next rows on none = cond_both (nat_lt w.id 2147483647) _ _ P (λ less. on (ltb-true _ _ less)) (λ more. none (ltb-false _ _ more))

-- the rows at the start of a reply, which the walk passes on
abbrev pub given_of : WalkState → List VarBind → List VarBind
given_of w bindings = (reply_rows w.root w.asked bindings).rows

-- P holds in each case of what m can mean
pub record Cases (w : WalkState) (m : Message) (P : Step × WalkState → Type 0) : Type 0 where
  pub stray : is_awaited w m ≡ false → P (step.Stray, w)
  pub fault : P (stops w [] (ending.Fault m.a m.b))
  pub bad : P (stops w [] ending.BadReply)
  pub first : w.phase ≡ phase.First → (b : VarBind) → got w.asked m.bindings ≡ Some b → P (goes_on w phase.Rows (if_present b))
  pub last : w.phase ≡ phase.Last → (b : VarBind) → got w.asked m.bindings ≡ Some b → P (stops w (b ∷ []) (ending.Done (w.count + 1)))
  pub empty : w.phase ≡ phase.Rows → P (stops w [] (ending.NoProgress w.asked))
  -- P holds in each of three cases for a reply with the next instances: a name isn't greater than the one before; a binding isn't below the root or has
  -- endOfMibView; or all bindings are rows
  pub next : w.phase ≡ phase.Rows → m.a ≡ pos 0 → 1 ≤ length m.bindings → list_any (λ p. is_missing p.value) m.bindings ≡ false
      → ((name last : List ℕ) → P (stops w (given_of w m.bindings) (ending.NotIncreasing last name))) × P (closes w (given_of w m.bindings))
      × ((reply_rows w.root w.asked m.bindings).after ≡ nothing → P (goes_on w phase.Rows (given_of w m.bindings)))

module _ (w : WalkState) (m : Message) (P : Step × WalkState → Type 0) (h : Cases w m P) where
  by_after : (bindings : List VarBind) (after : After) → ((name last : List ℕ) → P (stops w (given_of w bindings) (ending.NotIncreasing last name)))
      → P (closes w (given_of w bindings)) → (after ≡ nothing → P (goes_on w phase.Rows (given_of w bindings)))
      → P (reads_as after w (given_of w bindings))
  by_after bindings nothing falls leaves goes = goes refl
  by_after bindings leaving falls leaves goes = leaves
  by_after bindings (falling name) falls leaves goes = falls name (last_name w.asked (given_of w bindings))

  by_next : w.phase ≡ phase.Rows → m.a ≡ pos 0 → (bindings : List VarBind) → bindings ≡ m.bindings → P (reads_next w bindings)
  by_next waits status [] e = h.empty waits
  by_next waits status (b ∷ more) e = cond_both (is_misplaced (asked_for w.method) (b ∷ more)) _ _ P (λ _. h.bad) (λ fine.
      let parts = or_parts (nat_lt (asked_for w.method) (length (b ∷ more))) (list_any (λ p. is_missing p.value) (b ∷ more)) fine in
      let values = subst (λ (bs : List VarBind). list_any (λ p. is_missing p.value) bs ≡ false) e parts.1 in
      let n = h.next waits status (omega (arith, ap length e)) values in
      subst (λ (bs : List VarBind). P (reads w bs)) (sym e) (by_after m.bindings (reply_rows w.root w.asked m.bindings).after n.0 n.1 n.2))

  by_phase : m.a ≡ pos 0 → (p : Phase) → w.phase ≡ p → P (reads_for p w m.bindings)
  by_phase status phase.First waits = grind (arith, common_steps)
  by_phase status phase.Rows waits = by_next waits status m.bindings refl
  by_phase status phase.Last waits = grind (arith, common_steps)
  by_phase status phase.Over waits = h.stray (ap (λ (p : Phase). not (is_over p) && awaits w.community w.id m) waits)

  pub take_by : P (take_of w m)
  take_by = cond_both (is_awaited w m) (reads_reply w m) (step.Stray, w) P
      (λ _. cond_both (int_eq m.a (pos 0)) _ _ P (λ is. by_phase ((Decides-int_eq m.a (pos 0)).0 is) w.phase refl) (λ _. h.fault)) (λ other. h.stray other)

-- if the step ends the walk by an error status or by a reply without bindings, it passes on no rows
abbrev pub EndsEmpty : Step → Type 0
EndsEmpty (step.Last rows why) = DeliversNoRows why rows
EndsEmpty _ = Unit {0}

pub ends_empty : (w : WalkState) (m : Message) → EndsEmpty (take_of w m).0
ends_empty w m =
    let Empty : Step × WalkState → Type 0 = λ s. EndsEmpty s.0 in
    let goes : (p : Phase) (rows : List VarBind) → EndsEmpty (goes_on w p rows).0 = λ p rows. goes_by w Empty p rows (λ _. tt) (λ _. tt) in
    take_by w m Empty (record {
      stray = λ _. tt;
      fault = refl;
      bad = tt;
      first = λ _ b _. goes phase.Rows (if_present b);
      last = λ _ b _. tt;
      empty = λ _. refl;
      next = λ _ _ _ _. (
        (λ name last. tt),
        cond_both _ (goes_on w phase.Last []) (stops w _ _) Empty (λ _. goes phase.Last []) (λ _. tt),
        λ _. goes phase.Rows (given_of w m.bindings),
      );
    })

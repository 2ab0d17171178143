-- How the reply to a waiting request is read, and its rows are given to a sink.
use Rattle.std.specs.Prelude.{◌≡◌, ℕ, true, List, [], ◌∷◌, ◌++◌, Result, Ok, Err, Option, Some}
use Rattle.std.specs.Prelude.{None}
use Rattle.snmp_wire.specs.{Message.VarBind, Message.Message, Spelling.Spells}
use Rattle.snmp_walk.specs.{declared.end.SinkFault.SinkFault, declared.rows.Step.Step}
use Rattle.snmp_walk.specs.{private.Course.Heard, private.ComputedStep.awaits, Sink.TakesAll}
use Rattle.snmp_walk.specs.declared.end.WalkEnd.TheVariants as ending
use Rattle.snmp_walk.specs.declared.rows.Step.TheVariants as step
use Rattle.snmp_walk.specs.private.Course as heard
use Rattle.snmp_walk.specs.Link.{Outcome, answered, missed, cut_off}

-- the rows that a step passes on
abbrev pub rows_in : Step → List VarBind
rows_in step.Stray = []
rows_in (step.Rows rows) = rows
rows_in (step.Last rows why) = rows

-- ---- for private functions

-- whether the walk or the Get continues after a step, or how it ends
abbrev pub heard_after : Step → Heard
heard_after (step.Last rows why) = heard.ends why
heard_after _ = heard.goes_on

-- The rows of a step were passed to the sink, which went from `before` to `after`. It took all of
-- them, or it took the first ones, perhaps none, and refused the next. `what` says whether the
-- walk or the Get continues then, or how it ends.
pub data Delivers {S : Type 0} (takes : S → VarBind → Result (Unit {0}) SinkFault → S → Type 0)
    (given : Step) (before : S) (what : Heard) (after : S) : Type 0 where
  all_taken : what ≡ heard_after given → TakesAll takes before (rows_in given) after
      → Delivers takes given before what after
  is_refused : (fault : SinkFault) (rows : List VarBind) (p : VarBind) (left : List VarBind)
      (between : S) → rows_in given ≡ rows ++ p ∷ left → what ≡ heard.ends (ending.Sink fault)
      → TakesAll takes before rows between → takes between p (Err fault) after
      → Delivers takes given before what after

-- `datagram` encodes the reply with this community and request-id. The reply was read as one step,
-- whose rows were given to the sink.
pub record IsReadAs {W S : Type 0} (datagram : List ℕ) (community : List ℕ) (id : ℕ)
    (reads : Message → Step → W → Type 0)
    (takes : S → VarBind → Result (Unit {0}) SinkFault → S → Type 0) (before : S) (new : W)
    (after : S) (what : Heard) : Type 0 where
  pub message : Message
  pub spelt : Spells message datagram
  pub awaited : awaits community id message ≡ true
  pub given : Step
  pub read : reads message given new
  pub delivered : Delivers takes given before what after

-- The result of a call that waits for a reply, by the outcome `what` of the request. If a datagram
-- answered the request, the result is `Some`, and `IsReadSo` holds of the datagram and of what is
-- returned. If the reply was missed, it is `None`; if the link failed, an error. In the last two
-- cases `Same` holds.
abbrev pub Tells : {X E : Type 0} → (IsReadSo : List ℕ → X → Type 0) → (Same : Type 0)
    → Result (Option X) E → Outcome → Type 0
Tells IsReadSo Same (Ok (Some x)) what = (datagram : List ℕ) × (what ≡ answered datagram)
    × IsReadSo datagram x
Tells IsReadSo Same (Ok None) what = (what ≡ missed) × Same
Tells IsReadSo Same (Err e) what = (what ≡ cut_off) × Same

-- What a sink was given: bindings that it took, each in the state that the one before left, and
-- perhaps one that it refused.
use Rattle.std.specs.Prelude.{◌≡◌, List, [], ◌∷◌, Result, Ok, Err}
use Rattle.snmp_wire.specs.Message.{VarBind}
use Rattle.snmp_walk.specs.{declared.end.SinkFault.SinkFault, declared.end.WalkEnd.WalkEnd}
use Rattle.snmp_walk.specs.declared.end.WalkEnd.TheVariants as ending

-- the sink took these bindings, and went from `old` to `new`
abbrev pub TakesAll : {S : Type 0} → (S → VarBind → Result (Unit {0}) SinkFault → S → Type 0) → S
    → List VarBind → S → Type 0
TakesAll {S} takes old [] new = new ≡ old
TakesAll {S} takes old (p ∷ more) new = (between : S) × takes old p (Ok tt) between
    × TakesAll takes between more new

-- `refused` is one binding, which the sink refused
abbrev pub Refused : {S : Type 0} → (S → VarBind → Result (Unit {0}) SinkFault → S → Type 0) → S
    → List VarBind → SinkFault → S → Type 0
Refused {S} takes old refused fault new = (p : VarBind) × (refused ≡ p ∷ [])
    × takes old p (Err fault) new

-- The sink took `rows`. If the run ended with `Sink`, the sink then refused the one binding in
-- `refused`. Otherwise `refused` is empty.
abbrev pub Took : {S : Type 0} → (S → VarBind → Result (Unit {0}) SinkFault → S → Type 0) → S
    → (rows refused : List VarBind) → WalkEnd → S → Type 0
Took {S} takes old rows refused (ending.Sink fault) new = (between : S)
    × TakesAll takes old rows between × Refused takes between refused fault new
Took {S} takes old rows refused _ new = TakesAll takes old rows new × (refused ≡ [])

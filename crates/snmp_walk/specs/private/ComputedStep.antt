-- What a message means to a walk, computed. Only private clauses use it; public ones use the rules
-- of `specs/StepRules.antt`, which say the same.
use Rattle.std.specs.Prelude.{ℕ, pos, Bool, true, false, ◌&&◌, not, ◌==◌, nat_lt}
use Rattle.std.specs.Prelude.{if◌then◌else◌, ◌+◌, List, [], ◌∷◌, length, Option, Some, None}
use Rattle.std.specs.{Bool.nat_eq, Ordering.int_eq, Cmp.Lexicographic.pointwise}
use Rattle.snmp_wire.specs.{declared.kind.Kind.Kind, Message.VarBind, Message.Message}
use Rattle.snmp_wire.specs.declared.kind.Kind.TheVariants as kind
use Rattle.snmp_walk.specs.{declared.mode.Mode.Mode, declared.mode.Phase.Phase}
use Rattle.snmp_walk.specs.{declared.end.WalkEnd.WalkEnd, declared.rows.Step.Step}
use Rattle.snmp_walk.specs.{Request.asked_for, Trail.last_name, WalkState.WalkState}
use Rattle.snmp_walk.specs.declared.mode.Mode.TheVariants as mode
use Rattle.snmp_walk.specs.declared.mode.Phase.TheVariants as phase
use Rattle.snmp_walk.specs.declared.end.WalkEnd.TheVariants as ending
use Rattle.snmp_walk.specs.declared.rows.Step.TheVariants as step
use Rattle.snmp_walk.specs.private.ReplyRows as reading
use Rattle.snmp_walk.specs.private.ReplyRows.{After, reply_rows, is_misplaced}
use Rattle.snmp_walk.specs.Names.{is_end, is_missing}

abbrev pub is_over : Phase → Bool
is_over phase.Over = true
is_over _ = false

abbrev pub is_response : Kind → Bool
is_response kind.Response = true
is_response _ = false

-- whether m is a Response of SNMPv2c with this community and request-id
abbrev pub awaits : List ℕ → ℕ → Message → Bool
awaits community id m =
    int_eq m.version (pos 1) && pointwise nat_eq m.community community && is_response m.kind
    && int_eq m.id (pos id)

-- whether m is the reply to the waiting request
abbrev pub is_awaited : WalkState → Message → Bool
is_awaited w m = not (is_over w.phase) && awaits w.community w.id m

-- the walk passes on these rows and ends
abbrev pub stops : WalkState → List VarBind → WalkEnd → Step × WalkState
stops w rows why = (step.Last rows why, record w { phase = phase.Over })

-- the walk passes on these rows and sends its next request, or ends if no id is left
abbrev pub goes_on : WalkState → Phase → List VarBind → Step × WalkState
goes_on w next rows =
    if nat_lt w.id 2147483647
    then (
      step.Rows rows,
      record w {
        phase = next;
        asked = last_name w.asked rows;
        id = w.id + 1;
        count = w.count + length rows;
      },
    )
    else stops w rows ending.TooManyRequests

abbrev pub is_plain : Mode → Bool
is_plain mode.Plain = true
is_plain _ = false

-- No more instances are below the root: a plain walk that has passed on nothing, and has no rows
-- now, asks for the root itself or ends if no id is left. Any other walk is done.
abbrev pub closes : WalkState → List VarBind → Step × WalkState
closes w rows =
    if is_plain w.mode && (w.count + length rows == 0)
    then goes_on w phase.Last []
    else stops w rows (ending.Done (w.count + length rows))

-- what the rows at the start of a reply mean, by what follows them
abbrev pub reads_as : After → WalkState → List VarBind → Step × WalkState
reads_as reading.nothing w rows = goes_on w phase.Rows rows
reads_as reading.leaving w rows = closes w rows
reads_as (reading.falling name) w rows =
    stops w rows (ending.NotIncreasing (last_name w.asked rows) name)

-- what the bindings of a reply with the next instances mean, if there are some, and `is_misplaced`
-- doesn't hold of them
abbrev pub reads : WalkState → List VarBind → Step × WalkState
reads w bindings =
    let prefix = reply_rows w.root w.asked bindings in reads_as prefix.after w prefix.rows

-- what the bindings of a reply with the next instances mean
abbrev pub reads_next : WalkState → List VarBind → Step × WalkState
reads_next w [] = stops w [] (ending.NoProgress w.asked)
reads_next w (b ∷ more) =
    if is_misplaced (asked_for w.method) (b ∷ more)
    then stops w [] ending.BadReply
    else reads w (b ∷ more)

-- the only binding of a reply to a Get, if it has the name asked for and isn't endOfMibView
abbrev pub got : List ℕ → List VarBind → Option VarBind
got asked [] = None
got asked (b ∷ []) = if pointwise nat_eq b.name asked && not (is_end b.value) then Some b else None
got asked (b ∷ c ∷ more) = None

-- the binding, if it has a value
abbrev pub if_present : VarBind → List VarBind
if_present b = if is_missing b.value then [] else b ∷ []

-- what the reply to the Get of the root that begins a walk means, by its binding (`got`)
abbrev pub reads_first : WalkState → Option VarBind → Step × WalkState
reads_first w None = stops w [] ending.BadReply
reads_first w (Some b) = goes_on w phase.Rows (if_present b)

-- what the reply to the Get of the root that ends a plain walk means, by its binding (`got`)
abbrev pub reads_last : WalkState → Option VarBind → Step × WalkState
reads_last w None = stops w [] ending.BadReply
reads_last w (Some b) = stops w (b ∷ []) (ending.Done (w.count + 1))

abbrev pub reads_for : Phase → WalkState → List VarBind → Step × WalkState
reads_for phase.First w bindings = reads_first w (got w.asked bindings)
reads_for phase.Rows w bindings = reads_next w bindings
reads_for phase.Last w bindings = reads_last w (got w.asked bindings)
reads_for phase.Over w bindings = (step.Stray, w)

-- what the reply m means: an error status ends the walk; without one, the bindings decide
abbrev pub reads_reply : WalkState → Message → Step × WalkState
reads_reply w m = if int_eq m.a (pos 0) then reads_for w.phase w m.bindings else stops w []
    (ending.Fault m.a m.b)

-- what m means to the walk w, and the state of the walk after it
abbrev pub take_of : WalkState → Message → Step × WalkState
take_of w m = if is_awaited w m then reads_reply w m else (step.Stray, w)

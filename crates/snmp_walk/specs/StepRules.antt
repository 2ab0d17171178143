-- What a message means to a walk, rule by rule (RFC 3416, sections 3 and 4.2, and
-- docs/REFERENCE.md), in terms of the names and bindings of the message. w is the state of the
-- walk before the message, `given` the step that the message means, and `new` the state after it.
use Rattle.std.specs.Prelude.{◌≡◌, ◌≢◌, ◌⊎◌, ℕ, pos, ◌<◌, ◌≤◌, ◌+◌, List, [], ◌∷◌, ◌++◌, length}
use Rattle.snmp_oid.specs.Identifier.{Precedes}
use Rattle.snmp_wire.specs.declared.kind.Kind.TheVariants as kind
use Rattle.snmp_wire.specs.Message.{VarBind, Message, end_of_mib_view}
use Rattle.snmp_wire.specs.Spelling.{Spells}
use Rattle.snmp_walk.specs.declared.mode.Mode.TheVariants as mode
use Rattle.snmp_walk.specs.{declared.mode.Phase.Phase, declared.end.WalkEnd.WalkEnd}
use Rattle.snmp_walk.specs.{declared.rows.Step.Step, Link.OneOf, Instances.IsInside}
use Rattle.snmp_walk.specs.{Instances.IsMissing, Request.asked_for, Trail.last_name}
use Rattle.snmp_walk.specs.{WalkState.WalkState}
use Rattle.snmp_walk.specs.declared.mode.Phase.TheVariants as phase
use Rattle.snmp_walk.specs.declared.end.WalkEnd.TheVariants as ending
use Rattle.snmp_walk.specs.declared.rows.Step.TheVariants as step

-- m is a Response of SNMPv2c (whose version number is 1) with this community and request-id
pub record IsResponseTo (community : List ℕ) (id : ℕ) (m : Message) : Type 0 where
  pub version : m.version ≡ pos 1
  pub community_is : m.community ≡ community
  pub kind : m.kind ≡ kind.Response
  pub id_is : m.id ≡ pos id

-- The walk waits for a reply, and m is this reply: the Response with the walk's community and the
-- id of the waiting request. Any other message is a stray.
pub record IsAwaitedReply (w : WalkState) (m : Message) : Type 0 where
  pub waits : w.phase ≢ phase.Over
  pub response : IsResponseTo w.community w.id m

-- The walk passes on these rows and ends with `why`. After that it waits for nothing.
abbrev pub EndsBy : WalkState → List VarBind → WalkEnd → Step → WalkState → Type 0
EndsBy w rows why given new = (given ≡ step.Last rows why) × (new ≡ record w { phase = phase.Over })

-- The walk passes on these rows and sends its next request, of phase `next`. The request has the
-- next id, and the name of the last row or, if there are no rows, the same name as before.
abbrev pub AsksOn : WalkState → Phase → List VarBind → Step → WalkState → Type 0
AsksOn w next rows given new =
    (given ≡ step.Rows rows)
    × (new ≡ record w {
      phase = next;
      asked = last_name w.asked rows;
      id = w.id + 1;
      count = w.count + length rows;
    })

-- The walk passes on these rows and sends its next request, of phase `next`. If no id is left,
-- since the last id is 2147483647, it passes on the rows and ends.
abbrev pub GoesOn : WalkState → Phase → List VarBind → Step → WalkState → Type 0
GoesOn w next rows given new =
    ((w.id < 2147483647) × AsksOn w next rows given new)
    ⊎ ((2147483647 ≤ w.id) × EndsBy w rows ending.TooManyRequests given new)

-- w is a plain walk that has passed on nothing, and `rows` is empty
pub record GivesNothing (w : WalkState) (rows : List VarBind) : Type 0 where
  pub plain : w.mode ≡ mode.Plain
  pub before : w.count ≡ 0
  pub now : rows ≡ []

-- No more instances are below the root. A plain walk that has passed on nothing, and has no rows
-- now, continues with a Get of the name that it asked from, the root, or ends if no id is left. Any
-- other walk passes on the rows and is done, with the number of all bindings passed on.
abbrev pub Closes : WalkState → List VarBind → Step → WalkState → Type 0
Closes w rows given new =
    (GivesNothing w rows × GoesOn w phase.Last [] given new)
    ⊎ ((GivesNothing w rows → ⊥) × EndsBy w rows (ending.Done (w.count + length rows)) given new)

-- each binding has a name below the root and isn't endOfMibView (`IsInside`); the first name comes
-- after o, and each other name after the one before it
abbrev pub AreRowsFrom : (root o : List ℕ) → List VarBind → Type 0
AreRowsFrom root o [] = Unit {0}
AreRowsFrom root o (b ∷ more) = IsInside root b × Precedes o b.name × AreRowsFrom root b.name more

-- there are more bindings than w asked for, or one of them has noSuchObject or noSuchInstance
abbrev pub AreMisplaced : WalkState → List VarBind → Type 0
AreMisplaced w bindings = (asked_for w.method < length bindings)
    ⊎ ((b : VarBind) × OneOf bindings b × IsMissing b)

-- What the walk does with `rows`, by the bindings `rest` that follow them in the reply. If none
-- follow, the walk continues, if an id is left (`GoesOn`). If the first that follows isn't below
-- the root or has endOfMibView, there are no more instances (`Closes`). Otherwise its name isn't
-- greater than the name before it: the walk passes on `rows` and ends with `NotIncreasing`.
abbrev pub FollowsBy : WalkState → (rows rest : List VarBind) → Step → WalkState → Type 0
FollowsBy w rows [] given new = GoesOn w phase.Rows rows given new
FollowsBy w rows (b ∷ _) given new =
    ((IsInside w.root b → ⊥) × Closes w rows given new)
    ⊎ (IsInside w.root b × (Precedes (last_name w.asked rows) b.name → ⊥)
    × EndsBy w rows (ending.NotIncreasing (last_name w.asked rows) b.name) given new)

-- the bindings are `rows`, which are below the root and have increasing names (`AreRowsFrom`), and
-- then `rest`, which decides what the walk does with the rows (`FollowsBy`)
pub record ReadsRows (w : WalkState) (bindings : List VarBind) (given : Step)
    (new : WalkState) : Type 0 where
  pub rows : List VarBind
  pub rest : List VarBind
  pub parts : bindings ≡ rows ++ rest
  pub are_rows : AreRowsFrom w.root w.asked rows
  pub follows : FollowsBy w rows rest given new

-- What the bindings of a reply to GetNext or GetBulk mean. If there are none, the walk ends with
-- `NoProgress`. If there are more than asked for, or one has noSuchObject or noSuchInstance, it
-- ends with `BadReply`. Otherwise `ReadsRows` says what they mean.
abbrev pub MeansNext : WalkState → List VarBind → Step → WalkState → Type 0
MeansNext w [] given new = EndsBy w [] (ending.NoProgress w.asked) given new
MeansNext w (b ∷ more) given new =
    (AreMisplaced w (b ∷ more) × EndsBy w [] ending.BadReply given new)
    ⊎ ((AreMisplaced w (b ∷ more) → ⊥) × ReadsRows w (b ∷ more) given new)

-- b is the only one of the bindings; its name is `asked`, and its value isn't endOfMibView
pub record IsGot (asked : List ℕ) (bindings : List VarBind) (b : VarBind) : Type 0 where
  pub alone : bindings ≡ b ∷ []
  pub name : b.name ≡ asked
  pub value : b.value ≢ end_of_mib_view

-- What the bindings of a reply to a Get mean. If they are one binding with the name asked for and
-- not endOfMibView, `Means` holds of that binding. Otherwise the walk ends with `BadReply`.
abbrev pub MeansGot : WalkState → List VarBind → (VarBind → Type 0) → Step → WalkState → Type 0
MeansGot w bindings Means given new =
    ((b : VarBind) × IsGot w.asked bindings b × Means b)
    ⊎ (((b : VarBind) → IsGot w.asked bindings b → ⊥) × EndsBy w [] ending.BadReply given new)

-- What b means, if b is the binding of the reply to the first Get of the root. If b has a value,
-- it is passed on. With or without a value, the walk then continues with the instances below the
-- root, if an id is left.
abbrev pub MeansRoot : WalkState → Step → WalkState → VarBind → Type 0
MeansRoot w given new b =
    (IsMissing b × GoesOn w phase.Rows [] given new)
    ⊎ ((IsMissing b → ⊥) × GoesOn w phase.Rows (b ∷ []) given new)

-- What the bindings of the reply mean, by the phase of its request: the first Get of the root; a
-- request for the next instances; or the last Get of the root, whose binding is passed on with or
-- without a value.
abbrev pub MeansFor : Phase → WalkState → List VarBind → Step → WalkState → Type 0
MeansFor phase.First w bindings given new = MeansGot w bindings (MeansRoot w given new) given new
MeansFor phase.Rows w bindings given new = MeansNext w bindings given new
MeansFor phase.Last w bindings given new = MeansGot w bindings
    (λ b. EndsBy w (b ∷ []) (ending.Done (w.count + 1)) given new) given new
MeansFor phase.Over w bindings given new = ⊥

-- what the reply m means: an error status ends the walk; without one, the bindings decide
abbrev pub MeansReply : WalkState → Message → Step → WalkState → Type 0
MeansReply w m given new =
    ((m.a ≡ pos 0) × MeansFor w.phase w m.bindings given new)
    ⊎ ((m.a ≢ pos 0) × EndsBy w [] (ending.Fault m.a m.b) given new)

-- the message is a stray, which changes nothing
abbrev pub IsStray : WalkState → Step → WalkState → Type 0
IsStray w given new = (given ≡ step.Stray) × (new ≡ w)

-- m means `given` to the walk w, whose state after it is `new`
abbrev pub Means : WalkState → Message → Step → WalkState → Type 0
Means w m given new =
    (IsAwaitedReply w m × MeansReply w m given new)
    ⊎ ((IsAwaitedReply w m → ⊥) × IsStray w given new)

-- What a datagram means: if it encodes a message, what that message means. A datagram that encodes
-- no message is a stray.
abbrev pub MeansBy : WalkState → List ℕ → Step → WalkState → Type 0
MeansBy w datagram given new =
    ((m : Message) × Spells m datagram × Means w m given new)
    ⊎ (((m : Message) → Spells m datagram → ⊥) × IsStray w given new)

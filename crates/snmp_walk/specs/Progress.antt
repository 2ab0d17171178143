-- The progress of a walk between two replies, and how it can end, if each reply honestly answers
-- the waiting request. The agents are given by three relations:
-- `Next o p`: a GetNext of o may return p.
-- `Got o p`: a Get of o may return p.
-- `Large id p`: the reply with this id has no room for p.
use Rattle.std.specs.Prelude.{◌≡◌, ◌≢◌, ℕ, ◌+◌, ◌^◌, ◌<◌, pos, ◌≤◌, ◌⊎◌, List, [], ◌∷◌, ◌++◌, All}
use Rattle.std.specs.Prelude.{flat_map, length}
use Rattle.snmp_oid.specs.Identifier.{Precedes}
use Rattle.snmp_wire.specs.Message.{VarBind, Message, end_of_mib_view}
use Rattle.snmp_walk.specs.{declared.mode.Mode.Mode, declared.mode.Phase.Phase}
use Rattle.snmp_walk.specs.{declared.end.WalkEnd.WalkEnd, declared.rows.Step.Step}
use Rattle.snmp_walk.specs.{StepRules.IsResponseTo, Instances.IsMissing, Trail.last_name}
use Rattle.snmp_walk.specs.{Trail.IsTrail, Trail.IsAtEnd, Request.asked_for, WalkState.WalkState}
use Rattle.snmp_walk.specs.declared.mode.Mode.TheVariants as mode
use Rattle.snmp_walk.specs.declared.mode.Phase.TheVariants as phase
use Rattle.snmp_walk.specs.declared.end.WalkEnd.TheVariants as ending
use Rattle.snmp_walk.specs.declared.rows.Step.TheVariants as step

-- there is a binding p that agents may return for the name o (`Answer o p`), and for which a reply
-- has no room (`Large p`)
abbrev pub IsLarge : (List ℕ → VarBind → Type 0) → (VarBind → Type 0) → List ℕ → Type 0
IsLarge Answer Large o = (p : VarBind) × Answer o p × Large p

-- `prefix` is p only, or empty if p has noSuchObject or noSuchInstance in place of a value
abbrev pub IsRowIfPresent : VarBind → List VarBind → Type 0
IsRowIfPresent p prefix =
    (IsMissing p × (prefix ≡ [])) ⊎ ((IsMissing p → ⊥) × (prefix ≡ p ∷ []))

-- `prefix` is what a walk returns before the instances below its root: the root's own instance, if
-- the walk includes the root and there is one, and otherwise nothing
abbrev pub IsOpening : (List ℕ → VarBind → Type 0) → Mode → List ℕ → List VarBind → Type 0
IsOpening Got mode.Include o prefix = (p : VarBind) × Got o p × IsRowIfPresent p prefix
IsOpening Got _ o prefix = prefix ≡ []

-- the walk that began as `first` has returned `given`, an opening (`IsOpening`) and then a trail,
-- and asks next from the name o
pub record HasReturned (Next Got : List ℕ → VarBind → Type 0) (first : WalkState)
    (given : List VarBind) (o : List ℕ) : Type 0 where
  pub prefix : List VarBind
  pub trail : List VarBind
  pub parts : given ≡ prefix ++ trail
  pub opening : IsOpening Got first.mode first.asked prefix
  pub is_trail : IsTrail Next first.root first.asked trail
  pub last : o ≡ last_name first.asked trail

-- A plain walk has returned only the result of a Get of its root, since a GetNext of the root may
-- return a binding that ends the walk.
pub record IsAlone (Next Got : List ℕ → VarBind → Type 0) (first : WalkState)
    (given : List VarBind) : Type 0 where
  pub plain : first.mode ≡ mode.Plain
  pub none : IsAtEnd Next first.root first.asked
  pub answer : VarBind
  pub is_answer : Got first.asked answer
  pub only : given ≡ answer ∷ []

-- `given` is a prefix of what the walk that began as `first` may return, perhaps empty
abbrev pub IsPartOfWalk : (Next Got : List ℕ → VarBind → Type 0) → WalkState → List VarBind → Type 0
IsPartOfWalk Next Got first given =
    (given ≡ [])
    ⊎ (((o : List ℕ) × HasReturned Next Got first given o) ⊎ IsAlone Next Got first given)

-- `given` may be all that the walk that began as `first` returns
abbrev pub IsWholeWalk : (Next Got : List ℕ → VarBind → Type 0) → WalkState → List VarBind → Type 0
IsWholeWalk Next Got first given =
    ((o : List ℕ) × HasReturned Next Got first given o × IsAtEnd Next first.root o
    × (first.mode ≡ mode.Plain → given ≢ [])) ⊎ IsAlone Next Got first given

-- before a request of this phase, the walk that began as `first` has returned `given`; the request
-- asks for the name o, or from it
abbrev pub IsStage : (Next Got : List ℕ → VarBind → Type 0) → WalkState → List VarBind → List ℕ
    → Phase → Type 0
IsStage Next Got first given o phase.First = (given ≡ []) × (o ≡ first.asked)
    × (first.mode ≡ mode.Include)
IsStage Next Got first given o phase.Rows = HasReturned Next Got first given o
IsStage Next Got first given o phase.Last = (given ≡ []) × (o ≡ first.asked)
    × (first.mode ≡ mode.Plain) × IsAtEnd Next first.root first.asked
IsStage Next Got first given o phase.Over = ⊥

-- the number of Gets of the root that a walk begins with: one if it includes the root
abbrev pub opening_gets : Mode → ℕ
opening_gets mode.Include = 1
opening_gets _ = 0

-- Each request before the waiting one used one id, and its reply had a part of `given`: the reply
-- to the first Get of a walk that includes its root had the root's own row, if it exists, and each
-- other reply at least one row below the root.
pub record HasAsked (Next Got : List ℕ → VarBind → Type 0) (first : WalkState)
    (given : List VarBind) (id : ℕ) : Type 0 where
  pub prefix : List VarBind
  pub replies : List (List VarBind)
  pub parts : given ≡ prefix ++ flat_map (λ rows. rows) replies
  pub opening : IsOpening Got first.mode first.asked prefix
  pub some : All (λ rows. rows ≢ []) replies
  pub is_trail : IsTrail Next first.root first.asked (flat_map (λ rows. rows) replies)
  pub ids : id ≡ first.id + opening_gets first.mode + length replies

-- `id`, of the waiting request, is the walk's first id plus the number of requests before: none
-- before the first Get, as many as `HasAsked` says before a request for the next instances, and
-- one before the Get that ends a plain walk.
abbrev pub IsPaced : (Next Got : List ℕ → VarBind → Type 0) → WalkState → List VarBind → ℕ → Phase
    → Type 0
IsPaced Next Got first given id phase.First = id ≡ first.id
IsPaced Next Got first given id phase.Rows = HasAsked Next Got first given id
IsPaced Next Got first given id phase.Last = id ≡ first.id + 1
IsPaced Next Got first given id phase.Over = ⊥

-- the walk that began as `first` has returned `given`, and waits for a reply in state w
pub record Reaches (Next Got : List ℕ → VarBind → Type 0) (first w : WalkState)
    (given : List VarBind) : Type 0 where
  pub same : w ≡ record first { phase = w.phase; asked = w.asked; id = w.id; count = w.count }
  pub count : w.count ≡ length given
  pub paced : IsPaced Next Got first given w.id w.phase
  pub stage : IsStage Next Got first given w.asked w.phase

-- agents may return, for a request of this phase that asks for o or from o, a binding that has no
-- room
abbrev pub IsReplyTooLarge : (Next Got : List ℕ → VarBind → Type 0) → (VarBind → Type 0) → Phase
    → List ℕ → Type 0
IsReplyTooLarge Next Got Large phase.First o = IsLarge Got Large o
IsReplyTooLarge Next Got Large phase.Rows o = IsLarge Next Large o
IsReplyTooLarge Next Got Large phase.Last o = IsLarge Got Large o
IsReplyTooLarge Next Got Large phase.Over o = ⊥

-- The walk can end in this way after it returned `given`; in state w it waited for the reply that
-- ends it. An error status is tooBig with index 0, and an error status or no progress occurs only
-- if a binding has no room. There are too many requests only after the last id. An honest
-- reply never ends the walk with `BadReply` or `NotIncreasing`.
abbrev pub Ends : (Next Got : List ℕ → VarBind → Type 0) → (ℕ → VarBind → Type 0) → WalkState
    → WalkState → List VarBind → WalkEnd → Type 0
Ends Next Got Large first w given (ending.Done n) = (n ≡ length given)
    × IsWholeWalk Next Got first given
Ends Next Got Large first w given (ending.Fault status index) = (status ≡ pos 1)
    × (index ≡ pos 0) × IsReplyTooLarge Next Got (Large w.id) w.phase w.asked
Ends Next Got Large first w given (ending.NoProgress o) = (w.phase ≡ phase.Rows) × (o ≡ w.asked)
    × IsLarge Next (Large w.id) o
Ends Next Got Large first w given ending.TooManyRequests = 2147483647 ≤ w.id
Ends Next Got Large first w given _ = ⊥

-- What replaces `Next o p` if replies needn't be honest: p isn't noSuchObject or noSuchInstance
-- and, unless it is endOfMibView, its name comes after o.
abbrev pub Increases : List ℕ → VarBind → Type 0
Increases o p = (p.value ≢ end_of_mib_view → Precedes o p.name) × (IsMissing p → ⊥)

-- what replaces `Got o p` if replies needn't be honest: p has the name o and isn't endOfMibView
abbrev pub Named : List ℕ → VarBind → Type 0
Named o p = (p.name ≡ o) × (p.value ≢ end_of_mib_view)

-- a reply can end a walk in this way
abbrev pub IsReplyEnd : WalkEnd → Type 0
IsReplyEnd ending.RequestTooLong = ⊥
IsReplyEnd ending.NoResponse = ⊥
IsReplyEnd ending.Link = ⊥
IsReplyEnd (ending.Sink fault) = ⊥
IsReplyEnd _ = Unit {0}

-- if the walk is done, the number that it ends with is the number of the bindings `given`
abbrev pub CountsAll : WalkEnd → List VarBind → Type 0
CountsAll (ending.Done n) given = n ≡ length given
CountsAll _ given = Unit {0}

-- a GetNext of o may return the first binding, and a GetNext of each binding's name the next one
abbrev pub IsChain : (List ℕ → VarBind → Type 0) → List ℕ → List VarBind → Type 0
IsChain Next o [] = Unit {0}
IsChain Next o (p ∷ more) = Next o p × IsChain Next p.name more

-- ---- for private functions

-- m has the content of an honest reply to a Get of o: the binding asked for, or tooBig if this may
-- have no room
abbrev pub IsGetContent : (List ℕ → VarBind → Type 0) → (VarBind → Type 0) → List ℕ → Message
    → Type 0
IsGetContent Got Large o m =
    ((m.a ≡ pos 0) × ((p : VarBind) × Got o p × (m.bindings ≡ p ∷ [])))
    ⊎ ((m.a ≡ pos 1) × (m.b ≡ pos 0) × IsLarge Got Large o)

-- m has the content of an honest reply to the GetNext or GetBulk of w. It has bindings, each of
-- which a GetNext of the name before it may return: at most as many as asked for, and none only if
-- the first may have no room. Or it is tooBig, and the first may have no room.
abbrev pub IsNextContent : (List ℕ → VarBind → Type 0) → (VarBind → Type 0) → WalkState → Message
    → Type 0
IsNextContent Next Large w m =
    ((m.a ≡ pos 0) × IsChain Next w.asked m.bindings × (length m.bindings ≤ asked_for w.method)
    × (m.bindings ≡ [] → IsLarge Next Large w.asked))
    ⊎ ((m.a ≡ pos 1) × (m.b ≡ pos 0) × IsLarge Next Large w.asked)

-- m has the content of an honest reply to the request of w, which is of this phase
abbrev pub IsReplyContent : (Next Got : List ℕ → VarBind → Type 0) → (ℕ → VarBind → Type 0)
    → Phase → WalkState → Message → Type 0
IsReplyContent Next Got Large phase.First w m = IsGetContent Got (Large w.id) w.asked m
IsReplyContent Next Got Large phase.Rows w m = IsNextContent Next (Large w.id) w m
IsReplyContent Next Got Large phase.Last w m = IsGetContent Got (Large w.id) w.asked m
IsReplyContent Next Got Large phase.Over w m = ⊥

-- m is an honest reply to the waiting request of w
pub record IsReplyTo (Next Got : List ℕ → VarBind → Type 0) (Large : ℕ → VarBind → Type 0)
    (w : WalkState) (m : Message) : Type 0 where
  pub response : IsResponseTo w.community w.id m
  pub content : IsReplyContent Next Got Large w.phase w m

-- The step takes the walk from state `old` to w. It isn't a stray: w waits for the next reply, or
-- the walk ended as an honest reply can end it.
abbrev pub Advances : (Next Got : List ℕ → VarBind → Type 0) → (ℕ → VarBind → Type 0) → WalkState
    → WalkState → List VarBind → Step → WalkState → Type 0
Advances Next Got Large first old given step.Stray w = ⊥
Advances Next Got Large first old given (step.Rows more) w = Reaches Next Got first w
    (given ++ more)
Advances Next Got Large first old given (step.Last more why) w = IsPartOfWalk Next Got first
    (given ++ more) × Ends Next Got Large first old (given ++ more) why

-- What holds of a step whatever the reply to the waiting request is: the next request has the next
-- id, the names returned increase, and a walk that is done has counted its bindings.
abbrev pub AdvancesAnyhow : WalkState → WalkState → List VarBind → Step → WalkState → Type 0
AdvancesAnyhow first old given step.Stray w = ⊥
AdvancesAnyhow first old given (step.Rows more) w = (w.id ≡ old.id + 1) × (w.id < 2 ^ 31)
    × Reaches Increases Named first w (given ++ more)
AdvancesAnyhow first old given (step.Last more why) w = IsReplyEnd why
    × IsPartOfWalk Increases Named first (given ++ more) × CountsAll why (given ++ more)

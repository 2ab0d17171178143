-- The requests of a walk, and how many times each is sent.
use Rattle.std.specs.Prelude.{◌≡◌, ℕ, ◌+◌, ◌^◌, ◌<◌, ◌≤◌, ◌⊎◌, true, List, [], ◌∷◌, ◌++◌, length}
use Rattle.std.specs.Prelude.{pos, replicate}
use Rattle.snmp_wire.specs.{Message.VarBind, Message.Message, Canon.canon}
use Rattle.snmp_walk.specs.declared.mode.Mode.TheVariants as mode
use Rattle.snmp_walk.specs.{declared.mode.Phase.Phase, WalkState.WalkState}
use Rattle.snmp_walk.specs.{declared.mode.Method.Method}
use Rattle.snmp_walk.specs.{Names.is_end, Room.HasRoomForAll, Link.Agents, Link.OneOf}
use Rattle.snmp_walk.specs.declared.mode.Phase.TheVariants as phase
use Rattle.snmp_walk.specs.Request.{asked_for, request_of}
use Rattle.std.specs.List.{list_any}

-- A request of a walk: the state `by` in which the walk sent it, and how many times it was sent or,
-- in `IsMovedByRequests`, passed to a send.
pub record Try : Type 0 where
  pub by : WalkState
  pub times : ℕ

-- the datagrams of these requests, as many times as each was sent
abbrev pub sent_by : List Try → List (List ℕ)
sent_by [] = []
sent_by (t ∷ more) = replicate t.times (canon (request_of t.by)) ++ sent_by more

-- each of these requests was sent at least once
abbrev pub IsEachSent : List Try → Type 0
IsEachSent requests = (t : Try) → OneOf requests t → 0 < t.times

-- one of these rows has the name
abbrev pub IsNameIn : List VarBind → List ℕ → Type 0
IsNameIn [] name = ⊥
IsNameIn (p ∷ rows) name = (name ≡ p.name) ⊎ IsNameIn rows name

-- What the request sent in state `by`, of this phase, asks for, if the walk that began as `first`
-- passes on `rows`. A Get asks for the name that the walk begins from. It is the first request of
-- a walk that includes its root, or the last one of a plain walk. Any other request asks from that
-- name, or from the name of one of the rows.
abbrev pub AsksFor : WalkState → List VarBind → Phase → WalkState → Type 0
AsksFor first rows phase.First by = (by.asked ≡ first.asked) × (first.mode ≡ mode.Include)
    × (by.id ≡ first.id)
AsksFor first rows phase.Rows by = (by.asked ≡ first.asked) ⊎ IsNameIn rows by.asked
AsksFor first rows phase.Last by = (by.asked ≡ first.asked) × (first.mode ≡ mode.Plain)
AsksFor first rows phase.Over by = ⊥

-- the walk that began as `first`, and passed on these rows, can send a request in state `by`
pub record Asks (first : WalkState) (rows : List VarBind) (by : WalkState) : Type 0 where
  pub same : by ≡ record first { phase = by.phase; asked = by.asked; id = by.id; count = by.count }
  pub name : AsksFor first rows by.phase by

-- the requests of a walk in order, with ids that increase by one from `id` on, each sent at most
-- `tries` times
abbrev pub AreTries : ℕ → WalkState → List VarBind → ℕ → List Try → Type 0
AreTries tries first rows id [] = Unit {0}
AreTries tries first rows id (t ∷ more) =
    (t.by.id ≡ id) × (id < 2 ^ 31) × (t.times ≤ tries) × Asks first rows t.by
    × AreTries tries first rows (id + 1) more

-- ---- for private functions

-- there are as many bindings as were asked for, or one of them has endOfMibView
abbrev pub IsFull : Method → List VarBind → Type 0
IsFull method bindings = (length bindings ≡ asked_for method)
    ⊎ (list_any (λ p. is_end p.value) bindings ≡ true)

-- if w waits for the next instances, and the agents have room for all bindings that it asks for,
-- then a reply m without an error has as many bindings as asked for, or an endOfMibView
abbrev pub IsFullReply : Agents → WalkState → Message → Type 0
IsFullReply agents w m = HasRoomForAll agents w → w.phase ≡ phase.Rows → m.a ≡ pos 0
    → IsFull w.method m.bindings

-- The tries of a request over any link. Each begins in the state that the one before it left.
use Rattle.std.specs.Prelude.{◌≡◌, ◌<◌, ℕ, ◌⊎◌, List, [], ◌∷◌, length, Option, Some, None}
use Rattle.snmp_agent.specs.Event.{Event, came, silence, receive_failed, sent, send_failed}
use Rattle.snmp_wire.specs.{Message.Message, Spelling.Spells, Canon.canon}
pub use Rattle.snmp_agent.specs.Event.{InTurn}
use Rattle.snmp_walk.specs.{WalkState.WalkState, Request.request_of, StepRules.IsResponseTo}
use Rattle.snmp_walk.specs.{Traffic.Receives, Moved.IsMoved, declared.link.Link.Ghosts as LinkFacts}
use Rattle.snmp_walk.specs.Link.{OneOf, Outcome, answered, missed, cut_off}

-- the datagram doesn't encode a Response of SNMPv2c with this community and request-id
abbrev pub IsNotAwaited : List ℕ → ℕ → List ℕ → Type 0
IsNotAwaited community id datagram = (m : Message) → Spells m datagram
    → IsResponseTo community id m → ⊥

-- by the facts of the link, the event can happen in state `old` and leave the link in state `new`
abbrev pub Happens : {L : Type 0} → LinkFacts L → L → Event (Unit {0}) → L → Type 0
Happens {L} facts old (sent peer datagram) new = facts.sends old datagram new
Happens {L} facts old (send_failed peer datagram) new = facts.send_fails old datagram new
Happens {L} facts old (came peer datagram) new = facts.delivers old datagram new
Happens {L} facts old silence new = facts.is_silent old new
Happens {L} facts old receive_failed new = facts.receive_fails old new

-- a send of the datagram took the link from `old` to `new`
abbrev pub Sends : {L : Type 0} → LinkFacts L → L → List ℕ → L → Type 0
Sends {L} facts old datagram new = facts.sends old datagram new
    × IsMoved facts old (datagram ∷ []) 0 ⊥ new

-- a send of the datagram failed, and left the link's traffic unchanged
abbrev pub SendFails : {L : Type 0} → LinkFacts L → L → List ℕ → L → Type 0
SendFails {L} facts old datagram new = facts.send_fails old datagram new
    × (facts.traffic new ≡ facts.traffic old) × IsMoved facts old (datagram ∷ []) 0 (Unit {0}) new

-- A receive that didn't fail took the link from `old` to `new`. If the link is honest, `given`, a
-- datagram or nothing, is what one receive delivers by the link's traffic (`Receives`).
abbrev pub Gets : {L : Type 0} → LinkFacts L → L → Option (List ℕ) → L → Type 0
Gets {L} facts old given new = IsMoved facts old [] 1 ⊥ new
    × (facts.honest old → Receives (facts.agents old) (facts.traffic old).sent
    (facts.traffic old).ahead given (facts.traffic new).ahead)

-- a receive returned the datagram, and took the link from `old` to `new`
abbrev pub ReceivesDatagram : {L : Type 0} → LinkFacts L → L → List ℕ → L → Type 0
ReceivesDatagram {L} facts old datagram new = facts.delivers old datagram new
    × Gets facts old (Some datagram) new

-- a receive returned nothing, and took the link from `old` to `new`
abbrev pub ReceivesNothing : {L : Type 0} → LinkFacts L → L → L → Type 0
ReceivesNothing {L} facts old new = facts.is_silent old new × Gets facts old None new

-- a receive failed, and left the link's traffic unchanged
abbrev pub ReceiveFails : {L : Type 0} → LinkFacts L → L → L → Type 0
ReceiveFails {L} facts old new = facts.receive_fails old new
    × (facts.traffic new ≡ facts.traffic old) × IsMoved facts old [] 1 (Unit {0}) new

-- How a try ends after it received `strays` datagrams that weren't the reply. If a datagram
-- answers it, a receive returns that datagram. If it misses the reply, a receive returns nothing,
-- or there were 64 such datagrams. If the link cuts it off, a receive fails.
abbrev pub EndsTry : {L : Type 0} → LinkFacts L → (strays : ℕ) → L → Outcome → L → Type 0
EndsTry {L} facts strays old (answered datagram) new = (strays < 64)
    × ReceivesDatagram facts old datagram new
EndsTry {L} facts strays old missed new = ((strays < 64) × ReceivesNothing facts old new)
    ⊎ ((strays ≡ 64) × (new ≡ old))
EndsTry {L} facts strays old cut_off new = (strays < 64) × ReceiveFails facts old new

-- From state `old` on, receives returned the datagrams `strays`, in order, and then the try ended
-- with this outcome. `Other` holds of each of these datagrams.
pub record AreReceives {L : Type 0} (facts : LinkFacts L) (Other : List ℕ → Type 0) (old : L)
    (outcome : Outcome) (new : L) (strays : List (List ℕ)) : Type 0 where
  pub last : L
  pub brought : InTurn (ReceivesDatagram facts) old strays last
  pub others : (datagram : List ℕ) → OneOf strays datagram → Other datagram
  pub over : EndsTry facts (length strays) last outcome new

-- One try of the request: it was sent, then the datagrams `strays` were received, and the try ended
-- with this outcome. `Other` holds of each of these datagrams.
pub record IsTry {L : Type 0} (facts : LinkFacts L) (Other : List ℕ → Type 0) (request : List ℕ)
    (outcome : Outcome) (old : L) (strays : List (List ℕ)) (new : L) : Type 0 where
  pub between : L
  pub sent : Sends facts old request between
  pub received : AreReceives facts Other between outcome new strays

-- each of `tries` tries of the request missed the reply; `received` has, for each try, the list of
-- the datagrams received in it
pub record AreMissed {L : Type 0} (facts : LinkFacts L) (Other : List ℕ → Type 0)
    (request : List ℕ) (tries : ℕ) (old new : L) : Type 0 where
  pub received : List (List (List ℕ))
  pub all : length received ≡ tries
  pub are_missed : InTurn (IsTry facts Other request missed) old received new

-- the last try of the request ended with this outcome; or its send failed, and the outcome is
-- `cut_off`
abbrev pub IsLastTry : {L : Type 0} → LinkFacts L → (List ℕ → Type 0) → List ℕ → L → Outcome → L
    → Type 0
IsLastTry {L} facts Other request old outcome new =
    ((strays : List (List ℕ)) × IsTry facts Other request outcome old strays new)
    ⊎ ((outcome ≡ cut_off) × SendFails facts old request new)

-- The request had this outcome in at most `tries` tries. If the outcome is `missed`, all `tries`
-- of them missed the reply. Otherwise fewer than `tries` missed it, and one more ended with this
-- outcome.
abbrev pub AreTried : {L : Type 0} → LinkFacts L → (List ℕ → Type 0) → List ℕ → (tries : ℕ) → L
    → Outcome → L → Type 0
AreTried {L} facts Other request tries old missed new = AreMissed facts Other request tries old new
AreTried {L} facts Other request tries old outcome new =
    (earlier : ℕ) × (earlier < tries) × (before : L)
    × AreMissed facts Other request earlier old before
    × IsLastTry facts Other request before outcome new

-- the waiting request of the walk w had this outcome in at most `tries` tries
abbrev pub IsTried : {L : Type 0} → LinkFacts L → (tries : ℕ) → WalkState → L → Outcome → L → Type 0
IsTried {L} facts tries w old outcome new = AreTried facts (IsNotAwaited w.community w.id)
    (canon (request_of w)) tries old outcome new

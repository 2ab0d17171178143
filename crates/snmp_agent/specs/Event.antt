-- What happens at one end of a network: at the endpoint of a server, or at a link.
use Rattle.std.specs.Prelude.{◌≡◌, ℕ, List, [], ◌∷◌, take, Option, Some, None, Result, Ok, Err}
use Rattle.snmp_agent.specs.declared.endpoint.EndpointFault.{EndpointFault}

-- an event: a datagram came from a peer, none came in time, or a receive failed; or a datagram was
-- sent to a peer, or its send failed
pub data Event (Peer : Type 0) : Type 0 where
  came : Peer → List ℕ → Event Peer
  silence : Event Peer
  receive_failed : Event Peer
  sent : Peer → List ℕ → Event Peer
  send_failed : Peer → List ℕ → Event Peer

-- the elements of the list, one after the other, can change the state `old` into the state `new`:
-- `step a x b` says that the element `x` can change the state `a` into `b`
abbrev pub InTurn : {L X : Type 0} → (L → X → L → Type 0) → L → List X → L → Type 0
InTurn {L} step old [] new = new ≡ old
InTurn {L} step old (x ∷ more) new =
    (between : L) × step old x between × InTurn step between more new

-- the event of a receive with this result, after which the buffer has these octets: a datagram
-- came, none came in time, or the receive failed
abbrev pub event_of_receive : {Peer : Type 0} → Result (Option (ℕ × Peer)) EndpointFault → List ℕ
    → Event Peer
event_of_receive (Ok (Some (n, peer))) buffer = came peer (take n buffer)
event_of_receive (Ok None) buffer = silence
event_of_receive (Err _) buffer = receive_failed

-- the event of a send of the datagram to the peer with this result: it was sent, or the send failed
abbrev pub event_of_reply : {Peer : Type 0} → Result (Unit {0}) EndpointFault → Peer → List ℕ
    → Event Peer
event_of_reply (Ok _) peer datagram = sent peer datagram
event_of_reply (Err _) peer datagram = send_failed peer datagram

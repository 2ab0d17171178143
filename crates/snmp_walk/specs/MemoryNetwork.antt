-- The state of a network in memory, and what can happen on it.
use Rattle.std.specs.Prelude.{◌≡◌, ◌+◌, ◌<◌, ℕ, List, [], ◌∷◌, ◌++◌, length, drop, Option, Some}
use Rattle.std.specs.Prelude.{None}
use Rattle.snmp_agent.specs.Event.{came, silence, receive_failed, sent, send_failed}
use Rattle.snmp_walk.specs.Network.{Happening, at_agents, at_walk, requests_by}
use Rattle.snmp_walk.specs.{Traffic.datagram_at, declared.memory_network.Delivery.Delivery}
use Rattle.snmp_walk.specs.declared.memory_network.Delivery.TheVariants as delivery
use Rattle.snmp_walk.specs.declared.memory_network.MemoryNetwork.{MemoryNetwork}

-- the datagrams that the walk sent
abbrev pub requests_of : MemoryNetwork → List (List ℕ)
requests_of network = network.requests.datagrams

-- the datagrams that the agent sent
abbrev pub replies_of : MemoryNetwork → List (List ℕ)
replies_of network = network.replies.datagrams

-- the deliveries that aren't used yet
abbrev pub ahead_of : MemoryNetwork → List Delivery
ahead_of network = drop network.used network.deliveries.now

-- The agent's next receive returns the datagram with this number, counted from 1, or nothing if no
-- datagram has it, as for 0. `left` are the deliveries after it. If the next delivery is for the
-- walk, the agent's receive returns nothing. After the last delivery, it returns the latest
-- datagram.
abbrev pub IsNextRequest : (requests : List (List ℕ)) → (ahead : List Delivery) → (number : ℕ)
    → (left : List Delivery) → Type 0
IsNextRequest requests [] number left = (number ≡ length requests) × (left ≡ [])
IsNextRequest requests (delivery.Request k ∷ more) number left = (number ≡ k) × (left ≡ more)
IsNextRequest requests ahead number left = (number ≡ 0) × (left ≡ ahead)

-- The walk's next receive returns the datagram with the number `next`, counted from 1, or nothing
-- if no datagram has it, as for 0; without a number the receive fails. `left` are the deliveries
-- after it. If the next delivery is for the agent, the walk's receive returns nothing. After the
-- last delivery, it returns what the agent sent in its last turn (`answer`).
abbrev pub IsNextReply : (answer : Option ℕ) → (ahead : List Delivery) → (next : Option ℕ)
    → (left : List Delivery) → Type 0
IsNextReply answer [] next left = (next ≡ answer) × (left ≡ [])
IsNextReply answer (delivery.Reply k ∷ more) next left = (next ≡ Some k) × (left ≡ more)
IsNextReply answer (delivery.Nothing ∷ more) next left = (next ≡ Some 0) × (left ≡ more)
IsNextReply answer ahead next left = (next ≡ Some 0) × (left ≡ ahead)

-- the number of deliveries before the first that isn't a request
abbrev pub leading_requests : List Delivery → ℕ
leading_requests [] = 0
leading_requests (delivery.Request k ∷ more) = leading_requests more + 1
leading_requests _ = 0

-- the datagrams that the agent sent by this event: one or none
abbrev pub replies_by : Happening (Unit {0}) → List (List ℕ)
replies_by (at_agents (sent peer d)) = d ∷ []
replies_by _ = []

-- A receive uses the next delivery if it is for its end, and leaves the deliveries `left`. It
-- returns the whole datagram whose number `IsNextReply` or `IsNextRequest` says, or nothing if no
-- datagram has it, or fails. The agent's receive fails only if the datagram is longer than any
-- over UDP. A send uses no delivery.
abbrev pub Uses : MemoryNetwork → Happening (Unit {0}) → (left : List Delivery) → Type 0
Uses old (at_walk (came peer d)) left =
    (number : ℕ) × IsNextReply old.answer (ahead_of old) (Some number) left
    × (datagram_at (replies_of old) number ≡ Some d)
Uses old (at_walk silence) left =
    (number : ℕ) × IsNextReply old.answer (ahead_of old) (Some number) left
    × (datagram_at (replies_of old) number ≡ None)
Uses old (at_walk receive_failed) left =
    (next : Option ℕ) × IsNextReply old.answer (ahead_of old) next left
Uses old (at_agents (came peer d)) left =
    (number : ℕ) × IsNextRequest (requests_of old) (ahead_of old) number left
    × (datagram_at (requests_of old) number ≡ Some d)
Uses old (at_agents silence) left =
    (number : ℕ) × IsNextRequest (requests_of old) (ahead_of old) number left
    × (datagram_at (requests_of old) number ≡ None)
Uses old (at_agents receive_failed) left =
    (number : ℕ) × IsNextRequest (requests_of old) (ahead_of old) number left
    × (d : List ℕ) × (datagram_at (requests_of old) number ≡ Some d) × (65507 < length d)
Uses old _ left = left ≡ ahead_of old

-- the number of the reply that the agent sent in its last turn, after this event: 0 if it sent
-- none, and None if its receive or its send failed; `count` is the number of all replies so far
abbrev pub answer_after : (count : ℕ) → Happening (Unit {0}) → (answer : Option ℕ) → Option ℕ
answer_after count (at_walk e) answer = answer
answer_after count (at_agents (sent peer d)) answer = Some count
answer_after count (at_agents (send_failed peer d)) answer = None
answer_after count (at_agents receive_failed) answer = None
answer_after count (at_agents _) answer = Some 0

-- e can happen between the two states; what was sent before stays stored
pub record Carries (old : MemoryNetwork) (e : Happening (Unit {0})) (new : MemoryNetwork) :
    Type 0 where
  pub requests : requests_of new ≡ requests_of old ++ requests_by e
  pub replies : replies_of new ≡ replies_of old ++ replies_by e
  pub used : Uses old e (ahead_of new)
  pub answer : new.answer ≡ answer_after (length (replies_of new)) e old.answer

-- nothing was sent yet
pub record IsNew (network : MemoryNetwork) : Type 0 where
  pub requests : requests_of network ≡ []
  pub replies : replies_of network ≡ []

-- no delivery is left, so that the network loses and delays nothing from now on
abbrev pub IsPrompt : MemoryNetwork → Type 0
IsPrompt network = ahead_of network ≡ []

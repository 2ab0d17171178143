-- Links to agents in memory, and doors in memory.
use Rattle.std.specs.Prelude.{◌≡◌, ℕ, ◌==◌, ◌&&◌, List, [], ◌∷◌, Option, Some, None, find, ◌<◌}
use Rattle.std.specs.Prelude.{drop, length, map}
use Rattle.std.specs.{Borrow.Bor, Str.bytes_eq}
use Rattle.snmp_agent.specs.{declared.server.Served.Served, Reply.Agent, Serving.AreTurns}
use Rattle.snmp_agent.specs.Event.{Event, InTurn, came, silence, receive_failed, sent, send_failed}
use Rattle.snmp_walk.specs.Memory.{IsHonest, agents_of, agents_over, traffic_of}
use Rattle.snmp_walk.specs.declared.memory.MemoryLink.{MemoryLink}
use Rattle.snmp_net.specs.declared.memory.MemoryAgent.{MemoryAgent}
use Rattle.snmp_net.specs.declared.memory.MemoryDoor.{MemoryDoor}

-- the first of the agents with this host and port, if there is one
abbrev pub agent_at : List MemoryAgent → (host : List ℕ) → (port : ℕ) → Option MemoryAgent
agent_at agents host port = find (λ a. bytes_eq a.host.now host && (a.port == port)) agents

-- the link is to the agent; nothing was sent over it, and nothing failed
pub record IsLinkTo (agent : MemoryAgent) (link : MemoryLink) : Type 0 where
  pub agents : agents_of link ≡ agents_over (agent.table.now ∷ []) agent.config
  pub traffic : traffic_of link ≡ record { sent = []; ahead = agent.deliveries.now }
  pub no_fault : link.fault_count ≡ 0
  pub honest : IsHonest link

-- the link is to the first of the agents with this host and port
abbrev pub OpensTo : List MemoryAgent → (host : List ℕ) → (port : ℕ) → MemoryLink → Type 0
OpensTo agents host port link =
    (agent : MemoryAgent) × (agent_at agents host port ≡ Some agent) × IsLinkTo agent link

-- The door can be opened at this host and port: no agent has this host and port. All of the
-- requests are still to come at the door, and nothing has failed there.
abbrev pub BindsAt : List MemoryAgent → (requests : List (Bor (List ℕ))) → (host : List ℕ)
    → (port : ℕ) → MemoryDoor → Type 0
BindsAt agents requests host port door =
    (agent_at agents host port ≡ None) × (door.requests.now ≡ requests) × (door.used ≡ 0)
    × (door.faults ≡ 0)

-- the requests that are still to come at the door
abbrev pub ahead_of : MemoryDoor → List (List ℕ)
ahead_of door = map (λ request. request.now) (drop door.used door.requests.now)

-- What can happen at the door between two of its states: the next request arrives, or none after
-- the last, or the next is longer than any datagram over UDP and is skipped. A reply doesn't change
-- the requests that are still to come, and never fails.
abbrev pub HappensAtDoor : MemoryDoor → Event (Unit {0}) → MemoryDoor → Type 0
HappensAtDoor old (came peer datagram) new = ahead_of old ≡ datagram ∷ ahead_of new
HappensAtDoor old silence new = (ahead_of old ≡ []) × (ahead_of new ≡ [])
HappensAtDoor old receive_failed new = (request : List ℕ)
    × (ahead_of old ≡ request ∷ ahead_of new) × (65507 < length request)
HappensAtDoor old (sent peer datagram) new = ahead_of new ≡ ahead_of old
HappensAtDoor old (send_failed peer datagram) new = ⊥

-- The agent served `turns` turns at the door, with the counts `served`, and took the door from the
-- state `old` to `new`: each request that arrived, in order, has its reply or is dropped.
abbrev pub AreServed : MemoryDoor → Agent → (turns : ℕ) → Served → MemoryDoor → Type 0
AreServed old agent turns served new =
    (events : List (Event (Unit {0}))) × AreTurns agent turns served events
    × InTurn HappensAtDoor old events new

-- A network between a walk and the agents that reply to it (RFC 3417, section 3), and what happens
-- at its two ends.
use Rattle.std.specs.Prelude.{pos, ◌≡◌, ◌⊎◌, ℕ, List, [], ◌∷◌, ◌++◌, flat_map, take, Option}
use Rattle.std.specs.Prelude.{Some, None, Result, Ok, Err}
use Rattle.snmp_agent.specs.Event.{Event, came, silence, receive_failed, sent, send_failed}
use Rattle.snmp_agent.specs.{Reply.Agent, Reply.IsDropped, Reply.IsReply, Serving.AreTurns}
use Rattle.snmp_agent.specs.{declared.config.DropReason.DropReason, table.Table.MibView}
use Rattle.snmp_agent.specs.declared.server.Served.{Served}
use Rattle.snmp_walk.specs.declared.end.LinkFault.{LinkFault}
use Rattle.snmp_wire.specs.{Message.Message, Spelling.Spells}
use Rattle.snmp_walk.specs.Link.{Agents, OneOf, IsReplyFrom, agent_in}
use Rattle.snmp_walk.specs.Responses.{IsResponseFrom}

-- an event at one end of the network: at the walk's end, which has one peer, or at the agents' end
pub data Happening (Peer : Type 0) : Type 0 where
  at_walk : Event (Unit {0}) → Happening Peer
  at_agents : Event Peer → Happening Peer

-- the events at the walk's end of the network, in order
abbrev pub of_walk : {Peer : Type 0} → List (Happening Peer) → List (Event (Unit {0}))
of_walk [] = []
of_walk (at_walk e ∷ more) = e ∷ of_walk more
of_walk (at_agents e ∷ more) = of_walk more

-- the events at the agents' end of the network, in order
abbrev pub of_agents : {Peer : Type 0} → List (Happening Peer) → List (Event Peer)
of_agents [] = []
of_agents (at_walk e ∷ more) = of_agents more
of_agents (at_agents e ∷ more) = e ∷ of_agents more

-- the datagrams that the walk sent, or tried to send: one whose send failed may have arrived
abbrev pub tried : List (Event (Unit {0})) → List (List ℕ)
tried [] = []
tried (sent peer d ∷ more) = d ∷ tried more
tried (send_failed peer d ∷ more) = d ∷ tried more
tried (_ ∷ more) = tried more

-- the datagrams that the walk sent by this event: one or none
abbrev pub requests_by : {Peer : Type 0} → Happening Peer → List (List ℕ)
requests_by (at_walk (sent peer d)) = d ∷ []
requests_by _ = []

-- the first of these events, if there is one, is a send, which may have failed
abbrev pub BeginWithSend : List (Event (Unit {0})) → Type 0
BeginWithSend [] = Unit {0}
BeginWithSend (sent peer d ∷ more) = Unit {0}
BeginWithSend (send_failed peer d ∷ more) = Unit {0}
BeginWithSend _ = ⊥

-- Before each datagram r that arrived at the walk, and encodes a message m for which `Sort m`
-- holds, the walk had sent, or tried to send, a datagram d. r is the reply of one of the agents to
-- d, or m is another Response that one of them may send to d.
abbrev pub AreRepliesOf : (Message → Type 0) → Agents → List (Event (Unit {0})) → Type 0
AreRepliesOf Sort agents events =
    (before after : List (Event (Unit {0}))) (peer : Unit {0}) (r : List ℕ)
    → events ≡ before ++ came peer r ∷ after → (m : Message) → Spells m r → Sort m
    → (d : List ℕ) × OneOf (tried before) d
    × (IsReplyFrom agents d r ⊎ IsResponseFrom agents d m)

-- each message that arrived is a reply of the agents, or another Response that they may send
abbrev pub AreReplies : Agents → List (Event (Unit {0})) → Type 0
AreReplies agents events = AreRepliesOf (λ m. Unit {0}) agents events

-- each message that arrived is a reply of the agents, or another Response that they may send, or
-- has an error status, such as genErr
abbrev pub AreRepliesOrErrors : Agents → List (Event (Unit {0})) → Type 0
AreRepliesOrErrors agents events = AreRepliesOf (λ m. m.a ≡ pos 0) agents events

-- the agents sent d to the peer, or tried to
abbrev pub IsTriedTo : {Peer : Type 0} → Peer → List (Happening Peer) → List ℕ → Type 0
IsTriedTo peer run d = OneOf run (at_agents (sent peer d))
    ⊎ OneOf run (at_agents (send_failed peer d))

-- The network neither invents nor alters messages between the walk and the agents, to which the
-- walk is the peer `walker`. It may lose, repeat, delay and reorder them, as UDP may (RFC 768).
-- Other peers may send the agents what they like, but no message of theirs arrives at the walk.
pub record IsFaithful {Peer : Type 0} (walker : Peer) (run : List (Happening Peer)) : Type 0 where
  -- a message that arrived at the walk is one that the agents had sent to it, or tried to, before
  pub replies : (before after : List (Happening Peer)) (peer : Unit {0}) (d : List ℕ)
      → run ≡ before ++ at_walk (came peer d) ∷ after → (m : Message) → Spells m d
      → IsTriedTo walker before d
  -- a datagram that arrived at the agents from the walk is one that the walk had sent, or tried to
  -- send, before
  pub requests : (before after : List (Happening Peer)) (d : List ℕ)
      → run ≡ before ++ at_agents (came walker d) ∷ after → OneOf (tried (of_walk before)) d

-- how an agent served for a while: its table, the number of turns, how many ended in each way, and
-- the events in them
pub record Service (Peer : Type 0) : Type 0 where
  pub view : MibView
  pub turns : ℕ
  pub served : Served
  pub events : List (Event Peer)

-- in each of these services, one of the agents served
abbrev pub AreServices : {Peer : Type 0} → Agents → List (Service Peer) → Type 0
AreServices agents [] = Unit {0}
AreServices agents (s ∷ more) = OneOf agents.tables s.view
    × AreTurns (agent_in agents s.view) s.turns s.served s.events × AreServices agents more

-- All events at the agents' end happened in these services, one after the other. A server that was
-- started again, or whose table changed, is another service.
pub record AreServed {Peer : Type 0} (agents : Agents) (run : List (Happening Peer)) : Type 0 where
  pub services : List (Service Peer)
  pub each : AreServices agents services
  pub in_turn : of_agents run ≡ flat_map (λ s. s.events) services

-- the event of a send of the walk: the datagram was sent, or the send failed
abbrev pub event_of_send : Result (Unit {0}) LinkFault → List ℕ → Event (Unit {0})
event_of_send (Ok _) datagram = sent tt datagram
event_of_send (Err _) datagram = send_failed tt datagram

-- the event of a receive of the walk: a datagram arrived, or nothing did, or the receive failed
abbrev pub event_of_got : Result (Option ℕ) LinkFault → List ℕ → Event (Unit {0})
event_of_got (Ok (Some n)) buffer = came tt (take n buffer)
event_of_got (Ok None) buffer = silence
event_of_got (Err _) buffer = receive_failed

-- If the event is a receive of the walk, it returned the agent's reply to `request`; or nothing,
-- since the agent drops `request` or there is no request; or it failed. If the event is a send,
-- this always holds.
abbrev pub RepliesTo : Agent → (request : Option (List ℕ)) → Event (Unit {0}) → Type 0
RepliesTo agent request (came peer r) = (d : List ℕ) × (request ≡ Some d) × IsReply agent d r
RepliesTo agent request silence = (request ≡ None)
    ⊎ ((d : List ℕ) × (why : DropReason) × (request ≡ Some d) × IsDropped agent d why)
RepliesTo agent request _ = Unit {0}

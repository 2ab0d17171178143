-- What a network in memory records of a run: each datagram that was sent or arrived at one end.
use Rattle.std.specs.Prelude.{◌≡◌, ℕ, List, [], ◌∷◌, flat_map}
use Rattle.snmp_agent.specs.Event.{Event, came, sent}
use Rattle.snmp_walk.specs.declared.memory_network.MemoryNetwork.{MemoryNetwork}
use Rattle.snmp_walk.specs.{Link.OneOf, MemoryNetwork.replies_of, MemoryNetwork.requests_of}
use Rattle.snmp_walk.specs.Network.{Happening, IsFaithful, IsTriedTo, at_agents, at_walk, of_walk}
use Rattle.snmp_walk.specs.Network.{tried}
use Rattle.snmp_tools_tests.specs.declared.both_ends.recorded.Entry.{Entry}
use Rattle.snmp_tools_tests.specs.declared.both_ends.recorded.Passing.{Passing}
use Rattle.snmp_tools_tests.specs.declared.both_ends.recorded.Passing.TheVariants as passing

-- the event that the datagram `d` was sent or arrived, at the walk's end or the agent's, as the
-- `Passing` says
abbrev pub passes : Passing → List ℕ → Happening (Unit {0})
passes passing.RequestSent d = at_walk (sent tt d)
passes passing.RequestArrived d = at_agents (came tt d)
passes passing.ReplySent d = at_agents (sent tt d)
passes passing.ReplyArrived d = at_walk (came tt d)

abbrev pub happening_of : Entry → Happening (Unit {0})
happening_of entry = passes entry.passing entry.octets.items

-- what is recorded of an event at one end: a datagram that was sent or arrived, and nothing of a
-- receive that returned nothing or of a failure
abbrev pub recorded : Event (Unit {0}) → List (Event (Unit {0}))
recorded (came peer d) = came peer d ∷ []
recorded (sent peer d) = sent peer d ∷ []
recorded _ = []

abbrev pub all_recorded : List (Event (Unit {0})) → List (Event (Unit {0}))
all_recorded events = flat_map recorded events

-- what contracts see of a network that records: the datagrams recorded so far, and how many
-- receives and sends of the agent failed
pub record Recording : Type 0 where
  pub run : List (Happening (Unit {0}))
  pub faults : ℕ

-- `run` is a record of the network: it has a send, which may have failed, of each datagram that the
-- network stores as sent. Each message that arrived was sent before, as `IsFaithful` says.
pub record IsRecordOf (network : MemoryNetwork) (run : List (Happening (Unit {0}))) : Type 0 where
  pub requests : (d : List ℕ) → OneOf (requests_of network) d → OneOf (tried (of_walk run)) d
  pub replies : (d : List ℕ) → OneOf (replies_of network) d → IsTriedTo tt run d
  pub faithful : IsFaithful tt run

-- The event can happen at the agent's end between the two states: what is recorded of the walk's
-- end is the same in both. What is recorded of the event isn't defined here.
abbrev pub HappensAtAgent : Recording → Event (Unit {0}) → Recording → Type 0
HappensAtAgent old e new = of_walk new.run ≡ of_walk old.run

-- The agent's end of a record, at which the record passes a second time.
use Rattle.std.specs.Prelude.{◌≡◌, ◌++◌, ℕ, Bool, true, List, [], drop, map}
use Rattle.snmp_agent.specs.{Event.Event, Event.InTurn, Reply.Agent, Serving.AreTurns}
use Rattle.snmp_agent.specs.declared.server.Served.{Served}
use Rattle.snmp_walk.specs.Network.{Happening, of_agents}
use Rattle.snmp_tools_tests.specs.Recorded.{happening_of, recorded}
use Rattle.snmp_tools_tests.specs.declared.both_ends.recorded.Entry.{Entry}
use Rattle.snmp_tools_tests.specs.declared.both_ends.replay.ReplayDoor.{ReplayDoor}

-- what is left of the record at the door
abbrev pub ahead_of : ReplayDoor → List (Happening (Unit {0}))
ahead_of door = map happening_of (drop door.used door.entries.now)

-- The event can happen at the door between the two states: what is left at the agent's end of the
-- record in `old` is what is recorded of the event, if anything, and then what is left in `new`.
abbrev pub HappensAtDoor : ReplayDoor → Event (Unit {0}) → ReplayDoor → Type 0
HappensAtDoor old e new = of_agents (ahead_of old) ≡ recorded e ++ of_agents (ahead_of new)

-- the whole record `entries` is left at `door`
abbrev pub BindsAt : List Entry → ReplayDoor → Type 0
BindsAt entries door = ahead_of door ≡ map happening_of entries

-- The agent had `turns` turns at the door, with the counts `served`, which took the door from state
-- `old` to state `new`. If `done` is true, nothing of the record is left at `new`.
abbrev pub IsReplayed : ReplayDoor → Agent → (turns : ℕ) → Served → ReplayDoor → (done : Bool)
    → Type 0
IsReplayed old agent turns served new done =
    ((events : List (Event (Unit {0}))) × AreTurns agent turns served events
    × InTurn HappensAtDoor old events new)
    × (done ≡ true → ahead_of new ≡ [])

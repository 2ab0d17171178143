-- The walk's end of a network that records.
use Rattle.std.specs.Prelude.{◌≡◌, ◌++◌}
use Rattle.snmp_agent.specs.Event.{Event}
use Rattle.snmp_walk.specs.Network.{of_walk}
use Rattle.snmp_tools_tests.specs.Recorded.{recorded}
use Rattle.snmp_tools_tests.specs.declared.both_ends.walk.RecordedLink.{RecordedLink}

-- The event can happen at the link between the two states: what is recorded of it, if anything, is
-- appended to what is recorded of the walk's end.
abbrev pub HappensAtWalk : RecordedLink → Event (Unit {0}) → RecordedLink → Type 0
HappensAtWalk old e new = of_walk new.network.run ≡ of_walk old.network.run ++ recorded e

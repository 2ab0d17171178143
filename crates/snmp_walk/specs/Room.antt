-- What a walk over one table needs to be done: room for each single binding, and enough ids.
use Rattle.std.specs.Prelude.{◌≡◌, ◌+◌, ◌≤◌, List, [], ◌∷◌, length}
use Rattle.snmp_wire.specs.Message.{Datum, VarBind, octet_string, opaque_octets}
use Rattle.snmp_wire.specs.Message.{no_such_object, no_such_instance, end_of_mib_view}
use Rattle.snmp_wire.specs.Canon.{canon}
use Rattle.snmp_agent.specs.table.Table.{MibView, IsRow}
use Rattle.snmp_agent.specs.{table.Listing.variables, Reply.IsBulk}
use Rattle.snmp_walk.specs.{Walk.rest_of, WalkState.WalkState, Request.request_of}
use Rattle.snmp_walk.specs.Link.{Agents, OneOf, full_response}

-- The agents' messages have room for p: the Response with p only, and with the greatest
-- request-id, isn't longer than their greatest size.
abbrev pub HasRoom : Agents → VarBind → Type 0
HasRoom agents p =
    length (canon (full_response agents.community 2147483647 (p ∷ []))) ≤ agents.max_size

-- the value isn't a string of more than 700 octets, so that its row, with any name and a community
-- of at most 30 octets, fits into a message of 1472 octets
abbrev pub IsShort : Datum → Type 0
IsShort (octet_string octets) = length octets ≤ 700
IsShort (opaque_octets octets) = length octets ≤ 700
IsShort _ = Unit {0}

-- Whichever table replies, the agents' messages have room for all bindings that the GetBulk of w
-- asks for: the Response with them, and with the greatest request-id, isn't longer than their
-- greatest size.
abbrev pub HasRoomForAll : Agents → WalkState → Type 0
HasRoomForAll agents w = (view : MibView) → OneOf agents.tables view → (all : List VarBind)
    → IsBulk view (request_of w) all
    → length (canon (full_response agents.community 2147483647 all)) ≤ agents.max_size

-- the value is an exception (RFC 3416, section 3)
abbrev pub IsException : Datum → Type 0
IsException no_such_object = Unit {0}
IsException no_such_instance = Unit {0}
IsException end_of_mib_view = Unit {0}
IsException _ = ⊥

-- The walk's requests have the agents' community, and there is room for each single row of the
-- table, and for the name that the walk begins from with an exception.
pub record HasRoomForEach (agents : Agents) (view : MibView) (first : WalkState) : Type 0 where
  pub community : first.community ≡ agents.community
  -- Each row has room. Its name with endOfMibView takes no more octets, so that it has room too.
  pub rows : (p : VarBind) → IsRow view p → HasRoom agents p
  pub exceptions : (v : Datum) → IsException v
      → HasRoom agents (record { name = first.asked; value = v })

-- There are enough ids for a request for each row below the root that comes after the name that
-- the walk begins from, one more, and a Get.
abbrev pub HasIds : WalkState → MibView → Type 0
HasIds first view = first.id + length (rest_of first.root first.asked
    (variables view)) + 2 ≤ 2147483647

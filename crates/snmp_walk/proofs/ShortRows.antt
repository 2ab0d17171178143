-- If a table has no string of more than 700 octets, and the community has at most 30, messages of 1472 octets have room for each row (`rows_have_room`).
use Rattle.std.proofs.{lemmas.Grind.common_steps, Common.◌≡◌, Common.◌≤◌, Common.length, Common.arith, Common.pos, Common.◌∷◌, Common.[]}
use Rattle.snmp_wire.specs.Message.{Datum, VarBind, integer_value, octet_string, null_value, object_id, ip_address, counter32, gauge32, time_ticks}
use Rattle.snmp_wire.specs.Message.{opaque_octets, counter64, no_such_object, no_such_instance, end_of_mib_view}
use Rattle.snmp_wire.specs.{Identifier.subidentifiers, Canon.canon_content}
use Rattle.snmp_agent.specs.table.Table.{IsInstanceValue, IsMibView, IsRow, MibView}
use Rattle.snmp_walk.specs.{Link.Agents, Link.full_response, Room.HasRoom, Room.HasRoomForEach, Room.IsException, Room.IsShort, WalkState.WalkState}
use Rattle.snmp_walk.proofs.RequestParts.{each_bound, message_bound, number_bound, one_bound, parts_bound}

short_content : (v : Datum) → IsInstanceValue v → IsShort v → length (canon_content v) ≤ 700
unfolding canon_content
short_content (integer_value z) good short = omega (arith, number_bound z)
short_content (octet_string octets) good short = short
short_content null_value good short = absurd good
short_content (object_id o) good short = omega (arith, good.1.short, each_bound (subidentifiers o), parts_bound o)
short_content (ip_address octets) good short = omega (arith, good.0)
short_content (counter32 n) good short = omega (arith, number_bound (pos n))
short_content (gauge32 n) good short = omega (arith, number_bound (pos n))
short_content (time_ticks n) good short = omega (arith, number_bound (pos n))
short_content (opaque_octets octets) good short = short
short_content (counter64 n) good short = omega (arith, number_bound (pos n))
short_content no_such_object good short = absurd good
short_content no_such_instance good short = absurd good
short_content end_of_mib_view good short = absurd good

exception_content : (v : Datum) → IsException v → length (canon_content v) ≤ 700
unfolding canon_content
exception_content no_such_object is = omega arith
exception_content no_such_instance is = omega arith
exception_content end_of_mib_view is = omega arith
exception_content other is = absurd is

has_room : (agents : Agents) (p : VarBind) → length agents.community ≤ 30 → 1472 ≤ agents.max_size → length p.name ≤ 128
    → length (canon_content p.value) ≤ 700 → HasRoom agents p
has_room agents p community size name content =
    omega (arith, one_bound p.name p.value, message_bound (full_response agents.community 2147483647 (p ∷ [])))

pub rows_have_room : (agents : Agents) (view : MibView) (first : WalkState) → first.community ≡ agents.community → length agents.community ≤ 30
    → 1472 ≤ agents.max_size → length first.asked ≤ 128 → IsMibView view → ((p : VarBind) → IsRow view p → IsShort p.value)
    → HasRoomForEach agents view first
rows_have_room agents view first same community size name is_view short = grind (arith, common_steps, has_room, short_content, exception_content)

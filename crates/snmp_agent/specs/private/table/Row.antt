-- Values as the text of a table represents them.
use Rattle.std.specs.Prelude.{ℕ, ◌≤◌, List, length, codes}
use Rattle.snmp_wire.specs.Message.{Datum}
use Rattle.snmp_wire.specs.Message.Datum.{octet_string, object_id, opaque_octets}
use Rattle.snmp_agent.specs.{declared.table.value.Tag.Tag, declared.table.value.RowText.RowText}
use Rattle.snmp_agent.specs.declared.table.value.Tag.TheVariants as tag
use Rattle.snmp_agent.specs.declared.table.value.RowText.TheVariants as value

-- the value that a `RowText` holds
abbrev pub datum_of : RowText → Datum
datum_of (value.Octets octets) = octet_string octets.items
datum_of (value.ObjectId numbers) = object_id numbers.items
datum_of (value.Opaque octets) = opaque_octets octets.items

-- how many numbers the value has if it is an identifier; 0 for other values
abbrev pub name_length : RowText → ℕ
name_length (value.ObjectId numbers) = length numbers.items
name_length _ = 0

-- if the value is an identifier, it has at most 128 numbers
abbrev pub IsShort : RowText → Type 0
IsShort v = name_length v ≤ 128

-- the text that represents the tag on a row's line
abbrev pub tag_text : Tag → List ℕ
tag_text tag.Integer = codes "2"
tag_text tag.OctetString = codes "4"
tag_text tag.HexOctetString = codes "4x"
tag_text tag.ObjectId = codes "6"
tag_text tag.IpAddress = codes "64"
tag_text tag.Counter32 = codes "65"
tag_text tag.Gauge32 = codes "66"
tag_text tag.TimeTicks = codes "67"
tag_text tag.HexOpaque = codes "68x"
tag_text tag.Counter64 = codes "70"

-- reading a value of this tag can allocate memory
abbrev pub TakesMemory : Tag → Type 0
TakesMemory tag.HexOctetString = Unit {0}
TakesMemory tag.ObjectId = Unit {0}
TakesMemory tag.HexOpaque = Unit {0}
TakesMemory _ = ⊥

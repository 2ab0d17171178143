-- Which values have an encoding by the standard: numbers within the ranges of their types, strings
-- of octets, and identifiers with an encoding (RFC 2578, section 7.1).
use Rattle.std.specs.Prelude.{◌≡◌, ◌^◌, ◌<◌, ◌≤◌, length, FitsSigned}
use Rattle.std.specs.Int.{w32}
use Rattle.snmp_oid.specs.Identifier.{IsIdentifier, IsWire}
use Rattle.snmp_wire.specs.ber.Value.{Datum, integer_value, octet_string, object_id, ip_address}
use Rattle.snmp_wire.specs.ber.Value.{counter32, gauge32, time_ticks, opaque_octets, counter64}
use Rattle.snmp_wire.specs.ber.Number.{AreOctets}

-- the value is within the range of its type, and a string has at most 65535 octets
abbrev pub IsInRange : Datum → Type 0
IsInRange (integer_value z) = FitsSigned w32 z
IsInRange (octet_string text) = AreOctets text × (length text ≤ 65535)
IsInRange (object_id name) = IsWire name × IsIdentifier name
IsInRange (ip_address address) = AreOctets address × (length address ≡ 4)
IsInRange (counter32 n) = n < 2 ^ 32
IsInRange (gauge32 n) = n < 2 ^ 32
IsInRange (time_ticks n) = n < 2 ^ 32
IsInRange (opaque_octets text) = AreOctets text × (length text ≤ 65535)
IsInRange (counter64 n) = n < 2 ^ 64
IsInRange value = Unit {0}

-- the value is within the range of its type; a string may have any number of octets
abbrev pub IsOfType : Datum → Type 0
IsOfType (octet_string text) = AreOctets text
IsOfType (opaque_octets text) = AreOctets text
IsOfType value = IsInRange value

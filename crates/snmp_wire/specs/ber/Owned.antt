-- Values that own their octets.
use Rattle.snmp_wire.specs.declared.ber.owned.Value.{Value}
use Rattle.snmp_wire.specs.declared.ber.owned.Value.TheVariants as value
use Rattle.snmp_wire.specs.ber.Value.{Datum, integer_value, octet_string, null_value, object_id}
use Rattle.snmp_wire.specs.ber.Value.{ip_address, counter32, gauge32, time_ticks, opaque_octets}
use Rattle.snmp_wire.specs.ber.Value.{counter64, no_such_object, no_such_instance, end_of_mib_view}

-- the value that an owned one represents
abbrev pub owned : Value → Datum
owned (value.Integer n) = integer_value n
owned (value.Octets octets) = octet_string octets
owned value.Null = null_value
owned (value.ObjectId oid) = object_id oid
owned (value.IpAddress octets) = ip_address octets
owned (value.Counter32 n) = counter32 n
owned (value.Gauge32 n) = gauge32 n
owned (value.TimeTicks n) = time_ticks n
owned (value.Opaque octets) = opaque_octets octets
owned (value.Counter64 n) = counter64 n
owned value.NoSuchObject = no_such_object
owned value.NoSuchInstance = no_such_instance
owned value.EndOfMibView = end_of_mib_view

-- the value isn't a string, so copying it doesn't allocate
abbrev pub HasNoString : Datum → Type 0
HasNoString (octet_string text) = ⊥
HasNoString (opaque_octets text) = ⊥
HasNoString value = Unit {0}

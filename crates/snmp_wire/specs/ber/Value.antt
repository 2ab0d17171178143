-- Values as the standard defines them (RFC 3416, section 3), regardless of where their octets are
-- in memory.
use Rattle.std.specs.Prelude.{ℕ, ℤ, List}
use Rattle.snmp_wire.specs.declared.ber.value.ValueRef.{ValueRef}
use Rattle.snmp_wire.specs.declared.ber.value.ValueRef.TheVariants as value

-- the value of a binding, or an exception in place of one
pub data Datum : Type 0 where
  integer_value : ℤ → Datum
  octet_string : List ℕ → Datum
  null_value : Datum
  object_id : List ℕ → Datum
  ip_address : List ℕ → Datum
  counter32 : ℕ → Datum
  gauge32 : ℕ → Datum
  time_ticks : ℕ → Datum
  opaque_octets : List ℕ → Datum
  counter64 : ℕ → Datum
  no_such_object : Datum
  no_such_instance : Datum
  end_of_mib_view : Datum

-- the value that a borrowed one represents, wherever its octets are
abbrev pub datum : ValueRef → Datum
datum (value.Integer n) = integer_value n
datum (value.Octets octets) = octet_string octets.now
datum value.Null = null_value
datum (value.ObjectId oid) = object_id oid
datum (value.IpAddress octets) = ip_address octets
datum (value.Counter32 n) = counter32 n
datum (value.Gauge32 n) = gauge32 n
datum (value.TimeTicks n) = time_ticks n
datum (value.Opaque octets) = opaque_octets octets.now
datum (value.Counter64 n) = counter64 n
datum value.NoSuchObject = no_such_object
datum value.NoSuchInstance = no_such_instance
datum value.EndOfMibView = end_of_mib_view

-- What octets encode: values in BER (RFC 3416, section 3; RFC 3417, section 8; X.690).
use Rattle.std.specs.Prelude.{◌≡◌, ℕ, List, [], length}
use Rattle.snmp_wire.specs.ber.Number.{IsInteger, IsUnsigned, Form}
use Rattle.snmp_wire.specs.{ber.Length.IsElement, ber.Identifier.IsObjectId}
use Rattle.snmp_wire.specs.ber.Value.{Datum, integer_value, octet_string, null_value, object_id}
use Rattle.snmp_wire.specs.ber.Value.{ip_address, counter32, gauge32, time_ticks, opaque_octets}
use Rattle.snmp_wire.specs.ber.Value.{counter64, no_such_object, no_such_instance, end_of_mib_view}

-- the tag of a value (RFC 2578, section 2; RFC 3416, section 3)
abbrev pub value_tag : Datum → ℕ
value_tag (integer_value z) = 0x02
value_tag (octet_string text) = 0x04
value_tag null_value = 0x05
value_tag (object_id name) = 0x06
value_tag (ip_address address) = 0x40
value_tag (counter32 n) = 0x41
value_tag (gauge32 n) = 0x42
value_tag (time_ticks n) = 0x43
value_tag (opaque_octets text) = 0x44
value_tag (counter64 n) = 0x46
value_tag no_such_object = 0x80
value_tag no_such_instance = 0x81
value_tag end_of_mib_view = 0x82

-- `content` encodes the value in this form; NULL and the exceptions have no content (X.690, 8.8)
abbrev pub IsContent : Form → Datum → List ℕ → Type 0
IsContent form (integer_value z) content = IsInteger content z
IsContent form (octet_string text) content = content ≡ text
IsContent form (object_id name) content = IsObjectId content name
IsContent form (ip_address address) content = (content ≡ address) × (length address ≡ 4)
IsContent form (counter32 n) content = IsUnsigned form 4 content n
IsContent form (gauge32 n) content = IsUnsigned form 4 content n
IsContent form (time_ticks n) content = IsUnsigned form 4 content n
IsContent form (opaque_octets text) content = content ≡ text
IsContent form (counter64 n) content = IsUnsigned form 8 content n
IsContent form value content = content ≡ []

-- `octets` encode the value: they are an element with its tag
pub record SpellsValue (form : Form) (value : Datum) (octets : List ℕ) : Type 0 where
  pub content : List ℕ
  pub is_content : IsContent form value content
  pub element : IsElement (value_tag value) content octets

-- the tag of SEQUENCE (X.690, 8.9)
abbrev pub sequence_tag : ℕ
sequence_tag = 0x30

-- The encoding that is written of bindings and messages, composed of the encodings of values
-- (ber/Canon.antt). No strict encoding is shorter (X.690, 8.1.3; RFC 3417, section 8).
use Rattle.std.specs.Prelude.{ℕ, ◌+◌, List, ◌++◌, length}
use Rattle.std.specs.List.{flat_map}
use Rattle.snmp_oid.specs.Identifier.{IsWire}
use Rattle.snmp_wire.specs.ber.Value.{integer_value, octet_string, object_id}
use Rattle.snmp_wire.specs.{Message.VarBind, Message.Message, Spelling.kind_tag}
use Rattle.snmp_wire.specs.ber.Spelling.{sequence_tag}
unfoldable pub use Rattle.snmp_wire.specs.ber.Canon.{canon_content, canon_element, canon_header}
unfoldable pub use Rattle.snmp_wire.specs.ber.Canon.{canon_length, canon_number}
unfoldable pub use Rattle.snmp_wire.specs.ber.Canon.{canon_subidentifier}
unfoldable pub use Rattle.snmp_wire.specs.ber.Canon.{canon_value, digits, length_size, number_size}
unfoldable pub use Rattle.snmp_wire.specs.ber.Canon.{septets, subidentifier_size}
pub use Rattle.snmp_wire.specs.ber.Canon.{IsEncodableValue, digit_count, magnitude_of, octets}

-- the encoding of a binding: a SEQUENCE of the name and the value
unfoldable pub canon_binding : VarBind → List ℕ
canon_binding binding =
    canon_element sequence_tag (canon_value (object_id binding.name) ++ canon_value binding.value)

-- the encodings of the bindings, one after the other
unfoldable pub canon_bindings : List VarBind → List ℕ
canon_bindings bindings = flat_map canon_binding bindings

-- what precedes the PDU in the SEQUENCE of a message: the version and the community
unfoldable pub canon_opening : Message → List ℕ
canon_opening message =
    canon_value (integer_value message.version) ++ canon_value (octet_string message.community)

-- what precedes the varbind list in the PDU: the request-id, `a` and `b`
unfoldable pub canon_fields : Message → List ℕ
canon_fields message =
    canon_value (integer_value message.id) ++ canon_value (integer_value message.a)
    ++ canon_value (integer_value message.b)

-- the encoding that is written of a message: its shortest strict one, if the message is in range
-- (Range.antt)
unfoldable pub canon : Message → List ℕ
canon message =
    canon_element sequence_tag (canon_opening message
    ++ canon_element (kind_tag message.kind)
    (canon_fields message ++ canon_element sequence_tag (canon_bindings message.bindings)))

-- what is between the first length of a message and its bindings, if the bindings take `total`
-- octets together
unfoldable pub canon_prefix : Message → ℕ → List ℕ
canon_prefix message total =
    canon_opening message
    ++ (canon_header (kind_tag message.kind)
    (length (canon_fields message) + length (canon_header sequence_tag total) + total)
    ++ (canon_fields message ++ canon_header sequence_tag total))

-- the encoding of a message before its first binding, if the bindings take `total` octets
-- together
unfoldable pub canon_head : Message → ℕ → List ℕ
canon_head message total =
    canon_header sequence_tag (length (canon_prefix message total) + total)
    ++ canon_prefix message total

-- `binding` can be written: its name has an encoding, and its value can be written
pub record IsEncodable (binding : VarBind) : Type 0 where
  pub name : IsWire binding.name
  pub value : IsEncodableValue binding.value

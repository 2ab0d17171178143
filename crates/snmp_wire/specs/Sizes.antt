-- The lengths of the parts of a message's encoding.
use Rattle.std.specs.Prelude.{◌≡◌, ◌≤◌, ℕ, ◌+◌, length}
use Rattle.snmp_wire.specs.ber.Canon.{canon_header, canon_value}
use Rattle.snmp_wire.specs.{ber.Spelling.sequence_tag, Message.Message, Spelling.kind_tag}
use Rattle.snmp_wire.specs.ber.Value.{integer_value, octet_string}
use Rattle.snmp_wire.specs.Canon.{canon, canon_bindings, canon_fields, canon_prefix, canon_head}
use Rattle.snmp_wire.specs.Canon.{canon_opening}

-- the length of the content of a PDU, if its bindings take `total` octets together
abbrev pub pdu_size : Message → ℕ → ℕ
pdu_size message total =
    length (canon_fields message) + length (canon_header sequence_tag total) + total

-- the length of each part of a message is the sum of the lengths of its own parts; the head isn't
-- shorter if the bindings take more octets
pub record MessageSizes : Type 0 where
  -- the part before the PDU: the version and the community
  pub opening : (m : Message)
      → length (canon_opening m)
      ≡ length (canon_value (integer_value m.version))
      + length (canon_value (octet_string m.community))
  -- the part of the PDU before its varbind list: three numbers
  pub fields : (m : Message)
      → length (canon_fields m)
      ≡ length (canon_value (integer_value m.id)) + length (canon_value (integer_value m.a))
      + length (canon_value (integer_value m.b))
  -- the part between the first length and the first binding
  pub prefix : (m : Message) (total : ℕ)
      → length (canon_prefix m total)
      ≡ length (canon_opening m) + length (canon_header (kind_tag m.kind) (pdu_size m total))
      + length (canon_fields m) + length (canon_header sequence_tag total)
  -- the head, which ends before the first binding: a header, and the part after the first length
  pub head : (m : Message) (total : ℕ)
      → length (canon_head m total)
      ≡ length (canon_header sequence_tag (length (canon_prefix m total) + total))
      + length (canon_prefix m total)
  -- the whole message: its head and its bindings
  pub whole : (m : Message)
      → length (canon m)
      ≡ length (canon_head m (length (canon_bindings m.bindings)))
      + length (canon_bindings m.bindings)
  -- a head isn't shorter if its bindings take more octets
  pub heads_rise : (m : Message) (n k : ℕ)
      → n ≤ k → length (canon_head m n) ≤ length (canon_head m k)

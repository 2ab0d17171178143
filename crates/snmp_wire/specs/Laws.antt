-- The statements of the laws of messages and their encodings.
use Rattle.std.specs.Prelude.{◌≡◌, ◌≤◌, ℕ, List, [], ◌∷◌, ◌++◌, length}
use Rattle.snmp_wire.specs.{Canon.canon, Canon.canon_bindings, Canon.canon_head, Message.Message}
use Rattle.snmp_wire.specs.{Name.asking, Shortest.IsShortestEncoding, Spelling.Spells}
use Rattle.snmp_wire.specs.Spelling.{Strict}
use Rattle.snmp_wire.specs.Range.{IsMessageInRange, IsMessageOfType}

-- octets encode at most one message, and no encoding is a proper prefix of another
abbrev pub OneMessage : Type 0
OneMessage =
    (m n : Message) (b c rest more : List ℕ)
    → Spells m b → Spells n c → b ++ rest ≡ c ++ more → (m ≡ n) × (b ≡ c)

-- if octets encode a message, its parts are of their types
abbrev pub EncodingIsOfType : Type 0
EncodingIsOfType = (m : Message) (octets : List ℕ) → Spells m octets → IsMessageOfType m

-- a strict encoding is also one in the forms that are accepted
abbrev pub StrictIsRead : Type 0
StrictIsRead = (m : Message) (octets : List ℕ) → Strict m octets → Spells m octets

-- the encoding that is written of a message in range is strict
abbrev pub EncodingIsStrict : Type 0
EncodingIsStrict = (m : Message) → IsMessageInRange m → Strict m (canon m)

-- no strict encoding of a message is shorter than the one that is written
abbrev pub EncodingIsShortest : Type 0
EncodingIsShortest =
    (m : Message) (octets : List ℕ) → Strict m octets → length (canon m) ≤ length octets

-- the encoding that is written of a message is its head, followed by the encodings of its bindings
-- in turn
abbrev pub HasPieces : Type 0
HasPieces =
    (m : Message)
    → canon m ≡ canon_head m (length (canon_bindings m.bindings)) ++ canon_bindings m.bindings

-- a request for one name has at most 1000 octets, if its community has at most 255, and the name at
-- most 128 numbers
abbrev pub RequestsAreShort : Type 0
RequestsAreShort =
    (m : Message) (name : List ℕ)
    → m.bindings ≡ asking name ∷ [] → length m.community ≤ 255 → length name ≤ 128
    → length (canon m) ≤ 1000

-- a message in range has exactly one shortest strict encoding: the one that is written
pub record OneShortestEncoding : Type 0 where
  pub written : (m : Message) → IsMessageInRange m → IsShortestEncoding (canon m) m
  pub one : (m : Message) (octets other : List ℕ)
      → IsMessageInRange m → IsShortestEncoding octets m → IsShortestEncoding other m
      → octets ≡ other

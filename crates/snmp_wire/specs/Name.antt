-- Encoded names: what content octets say of identifiers and of their order (X.690, 8.19; RFC 3416,
-- section 4.2.2).
use Rattle.std.specs.Prelude.{◌≡◌, ℕ, ◌<◌, ◌≤◌, ◌⊎◌, ◌↔◌, List, [], length, get_or, IsOk}
use Rattle.std.specs.Result.{result_unwrap_or}
use Rattle.snmp_oid.specs.Identifier.{IsBelow, IsWire, Precedes}
use Rattle.snmp_wire.specs.Message.{VarBind, null_value}
use Rattle.snmp_wire.specs.ber.Identifier.{IsObjectId, IsSubidentifier, subidentifiers}
use Rattle.snmp_wire.specs.{ber.Number.AreOctets, ber.Decode.identifier_of}

-- the identifier that `content` encodes, or the empty one if it encodes none
abbrev pub identifier_in : List ℕ → List ℕ
identifier_in content = result_unwrap_or (identifier_of content) []

-- `content` consists of octets and encodes an identifier
pub record IsContentOctets (content : List ℕ) : Type 0 where
  pub read : IsOk (identifier_of content)
  pub octets : AreOctets content

-- the binding that requests `name`: its value is NULL
abbrev pub asking : List ℕ → VarBind
asking name = record { name = name; value = null_value }

-- The subidentifier `text` comes before `other`: it has fewer octets; or both have the same
-- length, and `text` has the smaller octet at the first difference.
abbrev pub ComesFirst : List ℕ → List ℕ → Type 0
ComesFirst text other =
    (length text < length other) ⊎ ((length text ≡ length other) × Precedes text other)

-- how contents and the identifiers that they encode are related
pub record EncodedNames : Type 0 where
  -- a content encodes at most one identifier
  pub one_name : (content o p : List ℕ) → IsObjectId content o → IsObjectId content p → o ≡ p
  -- an identifier has at most one content
  pub one_content : (content other o : List ℕ) → AreOctets content → AreOctets other
      → IsObjectId content o → IsObjectId other o → content ≡ other
  -- `o` is below `p` if and only if the content of `o` begins with that of `p` and is longer
  pub below : (content root o p : List ℕ) → AreOctets content → AreOctets root
      → IsObjectId content o → IsObjectId root p → IsBelow o p ↔ IsBelow content root
  -- a name precedes another if and only if its list of subidentifiers precedes the other's
  pub names_order : (o p : List ℕ) → IsWire o → IsWire p
      → Precedes o p ↔ Precedes (subidentifiers o) (subidentifiers p)
  -- subidentifiers are ordered by their lengths, and then by their octets
  pub octets_order : (text other : List ℕ) (n m : ℕ) → AreOctets text → AreOctets other
      → IsSubidentifier text n → IsSubidentifier other m → (n < m) ↔ ComesFirst text other

-- ---- for private functions

-- the subidentifier that contains the octet at `at` has its last octet at `end`
pub record EndsAt (content : List ℕ) (at end : ℕ) : Type 0 where
  pub suffix : at ≤ end
  pub within : end < length content
  pub goes_on : (k : ℕ) → at ≤ k → k < end → 128 ≤ get_or content k 0
  pub ends : get_or content end 0 < 128

-- `octets` and `others` have at least `count` octets each, and the first `count` are the same
pub record IsAlike (octets others : List ℕ) (count : ℕ) : Type 0 where
  pub short : count ≤ length octets
  pub other_short : count ≤ length others
  pub same : (k : ℕ) → k < count → get_or octets k 0 ≡ get_or others k 0

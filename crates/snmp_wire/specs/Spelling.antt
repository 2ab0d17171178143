-- What octets encode: values, variable bindings and messages in BER (RFC 3416, section 3; RFC 1901,
-- section 3; RFC 3417, section 8; X.690).
use Rattle.std.specs.Prelude.{◌≡◌, ℕ, List, [], ◌∷◌, ◌++◌}
use Rattle.snmp_wire.specs.{declared.kind.Kind.Kind, ber.Length.IsElement}
use Rattle.snmp_wire.specs.declared.kind.Kind.TheVariants as kind
use Rattle.snmp_wire.specs.ber.Number.{AreOctets, Form, lenient, strict}
use Rattle.snmp_wire.specs.ber.Value.{integer_value, octet_string, object_id}
use Rattle.snmp_wire.specs.Message.{VarBind, Message}
pub use Rattle.snmp_wire.specs.ber.Spelling.{IsContent, SpellsValue, sequence_tag, value_tag}

-- `octets` encode `binding`: a SEQUENCE of its name and its value
pub record SpellsBinding (form : Form) (binding : VarBind) (octets : List ℕ) : Type 0 where
  pub name : List ℕ
  pub value : List ℕ
  pub is_name : SpellsValue form (object_id binding.name) name
  pub is_value : SpellsValue form binding.value value
  pub element : IsElement sequence_tag (name ++ value) octets

-- `octets` encode the bindings in turn
abbrev pub SpellsBindings : Form → List VarBind → List ℕ → Type 0
SpellsBindings form [] octets = octets ≡ []
SpellsBindings form (binding ∷ more) octets =
    (first : List ℕ) × (rest : List ℕ) × (octets ≡ first ++ rest)
    × SpellsBinding form binding first × SpellsBindings form more rest

-- the tag of a PDU of this kind (RFC 3416, section 3)
abbrev pub kind_tag : Kind → ℕ
kind_tag kind.GetRequest = 0xA0
kind_tag kind.GetNextRequest = 0xA1
kind_tag kind.Response = 0xA2
kind_tag kind.SetRequest = 0xA3
kind_tag kind.GetBulkRequest = 0xA5
kind_tag kind.InformRequest = 0xA6
kind_tag kind.Trap = 0xA7
kind_tag kind.Report = 0xA8

-- `octets` encode the PDU of `message`: an element with the tag of its kind, which contains the
-- request-id, `a`, `b`, and a SEQUENCE of the bindings
pub record SpellsPdu (form : Form) (message : Message) (octets : List ℕ) : Type 0 where
  pub id : List ℕ
  pub a : List ℕ
  pub b : List ℕ
  pub bindings : List ℕ
  pub list : List ℕ
  pub is_id : SpellsValue form (integer_value message.id) id
  pub is_a : SpellsValue form (integer_value message.a) a
  pub is_b : SpellsValue form (integer_value message.b) b
  pub are_bindings : SpellsBindings form message.bindings bindings
  pub is_list : IsElement sequence_tag bindings list
  pub element : IsElement (kind_tag message.kind) (id ++ a ++ b ++ list) octets

-- `octets` encode `message`: a SEQUENCE of version, community and PDU
pub record SpellsMessage (form : Form) (message : Message) (octets : List ℕ) : Type 0 where
  pub version : List ℕ
  pub community : List ℕ
  pub pdu : List ℕ
  pub is_version : SpellsValue form (integer_value message.version) version
  pub is_community : SpellsValue form (octet_string message.community) community
  pub is_pdu : SpellsPdu form message pdu
  pub element : IsElement sequence_tag (version ++ community ++ pdu) octets
  pub are_octets : AreOctets octets

-- `octets` encode `message` in the forms that are accepted
abbrev pub Spells : Message → List ℕ → Type 0
Spells message octets = SpellsMessage lenient message octets

-- `octets` are a strict encoding of `message`: its unsigned numbers too are in two's complement
-- (X.690, 8.3.3), minimal or not
abbrev pub Strict : Message → List ℕ → Type 0
Strict message octets = SpellsMessage strict message octets

-- Decoding of bindings and messages from their start, with the first fault that is found: what the
-- functions that decode are proved to compute. Spelling.antt says what octets encode; that both
-- agree is proved.
use Rattle.std.specs.Prelude.{ℕ, zero, suc, ℤ, ◌==◌, if◌then◌else◌, List, [], ◌∷◌, length, Result}
use Rattle.std.specs.Prelude.{Ok, Err}
use Rattle.std.specs.Result.{result_unwrap_or}
use Rattle.snmp_wire.specs.declared.ber.error.BerError.{BerError}
use Rattle.snmp_wire.specs.declared.ber.error.BerError.TheVariants as error
use Rattle.snmp_wire.specs.{declared.kind.Kind.Kind, Message.Message, Message.VarBind}
use Rattle.snmp_wire.specs.Message.{null_value}
use Rattle.snmp_wire.specs.declared.kind.Kind.TheVariants as kind
use Rattle.snmp_wire.specs.declared.binding.Fields as Lent
use Rattle.snmp_wire.specs.ber.Decode.{fault_or, content_at, element_at, identifier_of, inner_at}
use Rattle.snmp_wire.specs.ber.Decode.{integer_at, typed_value, ◌>>=◌}

-- the fields of an encoded binding
pub record Fields : Type 0 where
  pub name : List ℕ
  pub tag : ℕ
  pub content : List ℕ

-- the fields, regardless of where their octets are in memory
abbrev pub fields : Lent.Fields → Fields
fields f = record { name = f.name.now; tag = f.tag; content = f.content.now }

unfoldable pub fields_of : List ℕ → Result Fields BerError
fields_of content = do
  name ← inner_at 0x06 content
  value ← element_at name.1
  if length value.2 == 0
      then Ok (record { name = name.0; tag = value.0; content = value.1 })
      else Err (fault_or (typed_value value.0 value.1) error.Content)

unfoldable pub fields_at : List ℕ → Result (Fields × List ℕ) BerError
fields_at octets = do
  binding ← inner_at 0x30 octets
  fields ← fields_of binding.0
  Ok (fields, binding.1)

-- the binding with these fields: the identifier, and the value of the tag and the content
unfoldable pub binding_of : Fields → Result VarBind BerError
binding_of fields = do
  name ← identifier_of fields.name
  value ← typed_value fields.tag fields.content
  Ok (record { name = name; value = value })

-- the binding with these fields, or the binding of the empty name and NULL if their contents don't
-- encode a name and a value
abbrev pub binding_with : Fields → VarBind
binding_with fields =
    result_unwrap_or (binding_of fields) (record { name = []; value = null_value })

unfoldable pub binding_at : List ℕ → Result (VarBind × List ℕ) BerError
binding_at octets = do
  fields ← fields_at octets
  binding ← binding_of fields.0
  Ok (binding, fields.1)

-- the bindings that the octets encode, one after the other; a fault if there are more than `fuel`
unfoldable pub bindings_within : ℕ → List ℕ → Result (List VarBind) BerError
bindings_within fuel [] = Ok []
bindings_within zero (octet ∷ rest) = Err error.Content
bindings_within (suc fuel) (octet ∷ rest) = do
  first ← binding_at (octet ∷ rest)
  more ← bindings_within fuel first.1
  Ok (first.0 ∷ more)

-- the bindings that the octets encode, one after the other
unfoldable pub bindings_of : List ℕ → Result (List VarBind) BerError
bindings_of octets = bindings_within (length octets) octets

-- the bindings that the octets encode, or `[]` if they don't encode bindings
abbrev pub bindings_in : List ℕ → List VarBind
bindings_in octets = result_unwrap_or (bindings_of octets) []

-- ---- for private functions

-- the fault of a binding if octets follow its value, which has this tag and content: the fault of
-- the value, or `Content` if the value has none
abbrev pub left_over_after : ℕ → List ℕ → BerError
left_over_after tag content = fault_or (typed_value tag content) error.Content

unfoldable pub kind_of : ℕ → Result Kind BerError
kind_of tag =
    if tag == 0xA0 then Ok kind.GetRequest
    else (if tag == 0xA1 then Ok kind.GetNextRequest
    else (if tag == 0xA2 then Ok kind.Response
    else (if tag == 0xA3 then Ok kind.SetRequest
    else (if tag == 0xA5 then Ok kind.GetBulkRequest
    else (if tag == 0xA6 then Ok kind.InformRequest
    else (if tag == 0xA7 then Ok kind.Trap
    else (if tag == 0xA8 then Ok kind.Report
    else Err error.Tag)))))))

-- the content of the outermost element, if it is a SEQUENCE and no octets follow it; otherwise the
-- fault
unfoldable pub outermost_of : List ℕ → Result (List ℕ) BerError
outermost_of [] = Err error.Truncated
outermost_of (tag ∷ rest) =
    if tag == 0x30
    then (content_at error.Truncated rest
    >>= λ c. if length c.1 == 0 then Ok c.0 else Err error.Trailing)
    else Err error.Tag

unfoldable pub pdu_of : ℤ → List ℕ → Kind → List ℕ → Result Message BerError
pdu_of version community kind content = do
  id ← integer_at content
  a ← integer_at id.1
  b ← integer_at a.1
  list ← inner_at 0x30 b.1
  bindings ← (if length list.1 == 0 then bindings_of list.0 else Err error.Content)
  Ok (record {
    version = version;
    community = community;
    kind = kind;
    id = id.0;
    a = a.0;
    b = b.0;
    bindings = bindings;
  })

unfoldable pub message_of : List ℕ → Result Message BerError
message_of octets = do
  content ← outermost_of octets
  version ← integer_at content
  community ← inner_at 0x04 version.1
  pdu ← element_at community.1
  kind ← (if length pdu.2 == 0 then kind_of pdu.0 else Err (fault_or (kind_of pdu.0) error.Content))
  pdu_of version.0 community.0 kind pdu.1

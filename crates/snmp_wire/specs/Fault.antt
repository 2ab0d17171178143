-- Why octets don't encode a message: what each error says of them.
use Rattle.std.specs.Prelude.{◌≡◌, ◌≢◌, ℕ, ◌≤◌, ◌⊎◌, List, [], ◌∷◌, ◌++◌, Option, Some, None}
use Rattle.snmp_wire.specs.declared.ber.error.BerError.{BerError}
use Rattle.snmp_wire.specs.declared.ber.error.BerError.TheVariants as error
use Rattle.snmp_wire.specs.{declared.kind.Kind.Kind, ber.Number.lenient, ber.Length.IsElement}
use Rattle.snmp_wire.specs.{ber.Value.Datum, Spelling.kind_tag}
use Rattle.snmp_wire.specs.ber.Spelling.{sequence_tag, value_tag, IsContent}

-- `octets` begin with an element with this tag and content, and `rest` follows it
pub record BeginsWith (tag : ℕ) (content octets rest : List ℕ) : Type 0 where
  pub element : List ℕ
  pub is_element : IsElement tag content element
  pub parts : octets ≡ element ++ rest

-- `octets` end before their first element does: together with some missing octets they would be an
-- element
pub record EndsEarly (octets : List ℕ) : Type 0 where
  pub missing : List ℕ
  pub some : missing ≢ []
  pub tag : ℕ
  pub content : List ℕ
  pub whole : IsElement tag content (octets ++ missing)

-- the length of the first element begins with 0x80 (the indefinite form), or with 0x85 or above
pub record HasForbiddenLength (octets : List ℕ) : Type 0 where
  pub tag : ℕ
  pub first : ℕ
  pub rest : List ℕ
  pub parts : octets ≡ tag ∷ first ∷ rest
  pub forbidden : (first ≡ 0x80) ⊎ (0x85 ≤ first)

-- the elements of a message, by their positions in it
pub data Position : Type 0 where
  at_message : Position
  at_version : Position
  at_community : Position
  at_pdu : Position
  at_id : Position
  at_a : Position
  at_b : Position
  at_list : Position
  at_binding : Position
  at_name : Position
  at_value : Position

-- the position of the first element inside the element at this position, if the outer one consists
-- of elements
abbrev pub first_inside : Position → Option Position
first_inside at_message = Some at_version
first_inside at_pdu = Some at_id
first_inside at_list = Some at_binding
first_inside at_binding = Some at_name
first_inside position = None

-- the position of the next element inside the same outer element, if there can be one
abbrev pub next_after : Position → Option Position
next_after at_version = Some at_community
next_after at_community = Some at_pdu
next_after at_id = Some at_a
next_after at_a = Some at_b
next_after at_b = Some at_list
next_after at_binding = Some at_binding
next_after at_name = Some at_value
next_after position = None

-- `tag` is allowed at the position
abbrev pub AllowsTag : Position → ℕ → Type 0
AllowsTag at_message tag = tag ≡ sequence_tag
AllowsTag at_version tag = tag ≡ 0x02
AllowsTag at_community tag = tag ≡ 0x04
AllowsTag at_pdu tag = (kind : Kind) × (tag ≡ kind_tag kind)
AllowsTag at_id tag = tag ≡ 0x02
AllowsTag at_a tag = tag ≡ 0x02
AllowsTag at_b tag = tag ≡ 0x02
AllowsTag at_list tag = tag ≡ sequence_tag
AllowsTag at_binding tag = tag ≡ sequence_tag
AllowsTag at_name tag = tag ≡ 0x06
AllowsTag at_value tag = (value : Datum) × (tag ≡ value_tag value)

-- an element is required at the position: always, unless the position is `at_binding` and `here`,
-- what is left of the varbind list, is empty
abbrev pub Calls : Position → List ℕ → Type 0
Calls at_binding here = here ≢ []
Calls position here = Unit {0}

-- for `octets` to be a message, `here` must begin with an element that is allowed at the position.
-- `here` is all of `octets` for the message itself, otherwise what is left of the outer element.
pub data Expects (octets : List ℕ) : Position → List ℕ → Type 0 where
  starts : Expects octets at_message octets
  inside : (position next : Position) (here : List ℕ) (tag : ℕ) (content rest : List ℕ)
      → Expects octets position here → AllowsTag position tag → BeginsWith tag content here rest
      → first_inside position ≡ Some next → Calls next content → Expects octets next content
  suffix : (position next : Position) (here : List ℕ) (tag : ℕ) (content rest : List ℕ)
      → Expects octets position here → AllowsTag position tag → BeginsWith tag content here rest
      → next_after position ≡ Some next → Calls next rest → Expects octets next rest

-- `octets` have a length of a forbidden form, or an inner element that is missing from the element
-- around it or reaches past its end
pub record HasBadLength (octets : List ℕ) : Type 0 where
  pub position : Position
  pub here : List ℕ
  pub expected : Expects octets position here
  pub bad : HasForbiddenLength here ⊎ ((position ≢ at_message) × EndsEarly here)

-- `octets` have a tag that isn't allowed at its position
pub record HasBadTag (octets : List ℕ) : Type 0 where
  pub position : Position
  pub here : List ℕ
  pub expected : Expects octets position here
  pub tag : ℕ
  pub after : List ℕ
  pub parts : here ≡ tag ∷ after
  pub bad : AllowsTag position tag → ⊥

-- `octets` have a value with a tag that is allowed at its position, and a content that no value
-- with this tag has
pub record HasBadContent (octets : List ℕ) : Type 0 where
  pub position : Position
  pub here : List ℕ
  pub expected : Expects octets position here
  pub is_value : first_inside position ≡ None
  pub tag : ℕ
  pub content : List ℕ
  pub after : List ℕ
  pub allowed : AllowsTag position tag
  pub begins : BeginsWith tag content here after
  pub bad : (value : Datum) → tag ≡ value_tag value → IsContent lenient value content → ⊥

-- `octets` have octets left over after the last element of a SEQUENCE or a PDU, and the tag of
-- that element is allowed at its position
pub record HasLeftOver (octets : List ℕ) : Type 0 where
  pub position : Position
  pub here : List ℕ
  pub expected : Expects octets position here
  pub is_inner : position ≢ at_message
  pub is_last : next_after position ≡ None
  pub tag : ℕ
  pub content : List ℕ
  pub after : List ℕ
  pub allowed : AllowsTag position tag
  pub begins : BeginsWith tag content here after
  pub some : after ≢ []

-- `octets` continue after the outermost element
pub record HasTrailing (octets : List ℕ) : Type 0 where
  pub tag : ℕ
  pub content : List ℕ
  pub after : List ℕ
  pub begins : BeginsWith tag content octets after
  pub some : after ≢ []

-- `octets` have the fault that the error reports
abbrev pub IsFault : BerError → List ℕ → Type 0
IsFault error.Truncated octets = EndsEarly octets
IsFault error.Trailing octets = HasTrailing octets
IsFault error.Length octets = HasBadLength octets
IsFault error.Tag octets = HasBadTag octets
IsFault error.Content octets = HasBadContent octets ⊎ HasLeftOver octets

-- Sequences of elements, the structure of bindings, PDUs and messages: an element is a value, or
-- contains further elements. For all of these it is proved once that what is written of them
-- encodes them (`strict_canon`), and that no strict encoding is shorter (`message_least`).
use Rattle.std.proofs.{lemmas.Grind.common_steps, lemmas.List.append-nil, Math.Nat.pow-le-pow_right, Math.Seq.take-append_seam}
use Rattle.std.proofs.Common.{◌≡◌, ℕ, ◌^◌, ◌<◌, List, [], ◌++◌, length, refl, sym, subst, ◌≤◌, ◌∷◌, ap, ◌∙◌, append_assoc, lit<, arith, length-append}
use Rattle.std.proofs.Common.{inl, inr, take}
use Rattle.std.specs.List.{AllByRecursion}
use Rattle.snmp_wire.specs.{ber.Canon.canon_element, ber.Canon.canon_value, ber.Length.IsElement, ber.Range.IsInRange, ber.Range.IsOfType}
use Rattle.snmp_wire.specs.{declared.kind.Kind.Kind, Message.VarBind, Message.Message, Laws.OneShortestEncoding, Shortest.IsShortestEncoding}
use Rattle.snmp_wire.specs.ber.Number.{Form, IsUnsigned, lenient, strict, AreOctets, number_of, unsigned}
use Rattle.snmp_wire.specs.ber.Spelling.{IsContent, SpellsValue, sequence_tag}
use Rattle.snmp_wire.specs.ber.Value.{Datum, counter32, gauge32, time_ticks, counter64, integer_value, octet_string, object_id, ip_address}
use Rattle.snmp_wire.specs.ber.Value.{opaque_octets}
use Rattle.snmp_wire.specs.declared.kind.Kind.TheVariants as kind
use Rattle.snmp_wire.specs.Canon.{canon, canon_binding, canon_bindings, canon_fields, canon_opening, canon_prefix, canon_head}
use Rattle.snmp_wire.specs.Range.{IsBindingInRange, IsBindingOfType, IsMessageInRange, IsMessageOfType}
use Rattle.snmp_wire.specs.Spelling.{SpellsBinding, SpellsBindings, SpellsMessage, SpellsPdu, Spells, Strict, kind_tag}
use Rattle.snmp_wire.proofs.Digits.{Octets, back_octets, both_octets, prefix_octets, by_octets, octets_by, below_power}
use Rattle.snmp_wire.proofs.Shortest.{IsNoShorter, both_texts, content_octets, element_least, same_text, value_least, element_octets, is_element}
use Rattle.snmp_wire.proofs.Shortest.{spells_value, value_octets, element_most, value_short, signed_fits}
use Rattle.snmp_wire.proofs.WrittenMessages.{canon_parts}

pub data Elements : Type 0 where
  no_elements : Elements
  value_then : Datum → Elements → Elements
  element_then : ℕ → Elements → Elements → Elements

-- `octets` encode these elements in turn
abbrev pub SpellsAll : Form → Elements → List ℕ → Type 0
SpellsAll form no_elements octets = octets ≡ []
SpellsAll form (value_then value more) octets =
    (first : List ℕ) × (rest : List ℕ) × (octets ≡ first ++ rest) × SpellsValue form value first × SpellsAll form more rest
SpellsAll form (element_then tag within more) octets =
    (first : List ℕ) × (rest : List ℕ) × (octets ≡ first ++ rest) × (content : List ℕ) × IsElement tag content first
    × SpellsAll form within content × SpellsAll form more rest

-- the encoding that is written of these elements
abbrev pub canon_all : Elements → List ℕ
canon_all no_elements = []
canon_all (value_then value more) = canon_value value ++ canon_all more
canon_all (element_then tag within more) = canon_element tag (canon_all within) ++ canon_all more

-- the values are within their ranges, and each element that contains others has a tag below 256 and fewer than 2 ^ 32 octets of content
abbrev pub AreInRange : Elements → Type 0
AreInRange no_elements = Unit {0}
AreInRange (value_then value more) = IsInRange value × AreInRange more
AreInRange (element_then tag within more) = (tag < 256) × (length (canon_all within) < 2 ^ 32) × AreInRange within × AreInRange more

abbrev pub AreOfType : Elements → Type 0
AreOfType no_elements = Unit {0}
AreOfType (value_then value more) = IsOfType value × AreOfType more
AreOfType (element_then tag within more) = AreOfType within × AreOfType more

-- if a content encodes an unsigned number strictly, then it encodes it in the lenient form too
unsigned_is_read : {width : ℕ} {content : List ℕ} {n : ℕ} → IsUnsigned strict width content n → IsUnsigned lenient width content n
unsigned_is_read is = record { some = is.some; few = is.few; value = is.value; allowed = tt }

content_is_read : (value : Datum) (content : List ℕ) → IsContent strict value content → IsContent lenient value content
content_is_read (counter32 n) content is = unsigned_is_read is
content_is_read (gauge32 n) content is = unsigned_is_read is
content_is_read (time_ticks n) content is = unsigned_is_read is
content_is_read (counter64 n) content is = unsigned_is_read is
content_is_read value content is = is

value_is_read : (value : Datum) (text : List ℕ) → SpellsValue strict value text → SpellsValue lenient value text
value_is_read value text is = record { content = is.content; is_content = content_is_read value is.content is.is_content; element = is.element }

pub are_read : (all : Elements) (octets : List ℕ) → SpellsAll strict all octets → SpellsAll lenient all octets
are_read no_elements octets is = is
are_read (value_then value more) octets (first, rest, parts, this, others) = grind (arith, common_steps, are_read more rest others, value_is_read)
are_read (element_then tag within more) octets (first, rest, parts, content, element, inner, others) =
    grind (arith, common_steps, are_read within content inner, are_read more rest others)

-- if elements are within their ranges, then what is written of them is a strict encoding
pub are_strict : (all : Elements) → AreInRange all → SpellsAll strict all (canon_all all)
are_strict no_elements range = refl
are_strict (value_then value more) (this, others) = grind (arith, common_steps, are_strict more others, spells_value)
are_strict (element_then tag within more) (small, short, inner, others) =
    grind (arith, common_steps, are_strict within inner, are_strict more others, is_element)

pub are_octets : (all : Elements) → AreInRange all → Octets (canon_all all)
are_octets no_elements range = tt
are_octets (value_then value more) (this, others) = grind (arith, common_steps, are_octets more others, both_octets, value_octets)
are_octets (element_then tag within more) (small, short, inner, others) =
    grind (arith, common_steps, are_octets within inner, are_octets more others, both_octets, element_octets)

-- a strict encoding of elements isn't shorter than the one that is written, and is the same if it
-- is as long
pub are_least : (all : Elements) (octets : List ℕ) → Octets octets → SpellsAll strict all octets → IsNoShorter (canon_all all) octets
are_least no_elements octets h is = same_text is
are_least (value_then value more) octets h (first, rest, parts, this, others) =
    let both : Octets (first ++ rest) = subst Octets parts h in
    rw parts
    (both_texts (value_least value first (prefix_octets first rest both) this) (are_least more rest (back_octets first rest both) others))
are_least (element_then tag within more) octets h (first, rest, parts, content, element, inner, others) =
    let both : Octets (first ++ rest) = subst Octets parts h in
    let whole : Octets first = prefix_octets first rest both in
    rw parts
    (both_texts (element_least whole element (are_least within content (content_octets whole element) inner))
    (are_least more rest (back_octets first rest both) others))

-- ---- the elements of bindings, PDUs and messages

abbrev pub binding_then : VarBind → Elements → Elements
binding_then binding more = element_then sequence_tag (value_then (object_id binding.name) (value_then binding.value no_elements)) more

abbrev pub elements_of_bindings : List VarBind → Elements
elements_of_bindings [] = no_elements
elements_of_bindings (binding ∷ more) = binding_then binding (elements_of_bindings more)

abbrev pub elements_in_pdu : Message → Elements
elements_in_pdu message =
    value_then (integer_value message.id) (value_then (integer_value message.a) (value_then (integer_value message.b)
    (element_then sequence_tag (elements_of_bindings message.bindings) no_elements)))

abbrev pub elements_in_message : Message → Elements
elements_in_message message =
    value_then (integer_value message.version) (value_then (octet_string message.community)
    (element_then (kind_tag message.kind) (elements_in_pdu message) no_elements))

abbrev pub elements_of : Message → Elements
elements_of message = element_then sequence_tag (elements_in_message message) no_elements

-- ---- encodings

-- if octets begin with `last` and nothing follows, then they are `last`
last_is : (octets last end : List ℕ) → octets ≡ last ++ end → end ≡ [] → octets ≡ last
last_is octets last end parts none = parts ∙ ap (λ (o : List ℕ). last ++ o) none ∙ append-nil last

module _ (form : Form) where
  binding_in_row : (binding : VarBind) (more : Elements) (octets rest : List ℕ) → SpellsBinding form binding octets → SpellsAll form more rest
      → SpellsAll form (binding_then binding more) (octets ++ rest)
  binding_in_row binding more octets rest is others = grind (arith, common_steps, append-nil)

  bindings_in_row : (bindings : List VarBind) (octets : List ℕ) → SpellsBindings form bindings octets
      → SpellsAll form (elements_of_bindings bindings) octets
  bindings_in_row [] octets is = is
  bindings_in_row (binding ∷ more) octets (first, rest, parts, this, others) = grind (arith, common_steps, bindings_in_row more rest others, binding_in_row)

  -- if `content` encodes the elements `within`, then an element with this content encodes a list of one element
  alone : (tag : ℕ) (within : Elements) {content octets : List ℕ} → IsElement tag content octets → SpellsAll form within content
      → SpellsAll form (element_then tag within no_elements) octets
  alone tag within {content} {octets} element inner = (octets, [], sym (append-nil octets), content, element, inner, refl)

  of_alone : (tag : ℕ) (within : Elements) (octets : List ℕ) → SpellsAll form (element_then tag within no_elements) octets
      → (content : List ℕ) × IsElement tag content octets × SpellsAll form within content
  of_alone tag within octets (first, end, parts, content, element, inner, none) =
      (content, subst (IsElement tag content) (sym (last_is octets first end parts none)) element, inner)

  pub in_row : (message : Message) (octets : List ℕ) → SpellsMessage form message octets → SpellsAll form (elements_of message) octets
  in_row message octets is =
      let pdu = is.is_pdu in
      let list = alone sequence_tag (elements_of_bindings message.bindings) pdu.is_list
      (bindings_in_row message.bindings pdu.bindings pdu.are_bindings) in
      let fields : SpellsAll form (elements_in_pdu message) (pdu.id ++ (pdu.a ++ (pdu.b ++ pdu.list))) =
      (pdu.id, pdu.a ++ (pdu.b ++ pdu.list), refl, pdu.is_id, (pdu.a, pdu.b ++ pdu.list, refl, pdu.is_a, (pdu.b, pdu.list, refl, pdu.is_b, list))) in
      let row = alone (kind_tag message.kind) (elements_in_pdu message) (rw (append_assoc, append_assoc) at pdu.element) fields in
      let inner : SpellsAll form (elements_in_message message) (is.version ++ (is.community ++ is.pdu)) =
      (is.version, is.community ++ is.pdu, refl, is.is_version, (is.community, is.pdu, refl, is.is_community, row)) in
      alone sequence_tag (elements_in_message message) (rw append_assoc at is.element) inner

  binding_of_row : (binding : VarBind) (content octets : List ℕ) → IsElement sequence_tag content octets
      → SpellsAll form (value_then (object_id binding.name) (value_then binding.value no_elements)) content → SpellsBinding form binding octets
  binding_of_row binding content octets element (name, after, parts, is_name, (value, end, last, is_value, none)) =
      grind (arith, common_steps, last_is)

  pub one_of_row : (binding : VarBind) (octets : List ℕ) → SpellsAll form (binding_then binding no_elements) octets → SpellsBinding form binding octets
  one_of_row binding octets (first, end, parts, content, element, inner, none) = grind (arith, common_steps, last_is, binding_of_row)

  bindings_of_row : (bindings : List VarBind) (octets : List ℕ) → SpellsAll form (elements_of_bindings bindings) octets
      → SpellsBindings form bindings octets
  bindings_of_row [] octets is = is
  bindings_of_row (binding ∷ more) octets (first, rest, parts, content, element, inner, others) =
      grind (arith, common_steps, bindings_of_row more rest others, binding_of_row)

  pdu_of_row : (message : Message) (content octets : List ℕ) → IsElement (kind_tag message.kind) content octets
      → SpellsAll form (elements_in_pdu message) content → SpellsPdu form message octets
  pdu_of_row message content octets element (id, ahead, one, is_id, (a, after, two, is_a, (b, list, three, is_b, last))) =
      let bindings = of_alone sequence_tag (elements_of_bindings message.bindings) list last in
      record {
        id = id;
        a = a;
        b = b;
        bindings = bindings.0;
        list = list;
        is_id = is_id;
        is_a = is_a;
        is_b = is_b;
        are_bindings = bindings_of_row message.bindings bindings.0 bindings.2;
        is_list = bindings.1;
        element = rw (append_assoc, append_assoc, ← three, ← two, ← one) element;
      }

  message_of_row : (message : Message) (content octets : List ℕ) → AreOctets octets → IsElement sequence_tag content octets
      → SpellsAll form (elements_in_message message) content → SpellsMessage form message octets
  message_of_row message content octets h element (version, ahead, one, is_version, (community, pdu, two, is_community, last)) =
      let row = of_alone (kind_tag message.kind) (elements_in_pdu message) pdu last in
      record {
        version = version;
        community = community;
        pdu = pdu;
        is_version = is_version;
        is_community = is_community;
        is_pdu = pdu_of_row message row.0 pdu row.1 row.2;
        element = rw (append_assoc, ← two, ← one) element;
        are_octets = h;
      }

  pub of_row : (message : Message) (octets : List ℕ) → AreOctets octets → SpellsAll form (elements_of message) octets
      → SpellsMessage form message octets
  of_row message octets h all =
      let row = of_alone sequence_tag (elements_in_message message) octets all in
      message_of_row message row.0 octets h row.1 row.2

-- ---- what is written

binding_is : (binding : VarBind) → canon_binding binding ≡ canon_all (binding_then binding no_elements)
unfolding canon_binding
binding_is binding = simp append-nil

pub bindings_are : (bindings : List VarBind) → canon_bindings bindings ≡ canon_all (elements_of_bindings bindings)
unfolding canon_bindings canon_binding
bindings_are [] = refl
bindings_are (binding ∷ more) = rw (append-nil (canon_value binding.value), ← bindings_are more) refl

message_is : (message : Message) → canon message ≡ canon_all (elements_of message)
unfolding canon canon_opening canon_fields
message_is message = rw (← bindings_are message.bindings) (simp (append_assoc, append-nil))

kind_fits : (k : Kind) → kind_tag k < 256
kind_fits kind.GetRequest = lit< tt
kind_fits k = lit< tt

bindings_in_range : (bindings : List VarBind) → AllByRecursion IsBindingInRange bindings → AreInRange (elements_of_bindings bindings)
bindings_in_range [] range = tt
bindings_in_range (binding ∷ more) (this, others) = grind (arith, common_steps, bindings_in_range more others, length-append, value_short)

-- if a message is in range, so are its elements. Each content is shorter than 2 ^ 32: the bindings
-- take at most 4,000,000,000 octets, and the other fields few.
in_range : (message : Message) → IsMessageInRange message → AreInRange (elements_of message)
in_range message range = grind (arith, common_steps, bindings_are, length-append, element_most, value_short, bindings_in_range, kind_fits)

-- ---- what is written encodes the message

pub spells_binding : (binding : VarBind) → IsBindingInRange binding → SpellsBinding lenient binding (canon_binding binding)
spells_binding binding range =
    let row = binding_then binding no_elements in
    rw (binding_is binding) (one_of_row lenient binding (canon_all row)
    (are_read row (canon_all row) (are_strict row (bindings_in_range (binding ∷ []) (range, tt)))))

pub strict_is_read : (message : Message) (octets : List ℕ) → Strict message octets → Spells message octets
strict_is_read message octets is = of_row lenient message octets is.are_octets (are_read (elements_of message) octets (in_row strict message octets is))

-- the encoding that is written of a message in range is strict
pub strict_canon : (message : Message) → IsMessageInRange message → Strict message (canon message)
strict_canon message range =
    let all : Elements = elements_of message in
    subst (Strict message) (sym (message_is message))
    (of_row strict message (canon_all all) (by_octets (canon_all all) (are_octets all (in_range message range))) (are_strict all (in_range message range)))

-- a strict encoding of a message isn't shorter than the one that is written, and is the same if it
-- is as long
pub message_least : (message : Message) (octets : List ℕ) → Strict message octets → IsNoShorter (canon message) octets
message_least message octets is = subst (λ (made : List ℕ). IsNoShorter made octets) (sym (message_is message))
    (are_least (elements_of message) octets (octets_by octets is.are_octets) (in_row strict message octets is))

pub no_shorter : (message : Message) (octets : List ℕ) → Strict message octets → length (canon message) ≤ length octets
no_shorter message octets is = (message_least message octets is).least

-- ---- types

bindings_of_type : (bindings : List VarBind) → AreOfType (elements_of_bindings bindings) → AllByRecursion IsBindingOfType bindings
bindings_of_type [] are = tt
bindings_of_type (binding ∷ more) ((name, (value, last)), others) = (record { name = name; value = value }, bindings_of_type more others)

pub of_type : (message : Message) → AreOfType (elements_of message) → IsMessageOfType message
of_type message ((version, (community, ((id, (a, (b, (bindings, last)))), end))), none) = grind (arith, common_steps, bindings_of_type)

-- ---- numbers

unsigned_fits : (width : ℕ) (content : List ℕ) (n : ℕ) → Octets content → IsUnsigned lenient width content n → n < 256 ^ width
unsigned_fits width [] n h is = absurd (omega (arith, is.some))
unsigned_fits width (first ∷ rest) n h is =
    subst (λ (m : ℕ). m < 256 ^ width) is.value (elim is.few [
      | inl few ↦ omega (arith, below_power 256 (first ∷ rest) h, pow-le-pow_right {n = 256} (lit< tt) {i = length (first ∷ rest)} {j = width} few)
      | inr more ↦
          let size : length rest ≡ width = omega (arith, more.0) in
          let whole : unsigned (first ∷ rest) ≡ number_of 256 rest = rw more.1 (omega arith) in
          omega (arith, below_power 256 rest h.1, ap (λ k. 256 ^ k) size, whole)
    ])

-- ---- values

content_of_type : (value : Datum) (content : List ℕ) → Octets content → IsContent lenient value content → IsOfType value
content_of_type (integer_value z) content h is = signed_fits content z h is
content_of_type (octet_string text) content h is = by_octets text (subst Octets is h)
content_of_type (object_id name) content h is = (is.wire, is.identifier)
content_of_type (ip_address address) content h is = (by_octets address (subst Octets is.0 h), is.1)
content_of_type (counter32 n) content h is = unsigned_fits 4 content n h is
content_of_type (gauge32 n) content h is = unsigned_fits 4 content n h is
content_of_type (time_ticks n) content h is = unsigned_fits 4 content n h is
content_of_type (opaque_octets text) content h is = by_octets text (subst Octets is h)
content_of_type (counter64 n) content h is = unsigned_fits 8 content n h is
content_of_type value content h is = tt

are_of_type : (all : Elements) (octets : List ℕ) → Octets octets → SpellsAll lenient all octets → AreOfType all
are_of_type no_elements octets h is = tt
are_of_type (value_then value more) octets h (first, rest, parts, this, others) =
    let both : Octets (first ++ rest) = subst Octets parts h in
    let inside : Octets this.content = content_octets (prefix_octets first rest both) this.element in
    (content_of_type value this.content inside this.is_content, are_of_type more rest (back_octets first rest both) others)
are_of_type (element_then tag within more) octets h (first, rest, parts, content, element, inner, others) =
    let both : Octets (first ++ rest) = subst Octets parts h in
    let inside : Octets content = content_octets (prefix_octets first rest both) element in
    (are_of_type within content inside inner, are_of_type more rest (back_octets first rest both) others)

pub message_of_type : (m : Message) (octets : List ℕ) → Spells m octets → IsMessageOfType m
message_of_type m octets is = of_type m (are_of_type (elements_of m) octets (octets_by octets is.are_octets) (in_row lenient m octets is))

-- ---- a message has one shortest encoding: the one that is written

pub written_is_shortest : (message : Message) → IsMessageInRange message → IsShortestEncoding (canon message) message
written_is_shortest message range = record { strict = strict_canon message range; shortest = no_shorter message }

pub shortest_is_written : (message : Message) (text : List ℕ) → IsMessageInRange message → IsShortestEncoding text message
    → text ≡ canon message
shortest_is_written message text range is = (message_least message text is.strict).one (is.shortest (canon message) (strict_canon message range))

pub only_shortest : (message : Message) (text other : List ℕ) → IsMessageInRange message → IsShortestEncoding text message
    → IsShortestEncoding other message
    → text ≡ other
only_shortest message text other range is too = shortest_is_written message text range is ∙ sym (shortest_is_written message other range too)

-- if a message is in range, and what is written of it, `n` octets, is at the start of `out`, then the first `n` octets of `out` are a shortest encoding of it
pub prefix_is_shortest : (law : OneShortestEncoding) (message : Message) (n : ℕ) (out rest : List ℕ) → n ≡ length (canon message)
    → out ≡ canon message ++ rest → IsMessageInRange message → IsShortestEncoding (take n out) message
prefix_is_shortest law message n out rest size e range = grind (arith, common_steps, take-append_seam)

pub shortest_size : (law : OneShortestEncoding) (message : Message) (size : ℕ) → size ≡ length (canon message) → (octets : List ℕ)
    → IsMessageInRange message → IsShortestEncoding octets message → size ≡ length octets
shortest_size law message size e octets range is = e ∙ sym (ap length (law.one message octets (canon message) range is (law.written message range)))

-- if `message` with `bindings` instead of its own bindings is in range, then its head followed by the encodings of `bindings` is a shortest encoding of it
pub sealed_is_shortest : (law : OneShortestEncoding) (message : Message) (bindings : List VarBind) (total : ℕ) (octets : List ℕ)
    → octets ≡ canon_head message total ++ canon_bindings bindings → total ≡ length (canon_bindings bindings)
    → IsMessageInRange (record message { bindings = bindings }) → IsShortestEncoding octets (record message { bindings = bindings })
unfolding canon_head canon_prefix canon_opening canon_fields
sealed_is_shortest law message bindings total octets e size range =
    let whole : Message = record message { bindings = bindings } in
    let head : canon_head message total ≡ canon_head whole (length (canon_bindings bindings)) = ap (canon_head whole) size in
    let written : canon whole ≡ octets = cc (canon_parts whole) in
    subst (λ (text : List ℕ). IsShortestEncoding text whole) written (law.written whole range)

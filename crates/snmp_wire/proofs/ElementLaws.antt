-- The lengths of headers, elements and values, and how a header is written before its content. For
-- proofs about values and messages.
use Rattle.std.proofs.{lemmas.Grind.common_steps, lemmas.Bool.lt-ltb}
use Rattle.std.proofs.Common.{◌≡◌, ℕ, ℤ, ◌+◌, ◌-◌, ◌<◌, ◌≤◌, List, [], ◌∷◌, ◌++◌, length, refl, ap, arith, length-append}
use Rattle.snmp_wire.specs.ber.Canon.{canon_content, canon_element, canon_header, canon_length, canon_number, canon_value}
use Rattle.snmp_wire.specs.{ber.Value.Datum, ber.Value.integer_value, ber.Value.octet_string, ber.Spelling.value_tag, ber.Writing.Writes}
use Rattle.snmp_wire.proofs.WritingLaws.{writes_same, writes_then}

-- ---- headers

-- a length below 128 is written as one octet, itself
pub canon_length_short : (n : ℕ) → n < 128 → canon_length n ≡ n ∷ []
unfolding canon_length
canon_length_short n h = rw (lt-ltb n 128 h) refl

-- the header before a content of fewer than 128 octets has two octets
pub header_short : (n : ℕ) → n < 128 → 1 + length (canon_length n) ≡ 2
header_short n h = ap (λ octets. 1 + length octets) (canon_length_short n h)

-- a header has one octet for its tag, and the octets of its length field
pub length-canon_header : (tag size : ℕ)
    → length (canon_header tag size) ≡ 1 + length (canon_length size)
unfolding canon_header
length-canon_header tag size = grind (arith, common_steps)

-- ---- elements

-- an element has one octet for its tag, the octets of its length field, and those of its content
pub length-canon_element : (tag : ℕ) (content : List ℕ)
    → length (canon_element tag content)
    ≡ 1 + length (canon_length (length content)) + length content
unfolding canon_element
length-canon_element tag content = grind (arith, common_steps, length-append, length-canon_header)

-- the lengths of a header and a content add up to the length of the element
pub element_size : (tag header size : ℕ) (content : List ℕ)
    → size ≡ length content → header ≡ 1 + length (canon_length size)
    → header + size ≡ length (canon_element tag content)
element_size tag header size content s h = grind (arith, common_steps, length-canon_element)

-- if an element has at most `end` octets, so has its content
pub content_fits : (tag end : ℕ) (content : List ℕ)
    → length (canon_element tag content) ≤ end → length content ≤ end
content_fits tag end content room = omega (arith, length-canon_element tag content)

-- if there is room for an element, and its content is written, then there is room for its header
-- before the content
pub header_fits : {old mid content : List ℕ} {middle end : ℕ} (tag : ℕ)
    → Writes old middle end content mid → length (canon_element tag content) ≤ end
    → length (canon_header tag (end - middle)) ≤ middle
header_fits {old} {mid} {content} {middle} {end} tag w room = grind (arith, common_steps, length-canon_header, length-canon_element)

-- if a header is written directly before its content, then the element is written
pub writes_element : {old mid new content : List ℕ} {start middle end : ℕ} (tag : ℕ)
    → Writes old middle end content mid
    → Writes mid start middle (canon_header tag (end - middle)) new
    → Writes old start end (canon_element tag content) new
unfolding canon_element
writes_element {old} {mid} {new} {content} {start} {middle} {end} tag w v =
    let size : end - middle ≡ length content = omega (arith, w.begins) in
    writes_same (writes_then w v) (ap (λ n. canon_header tag n ++ content) size)

-- ---- values

-- the content of an INTEGER is the number in two's complement
pub content_number : (z : ℤ) → canon_content (integer_value z) ≡ canon_number z
unfolding canon_content
content_number z = refl

-- the content of an OCTET STRING is its octets
pub content_text : (text : List ℕ) → canon_content (octet_string text) ≡ text
unfolding canon_content
content_text text = refl

-- the lengths of a header and a content add up to the length of the value
pub sizes_value : (header size : ℕ) (value : Datum)
    → size ≡ length (canon_content value) → header ≡ 1 + length (canon_length size)
    → header + size ≡ length (canon_value value)
unfolding canon_value
sizes_value header size value s h = grind (arith, common_steps, element_size)

-- if the encoding of a value has at most `end` octets, so has its content
pub value_content_fits : (end : ℕ) (value : Datum)
    → length (canon_value value) ≤ end → length (canon_content value) ≤ end
unfolding canon_value
value_content_fits end value room = content_fits (value_tag value) end (canon_content value) room

-- if there is room for a value, and its content is written, then there is room for its header
-- before the content
pub value_header_fits : {old mid : List ℕ} {middle end : ℕ} (tag : ℕ) (value : Datum)
    → tag ≡ value_tag value → Writes old middle end (canon_content value) mid
    → length (canon_value value) ≤ end → length (canon_header tag (end - middle)) ≤ middle
unfolding canon_value
value_header_fits tag value e w room = header_fits tag w (rw e room)

-- if a header is written directly before the content of a value, then the value is written
pub writes_value : {old mid new : List ℕ} {start middle end : ℕ} (tag : ℕ) (value : Datum)
    → tag ≡ value_tag value → Writes old middle end (canon_content value) mid
    → Writes mid start middle (canon_header tag (end - middle)) new
    → Writes old start end (canon_value value) new
unfolding canon_value
writes_value tag value e w v =
    writes_same (writes_element tag w v) (ap (λ t. canon_element t (canon_content value)) e)

-- Headers and elements written before contents of known length.
use Rattle.std.proofs.Common.{◌≡◌, ℕ, ℤ, ◌-◌, ◌<◌, ◌≤◌, List, [], ◌∷◌, length, sym, ap, subst, arith, append-nil, length-append}
use Rattle.snmp_wire.specs.ber.Canon.{canon_element, canon_header, canon_length, canon_number}
use Rattle.snmp_wire.proofs.ElementLaws.{header_fits, writes_element}
use Rattle.snmp_wire.specs.ber.Writing.{Writes}
use Rattle.snmp_wire.proofs.{WritingLaws.writes_same, WritingLaws.writes_then, Shortest.length-number}

-- if a tag is written directly before a length, then a header is written
pub writes_tag : {old mid new : List ℕ} {start middle end : ℕ} (tag size : ℕ) → Writes old middle end (canon_length size) mid
    → Writes mid start middle (tag ∷ []) new → Writes old start end (canon_header tag size) new
unfolding canon_header
writes_tag tag size w v = writes_then w v

-- if there is room for an element, and its content is written, then there is room for its header before the content
pub sized_header_fits : {old mid content : List ℕ} {middle end : ℕ} (tag size : ℕ) → size ≡ length content → Writes old middle end content mid
    → length (canon_element tag content) ≤ end → length (canon_header tag size) ≤ middle
sized_header_fits {old} {mid} {content} {middle} {end} tag size e w room =
    let same : end - middle ≡ size = omega (arith, e, w.begins) in
    subst (λ (k : ℕ). length (canon_header tag k) ≤ middle) same (header_fits tag w room)

pub writes_sized : {old mid new content : List ℕ} {start middle end : ℕ} (tag size : ℕ) → size ≡ length content → Writes old middle end content mid
    → Writes mid start middle (canon_header tag size) new → Writes old start end (canon_element tag content) new
writes_sized {old} {mid} {new} {content} {start} {middle} {end} tag size e w v =
    let same : size ≡ end - middle = omega (arith, e, w.begins) in
    writes_element tag w (writes_same v (ap (canon_header tag) same))

-- the octets that are written of a number are fewer than 128
pub number_short : {old new : List ℕ} {start end : ℕ} (z : ℤ) → Writes old start end (canon_number z) new → end - start < 128
number_short {old} {new} {start} {end} z w = omega (arith, w.begins, length-number z)

pub empty_fits : (tag end : ℕ) → length (canon_element tag []) ≤ end → length (canon_header tag 0) ≤ end
unfolding canon_element
empty_fits tag end room = omega (arith, room, length-append (canon_header tag 0) [])

pub writes_empty : {old new : List ℕ} {start end : ℕ} (tag : ℕ) → Writes old start end (canon_header tag 0) new
    → Writes old start end (canon_element tag []) new
unfolding canon_element
writes_empty {old} {new} {start} {end} tag w = writes_same w (sym (append-nil (canon_header tag 0)))

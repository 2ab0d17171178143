-- The lengths of the parts of a message before its bindings, and how they are written.
use Rattle.std.proofs.{lemmas.Grind.common_steps, lemmas.Int.to_z-of_z, Math.Nat.add_assoc}
use Rattle.std.proofs.Common.{◌≡◌, ℕ, ◌+◌, ◌-◌, ◌≤◌, List, ◌++◌, length, sym, ap, ◌∙◌, arith, append_assoc, length-append}
use Rattle.snmp_wire.specs.Canon.{canon, canon_bindings, canon_fields, canon_prefix, canon_head, canon_opening}
use Rattle.snmp_wire.specs.ber.Canon.{canon_element, canon_header, canon_length, canon_value}
use Rattle.snmp_wire.specs.{Message.Message, Spelling.kind_tag, ber.Spelling.sequence_tag, ber.Writing.Writes, ber.Sizes.ElementSizes}
pub use Rattle.snmp_wire.specs.Sizes.{pdu_size}
use Rattle.snmp_wire.specs.ber.Value.{integer_value, octet_string}
use Rattle.snmp_wire.proofs.{ElementLaws.length-canon_header, WritingLaws.writes_same, WritingLaws.writes_then}

pub length-canon_fields : (message : Message) → length (canon_fields message)
    ≡ length (canon_value (integer_value message.id)) + length (canon_value (integer_value message.a)) + length (canon_value (integer_value message.b))
unfolding canon_fields
length-canon_fields message = simp length-append

pub length-canon_opening : (message : Message) → length (canon_opening message)
    ≡ length (canon_value (integer_value message.version)) + length (canon_value (octet_string message.community))
unfolding canon_opening
length-canon_opening message = length-append (canon_value (integer_value message.version)) (canon_value (octet_string message.community))

pub length-canon_prefix : (message : Message) (total : ℕ) → length (canon_prefix message total)
    ≡ length (canon_opening message) + length (canon_header (kind_tag message.kind) (pdu_size message total)) + length (canon_fields message) + length
    (canon_header sequence_tag total)
unfolding canon_prefix
length-canon_prefix message total = simp (length-append, add_assoc)

pub length-canon_head : (message : Message) (total : ℕ) → length (canon_head message total)
    ≡ length (canon_header sequence_tag (length (canon_prefix message total) + total)) + length (canon_prefix message total)
unfolding canon_head
length-canon_head message total = length-append (canon_header sequence_tag (length (canon_prefix message total) + total)) (canon_prefix message total)

-- the lengths of the parts of a head add up to the length of the head
pub sizes_head : (message : Message) (total version community id a b list pdu header : ℕ)
    → version ≡ length (canon_value (integer_value message.version)) → community ≡ length (canon_value (octet_string message.community))
    → id ≡ length (canon_value (integer_value message.id)) → a ≡ length (canon_value (integer_value message.a))
    → b ≡ length (canon_value (integer_value message.b))
    → list ≡ 1 + length (canon_length total) → pdu ≡ 1 + length (canon_length (id + a + b + list + total))
    → header ≡ 1 + length (canon_length (version + community + pdu + (id + a + b + list) + total))
    → header + (version + community + pdu + (id + a + b + list)) ≡ length (canon_head message total)
sizes_head message total version community id a b list pdu header v c i x y l p h =
    grind (arith, common_steps, length-canon_fields, length-canon_opening, length-canon_header, length-canon_prefix, length-canon_head)

pub ruleset head_sizes = (common_steps, sizes_head, to_z-of_z)

-- if the header of the varbind list is written, and then `b`, `a` and the request-id, each before the previous one, then all that is between the PDU's
-- header and the first binding is written from `id` on
pub writes_fields : {old o1 o2 o3 o4 : List ℕ} {list b a id end : ℕ} (message : Message) (total : ℕ) → Writes old list end (canon_header sequence_tag total) o1
    → Writes o1 b list (canon_value (integer_value message.b)) o2 → Writes o2 a b (canon_value (integer_value message.a)) o3
    → Writes o3 id a (canon_value (integer_value message.id)) o4
    → Writes old id end (canon_fields message ++ canon_header sequence_tag total) o4
unfolding canon_fields
writes_fields message total w1 w2 w3 w4 = writes_same (writes_then (writes_then (writes_then w1 w2) w3) w4) (simp append_assoc)

-- what is written from `id` to `end`, and `total` octets of bindings, are together as long as the content of the PDU
pub pdu_content : {old new : List ℕ} {id end : ℕ} (message : Message) (total : ℕ)
    → Writes old id end (canon_fields message ++ canon_header sequence_tag total) new → end - id + total ≡ pdu_size message total
pdu_content message total w = omega (arith, w.begins, length-append (canon_fields message) (canon_header sequence_tag total))

-- if what follows the PDU's header is written, and then this header, the community and the version, each before the previous one, then `canon_prefix` is
-- written
pub writes_prefix : {old o1 o2 o3 o4 : List ℕ} {version community pdu id end : ℕ} (message : Message) (total tag : ℕ) → tag ≡ kind_tag message.kind
    → Writes old id end (canon_fields message ++ canon_header sequence_tag total) o1 → Writes o1 pdu id (canon_header tag (end - id + total)) o2
    → Writes o2 community pdu (canon_value (octet_string message.community)) o3
    → Writes o3 version community (canon_value (integer_value message.version)) o4
    → Writes old version end (canon_prefix message total) o4
unfolding canon_prefix canon_opening
writes_prefix {old} {o1} {o2} {o3} {o4} {version} {community} {pdu} {id} {end} message total tag e w1 w2 w3 w4 =
    let size : end - id + total ≡ pdu_size message total = pdu_content message total w1 in
    writes_same (writes_then (writes_then (writes_then w1 w2) w3) w4) (rw (e, size) (simp append_assoc))

-- if the header of the message is written directly before `canon_prefix`, then the head is written
pub writes_head : {old mid new : List ℕ} {start version end : ℕ} (message : Message) (total : ℕ) → Writes old version end (canon_prefix message total) mid
    → Writes mid start version (canon_header sequence_tag (end - version + total)) new → Writes old start end (canon_head message total) new
unfolding canon_head
writes_head {old} {mid} {new} {start} {version} {end} message total w v =
    let size : end - version ≡ length (canon_prefix message total) = omega (arith, w.begins) in
    writes_same (writes_then w v) (ap (λ n. canon_header sequence_tag (n + total) ++ canon_prefix message total) size)

-- if there is room for the head of a message, then there is room for each part of the head before the parts that are already written

pub list_fits : (message : Message) (total end : ℕ) → length (canon_head message total) ≤ end
    → length (canon_fields message) + length (canon_header sequence_tag total) ≤ end
list_fits message total end room = omega (arith, room, length-canon_head message total, length-canon_prefix message total)

pub pdu_header_fits : {old new : List ℕ} {id end : ℕ} (message : Message) (total tag : ℕ) → tag ≡ kind_tag message.kind
    → Writes old id end (canon_fields message ++ canon_header sequence_tag total) new → length (canon_head message total) ≤ end
    → length (canon_header tag (end - id + total)) ≤ id
pdu_header_fits {old} {new} {id} {end} message total tag e w room =
    grind (arith, common_steps, pdu_content, length-append, length-canon_head, length-canon_prefix)

pub opening_fits : {old mid new : List ℕ} {pdu id end : ℕ} (message : Message) (total tag : ℕ) → tag ≡ kind_tag message.kind
    → Writes old id end (canon_fields message ++ canon_header sequence_tag total) mid → Writes mid pdu id (canon_header tag (end - id + total)) new
    → length (canon_head message total) ≤ end
    → length (canon_value (integer_value message.version)) + length (canon_value (octet_string message.community)) ≤ pdu
opening_fits {old} {mid} {new} {pdu} {id} {end} message total tag e w v room =
    grind (arith, common_steps, pdu_content, length-append, length-canon_opening, length-canon_head, length-canon_prefix)

pub message_header_fits : {old new : List ℕ} {version end : ℕ} (message : Message) (total : ℕ) → Writes old version end (canon_prefix message total) new
    → length (canon_head message total) ≤ end → length (canon_header sequence_tag (end - version + total)) ≤ version
message_header_fits {old} {new} {version} {end} message total w room = grind (arith, common_steps, length-canon_head)

-- a message is its head and its bindings
pub canon_parts : (message : Message) → canon message ≡ canon_head message (length (canon_bindings message.bindings)) ++ canon_bindings message.bindings
unfolding canon canon_head canon_prefix canon_element
canon_parts message = simp (append_assoc, length-append, add_assoc)

pub length-canon : (message : Message) → length (canon message) ≡ length (canon_head message (length (canon_bindings message.bindings))) + length
    (canon_bindings message.bindings)
length-canon message = grind (arith, common_steps, canon_parts, length-append)

pub sizes_message : (message : Message) (head total : ℕ) → total ≡ length (canon_bindings message.bindings) → head ≡ length (canon_head message total)
    → head + total ≡ length (canon message)
sizes_message message head total t h = grind (arith, common_steps, length-canon)

-- if a head is written directly before its bindings, then the message is written
pub writes_message : {old mid new : List ℕ} {start head size : ℕ} (message : Message) (total : ℕ) → total ≡ length (canon_bindings message.bindings)
    → Writes old head size (canon_bindings message.bindings) mid → Writes mid start head (canon_head message total) new
    → Writes old start size (canon message) new
writes_message message total e w v = writes_same (writes_then w v) (ap (λ n. canon_head message n ++ canon_bindings message.bindings) e
    ∙ sym (canon_parts message))

longer_header : (sizes : ElementSizes) (tag n k : ℕ) → n ≤ k → length (canon_header tag n) ≤ length (canon_header tag k)
longer_header sizes tag n k h = omega (arith, length-canon_header tag n, length-canon_header tag k, sizes.lengths_rise n k h)

-- if the bindings take more octets, the head isn't shorter
pub longer_head : (sizes : ElementSizes) (m : Message) (n k : ℕ) → n ≤ k → length (canon_head m n) ≤ length (canon_head m k)
longer_head sizes m n k h = grind (arith, common_steps, longer_header, length-canon_prefix, length-canon_head)

pub ruleset message_lengths = (length-canon_opening, length-canon_fields, length-canon_prefix, length-canon_head, length-canon, longer_head)

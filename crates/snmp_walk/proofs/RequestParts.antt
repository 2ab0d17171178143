-- The greatest lengths of messages and their parts; a request of a walk has at most 1,000 octets (`request_short`).
use Rattle.std.proofs.{lemmas.Grind.common_steps, lemmas.List.length-map}
use Rattle.std.proofs.Common.{◌≡◌, ℕ, zero, suc, ◌+◌, ◌*◌, ◌≤◌, List, [], ◌∷◌, length, arith, refl, ◌∙◌, length-append, ℤ, pos, negsuc}
use Rattle.std.specs.{List.flat_map}
use Rattle.snmp_wire.specs.Message.{Datum, Message, null_value, integer_value, octet_string, object_id}
use Rattle.snmp_wire.specs.{Identifier.subidentifiers, Spelling.value_tag}
use Rattle.snmp_wire.specs.Canon.{digit_count, digits, number_size, canon_number, length_size, canon_length, subidentifier_size, septets}
use Rattle.snmp_wire.specs.Canon.{canon_subidentifier, canon_header, canon_element, canon_content, canon_value, canon_binding, canon_bindings}
use Rattle.snmp_wire.specs.Canon.{canon_opening, canon_fields, canon}
use Rattle.snmp_walk.specs.{WalkState.WalkState, Request.request_of}

digit_bound : (base limit more n : ℕ) → digit_count base limit more n ≤ more + 1
digit_bound base limit zero n = omega arith
digit_bound base limit (suc more) n = grind (arith, common_steps, digit_bound base (limit * base) more n)

digits_length : (base count n : ℕ) → length (digits base count n) ≡ count
unfolding digits
digits_length base zero n = refl
digits_length base (suc count) n = omega (arith, digits_length base count n)

pub number_bound : (z : ℤ) → length (canon_number z) ≤ 9
unfolding canon_number number_size
number_bound (pos n) = omega (arith, digits_length 256 (number_size n) n, digit_bound 256 128 8 n)
number_bound (negsuc n) = grind (arith, common_steps, digits_length, digit_bound)

length_bound : (n : ℕ) → length (canon_length n) ≤ 5
unfolding canon_length length_size
length_bound n = grind (arith, common_steps, digits_length, digit_bound)

element_bound : (tag : ℕ) (content : List ℕ) → length (canon_element tag content) ≤ 6 + length content
unfolding canon_element canon_header
element_bound tag content = omega (arith, length_bound (length content), length-append (canon_header tag (length content)) content)

septets_length : (count n : ℕ) → length (septets count n) ≡ count
unfolding septets
septets_length count n = length-map (digits 128 count n) (◌+◌ 128) ∙ digits_length 128 count n

subidentifier_bound : (n : ℕ) → length (canon_subidentifier n) ≤ 5
unfolding canon_subidentifier subidentifier_size
subidentifier_bound n = omega (arith, length-append {A = ℕ}, septets_length, digit_bound 128 128 4 n)

pub each_bound : (xs : List ℕ) → length (flat_map canon_subidentifier xs) ≤ 5 * length xs
each_bound [] = omega arith
each_bound (x ∷ xs) = omega (arith, each_bound xs, subidentifier_bound x, length-append (canon_subidentifier x) (flat_map canon_subidentifier xs))

pub parts_bound : (name : List ℕ) → length (subidentifiers name) ≤ length name
parts_bound [] = omega arith
parts_bound (x ∷ []) = omega arith
parts_bound (x ∷ y ∷ name) = omega arith

value_bound : (value : Datum) → length (canon_value value) ≤ 6 + length (canon_content value)
unfolding canon_value
value_bound value = element_bound (value_tag value) (canon_content value)

integer_bound : (z : ℤ) → length (canon_value (integer_value z)) ≤ 15
unfolding canon_content
integer_bound z = omega (arith, value_bound (integer_value z), number_bound z)

name_bound : (name : List ℕ) → length (canon_value (object_id name)) ≤ 6 + 5 * length name
unfolding canon_content
name_bound name = omega (arith, value_bound (object_id name), each_bound (subidentifiers name), parts_bound name)

text_bound : (text : List ℕ) → length (canon_value (octet_string text)) ≤ 6 + length text
unfolding canon_content
text_bound text = value_bound (octet_string text)

-- the encoding of a binding has at most 18 octets, plus five for each number of its name, plus the content of its value
pub binding_bound : (name : List ℕ) (value : Datum)
    → length (canon_binding (record { name = name; value = value })) ≤ 18 + 5 * length name + length (canon_content value)
unfolding canon_binding
binding_bound name value = omega (arith, element_bound, length-append {A = ℕ}, name_bound name, value_bound value)

-- the encoding of one binding in a list has at most 18 octets, plus five for each number of its name, plus the content of its value
pub one_bound : (name : List ℕ) (value : Datum)
    → length (canon_bindings (record { name = name; value = value } ∷ [])) ≤ 18 + 5 * length name + length (canon_content value)
unfolding canon_bindings
one_bound name value = omega (arith, binding_bound name value, length-append {A = ℕ})

no_content : length (canon_content null_value) ≤ 0
unfolding canon_content
no_content = omega arith

pub name_short : (name : List ℕ) → length name ≤ 128 → length (canon_bindings (record { name = name; value = null_value } ∷ [])) ≤ 658
name_short name h = omega (arith, h, one_bound name null_value, no_content)

-- the encoding of a message has at most 84 octets, plus its community, plus its encoded bindings
pub message_bound : (m : Message) → length (canon m) ≤ 84 + length m.community + length (canon_bindings m.bindings)
unfolding canon canon_opening canon_fields
message_bound m = omega (arith, element_bound, integer_bound, text_bound, length-append {A = ℕ})

-- a request of a walk has at most 1,000 octets
pub request_short : (w : WalkState) → length w.community ≤ 255 → length w.asked ≤ 128 → length (canon (request_of w)) ≤ 1000
request_short w h k = omega (arith, h, message_bound (request_of w), name_short w.asked k)

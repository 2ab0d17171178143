-- The bindings of a decoded message (`read_message`) and the answers of a table (`answer_value`) have encodings; an encoding is longer than its content.
use Rattle.std.proofs.{lemmas.Grind.common_steps}
use Rattle.std.proofs.Common.{ℕ, ◌<◌, List, [], ◌∷◌, length, ⊎_elim, arith, length-append}
use Rattle.snmp_wire.specs.Message.{Datum, VarBind, Message}
use Rattle.snmp_wire.specs.{Number.lenient, Spelling.IsContent, Spelling.SpellsBindings, Spelling.Spells, Spelling.value_tag, ber.Sizes.ElementSizes}
use Rattle.snmp_wire.specs.Canon.{IsEncodable, IsEncodableValue, canon_binding, canon_content, canon_element, canon_value}
use Rattle.snmp_agent.specs.table.Table.{IsAnswerValue}
use Rattle.snmp_agent.specs.private.Answering.{HasEncoding, IsWritable, AreWritable, IsShortValue}

-- ---- what is decoded

read_value : (value : Datum) (content : List ℕ) → IsContent lenient value content → HasEncoding value
read_value value content h = grind (arith, common_steps)

read_bindings : (bindings : List VarBind) (octets : List ℕ) → SpellsBindings lenient bindings octets → AreWritable bindings
read_bindings [] octets h = tt
read_bindings (binding ∷ more) octets h = grind (arith, common_steps, read_bindings more h.1 h.4, read_value)

-- the bindings of a decoded message have encodings
pub read_message : (q : Message) (octets : List ℕ) → Spells q octets → AreWritable q.bindings
read_message q octets h = read_bindings q.bindings h.is_pdu.bindings h.is_pdu.are_bindings

-- ---- what a table serves

-- a value that a reply can have has an encoding
pub answer_value : (value : Datum) → IsAnswerValue value → HasEncoding value
answer_value value h = grind (arith, common_steps)

-- ---- what is written

encodable_value : (value : Datum) → HasEncoding value → IsShortValue value → IsEncodableValue value
encodable_value value h short = grind (arith, common_steps)

pub encodable : (binding : VarBind) → IsWritable binding → IsShortValue binding.value → IsEncodable binding
encodable binding h short = record { name = h.name; value = encodable_value binding.value h.value short }

-- the encoding of an element is longer than the content of the element
longer_element : ElementSizes → (tag : ℕ) (content : List ℕ) → length content < length (canon_element tag content)
longer_element sizes tag content = omega (arith, sizes.element tag content)

pub longer_value : ElementSizes → (value : Datum) → length (canon_content value) < length (canon_value value)
unfolding canon_value
longer_value sizes value = longer_element sizes (value_tag value) (canon_content value)

pub longer_binding : ElementSizes → (binding : VarBind) → length (canon_value binding.value) < length (canon_binding binding)
unfolding canon_binding
longer_binding sizes binding = grind (arith, common_steps, longer_element, length-append)

long_content : (value : Datum) → (IsShortValue value → ⊥) → 65535 < length (canon_content value)
unfolding canon_content
long_content value long = grind (arith, common_steps, ⊎_elim)

-- if the value of a binding is a string of more than 65535 octets, then the encoding of the binding has more than 65535 octets
pub long_binding : ElementSizes → (binding : VarBind) → (IsShortValue binding.value → ⊥) → 65535 < length (canon_binding binding)
long_binding sizes binding long =
    omega (arith, long_content binding.value long, longer_value sizes binding.value, longer_binding sizes binding)

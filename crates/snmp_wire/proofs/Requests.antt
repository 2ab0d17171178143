-- How many octets a request for one name has at most.
use Rattle.std.proofs.Common.{◌≡◌, ℕ, ◌+◌, ◌*◌, ◌≤◌, List, [], ◌∷◌, length, ap, arith, length-append}
use Rattle.snmp_wire.specs.{Laws.RequestsAreShort, Message.Message, Message.VarBind, Name.asking}
use Rattle.snmp_wire.specs.Canon.{canon, canon_binding, canon_bindings, canon_fields, canon_opening}
use Rattle.snmp_wire.specs.ber.Canon.{canon_content, canon_value}
use Rattle.snmp_wire.proofs.{WrittenIdentifiers.length-name, Shortest.element_most, Shortest.length-number}

-- a message has at most 84 octets besides its community and its bindings
message_most : (m : Message) → length (canon m) ≤ 84 + length m.community + length (canon_bindings m.bindings)
unfolding canon canon_opening canon_fields canon_value canon_content
message_most m = omega (arith, element_most, length-number, length-append {A = ℕ})

-- the binding that requests a name has at most 18 octets, and five more for each number of the name
asking_most : (name : List ℕ) → length (canon_bindings (asking name ∷ [])) ≤ 18 + 5 * length name
unfolding canon_bindings canon_binding canon_value canon_content
asking_most name = omega (arith, element_most, length-append {A = ℕ}, length-name name)

pub short_request : RequestsAreShort
short_request m name is short few =
    omega (arith, message_most m, asking_most name, ap (λ (bs : List VarBind). length (canon_bindings bs)) is)

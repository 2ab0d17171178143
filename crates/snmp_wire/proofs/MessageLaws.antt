-- Decoding of bindings, one after the other, and of messages: octets that encode them are decoded
-- to them (`bindings_again`, `message_again`).
use Rattle.std.proofs.{lemmas.Grind.common_steps, lemmas.Result.err_from_is_err_and}
use Rattle.std.proofs.Common.{◌≡◌, ℕ, zero, suc, ◌<◌, ◌≤◌, List, [], ◌∷◌, length, Result, Ok, Err, IsOk, refl, sym, ap, ◌∙◌, arith, ℤ, ◌++◌}
use Rattle.std.proofs.Common.{append_assoc, ◌+◌, ◌-◌, get_or, take, drop, inl}
use Rattle.std.proofs.lemmas.List.{nil_from_length, append-nil, length-append, append_cancel_right, length-drop, length-take-le, take-append-drop}
use Rattle.std.specs.Result.{result_unwrap_or}
use Rattle.snmp_wire.specs.declared.ber.error.BerError.{BerError}
use Rattle.snmp_wire.specs.{ber.Value.Datum, ber.Value.integer_value, Decode.binding_with, Message.VarBind, Message.Message, declared.kind.Kind.Kind}
use Rattle.snmp_wire.specs.{ber.Number.lenient, ber.Length.IsElement, ber.Spelling.value_tag, ber.Spelling.SpellsValue}
use Rattle.snmp_wire.specs.ber.Decode.{◌>>=◌, checked, identifier_of, typed_value, content_at, inner_at, element_at, integer_at}
use Rattle.snmp_wire.specs.Decode.{Fields, fields_of, fields_at, binding_of, binding_at, bindings_within, bindings_of, bindings_in, kind_of}
use Rattle.snmp_wire.specs.Decode.{outermost_of, pdu_of, message_of}
use Rattle.snmp_wire.proofs.ReadingLaws.{ok_is, bind_ok, bind_same, ok_value, is_ok_at, checked_err, err_checked, ok_checked, Gives, a_value, returned}
use Rattle.snmp_wire.proofs.ReadingLaws.{gives_any, gives_so, gives_then, done, none_left, some_left}
use Rattle.snmp_wire.proofs.LengthLaws.{inner_gives, element_shrinks, content_again, inner_again, element_again}
use Rattle.snmp_wire.specs.declared.ber.error.BerError.TheVariants as error
use Rattle.snmp_wire.specs.declared.kind.Kind.TheVariants as kind
use Rattle.snmp_wire.specs.Spelling.{SpellsBinding, SpellsBindings, kind_tag, SpellsPdu, Spells}
use Rattle.snmp_wire.proofs.{ReadIdentifiers.identifier_again, ReadIdentifiers.four_then, ValueLaws.integer_again, ValueLaws.value_again}

-- if `fields_at` returns the fields of a binding, then what follows the binding is shorter than the octets
fields_less : (octets : List ℕ) → Gives (λ x. length x.1 < length octets) (λ e. Unit {0}) (fields_at octets)
unfolding fields_at
fields_less octets =
    gives_then _ (gives_so (λ x begins. element_shrinks begins) (λ e fault. tt) (inner_gives 0x30 octets)) (λ binding less.
    gives_then _ (gives_any (fields_of binding.0)) (λ fields any. a_value (fields, binding.1) less))

binding_less : (octets : List ℕ) → Gives (λ x. length x.1 < length octets) (λ e. Unit {0}) (binding_at octets)
unfolding binding_at
binding_less octets =
    gives_then _ (fields_less octets) (λ fields less.
    gives_then _ (gives_any (binding_of fields.0)) (λ binding any. a_value (binding, fields.1) less))

pub fields_shrink : (octets : List ℕ) (x : Fields × List ℕ) → fields_at octets ≡ Ok x → length x.1 < length octets
fields_shrink octets x e = returned x (fields_less octets) e

-- the binding `first.0`, and then the bindings that `read` decodes from the octets `first.1`
abbrev pub with_rest : (List ℕ → Result (List VarBind) BerError) → VarBind × List ℕ → Result (List VarBind) BerError
with_rest read first = read first.1 >>= λ more. Ok (first.0 ∷ more)

-- if `n` and `m` are at least the number of octets, then `bindings_within` decodes the same with both
same_fuel : (n m : ℕ) (octets : List ℕ) → length octets ≤ n → length octets ≤ m → bindings_within n octets ≡ bindings_within m octets
unfolding bindings_within
same_fuel n m [] p q = refl
same_fuel zero m (octet ∷ rest) p q = absurd (omega arith)
same_fuel (suc n) zero (octet ∷ rest) p q = absurd (omega arith)
same_fuel (suc n) (suc m) (octet ∷ rest) p q =
    bind_same (binding_at (octet ∷ rest)) (with_rest (bindings_within n)) (with_rest (bindings_within m)) (λ x e.
    let less : length x.1 < length (octet ∷ rest) = returned x (binding_less (octet ∷ rest)) e in
    ap (λ (read : Result (List VarBind) BerError). read >>= λ more. Ok (x.0 ∷ more)) (same_fuel n m x.1 (omega arith) (omega arith)))

pub bindings_step : (octets : List ℕ) → 0 < length octets → bindings_of octets ≡ (binding_at octets >>= with_rest bindings_of)
unfolding bindings_of bindings_within
bindings_step [] some = absurd (omega arith)
bindings_step (octet ∷ rest) some =
    bind_same (binding_at (octet ∷ rest)) (with_rest (bindings_within (length rest))) (with_rest bindings_of) (λ x e.
    let less : length x.1 < length (octet ∷ rest) = returned x (binding_less (octet ∷ rest)) e in
    ap (λ (read : Result (List VarBind) BerError). read >>= λ more. Ok (x.0 ∷ more)) (same_fuel (length rest) (length x.1) x.1 (omega arith) (omega arith)))

pub bindings_end : (octets : List ℕ) → length octets ≡ 0 → bindings_of octets ≡ Ok []
unfolding bindings_of bindings_within
bindings_end octets none = ap bindings_of (nil_from_length octets none)

-- ---- the check that each binding can be decoded

pub check_fails_at : (octets : List ℕ) (e : BerError) (total : Result (Unit {0}) BerError) → 0 < length octets → fields_at octets ≡ Err e
    → checked (bindings_of octets) ≡ total → total ≡ Err e
unfolding binding_at
check_fails_at octets e total some h so_far = sym so_far ∙ checked_err (bindings_of octets) e (bindings_step octets some ∙ rw h refl)

pub check_fails_in : (octets : List ℕ) (fields : Fields) (after : List ℕ) (e : BerError) (total : Result (Unit {0}) BerError) → 0 < length octets
    → fields_at octets ≡ Ok (fields, after) → checked (binding_of fields) ≡ Err e
    → checked (bindings_of octets) ≡ total → total ≡ Err e
unfolding binding_at
check_fails_in octets fields after e total some h f so_far = grind (arith, common_steps, checked_err, bindings_step, err_checked)

forget : (binding : VarBind) (read : Result (List VarBind) BerError) → checked (read >>= λ more. Ok (binding ∷ more)) ≡ checked read
forget binding (Ok more) = refl
forget binding (Err e) = refl

pub check_goes_on : (octets : List ℕ) (fields : Fields) (after : List ℕ) (u : Unit {0}) (total : Result (Unit {0}) BerError) → 0 < length octets
    → fields_at octets ≡ Ok (fields, after) → checked (binding_of fields) ≡ Ok u
    → checked (bindings_of octets) ≡ total → checked (bindings_of after) ≡ total
unfolding binding_at
check_goes_on octets fields after u total some h f so_far = grind (arith, common_steps, ok_checked, bindings_step, forget)

pub check_ends : (octets : List ℕ) (total : Result (Unit {0}) BerError) → length octets ≡ 0 → checked (bindings_of octets) ≡ total → total ≡ Ok tt
check_ends octets total none so_far = sym so_far ∙ ap checked (bindings_end octets none)

pub ruleset checked_bindings = (check_fails_at, check_ends, some_left, none_left, err_from_is_err_and)

-- ---- the iterator

pub begins_ok : (octets : List ℕ) → IsOk (bindings_of octets) → 0 < length octets → IsOk (fields_at octets)
unfolding binding_at
begins_ok octets ok some = grind (arith, common_steps, ok_value, bind_ok, bindings_step, is_ok_at)

-- `octets` begin with the binding of `fields`, and the octets `after` it encode the other bindings
pub record BeginsWithBinding (octets : List ℕ) (fields : Fields) (after : List ℕ) : Type 0 where
  pub is_binding : IsOk (binding_of fields)
  pub others : IsOk (bindings_of after)
  pub all : (binding : VarBind) → binding_of fields ≡ Ok binding → bindings_in octets ≡ binding ∷ bindings_in after

-- one step of the iterator: if `octets` are decoded as bindings, and `fields_at` returns `fields` and `after`, then `fields` are those of the first binding,
-- and `after` is decoded as the others
pub expects : (octets : List ℕ) (fields : Fields) (after : List ℕ) → IsOk (bindings_of octets) → 0 < length octets → fields_at octets ≡ Ok (fields, after)
    → BeginsWithBinding octets fields after
unfolding binding_at
expects octets fields after ok some h = grind (arith, common_steps, ok_value, bind_ok, bindings_step, ok_is, is_ok_at)

pub bindings_in_end : (octets : List ℕ) → length octets ≡ 0 → bindings_in octets ≡ []
bindings_in_end octets none = ap (λ (r : Result (List VarBind) BerError). result_unwrap_or r []) (bindings_end octets none)

-- the name and the value in these fields of a binding can be decoded
pub record AreParts (fields : Fields) : Type 0 where
  pub name : IsOk (identifier_of fields.name)
  pub value : IsOk (typed_value fields.tag fields.content)

pub parts_are : (fields : Fields) (binding : VarBind) → binding_of fields ≡ Ok binding
    → (identifier_of fields.name ≡ Ok binding.name) × (typed_value fields.tag fields.content ≡ Ok binding.value)
unfolding binding_of
parts_are fields binding e = grind (arith, common_steps, bind_ok, ok_is)

pub parts_of : (fields : Fields) → IsOk (binding_of fields) → AreParts fields
parts_of fields ok = grind (arith, common_steps, ok_value, parts_are, is_ok_at)

pub binding_made : (fields : Fields) (name : List ℕ) (value : Datum) → identifier_of fields.name ≡ Ok name → typed_value fields.tag fields.content ≡ Ok value
    → binding_of fields ≡ Ok (record { name = name; value = value })
unfolding binding_of
binding_made fields name value e f = rw (e, f) refl

-- the name of a decoded binding is the identifier that its name field encodes
pub name_of : (fields : Fields) (binding : VarBind) (name : List ℕ) → binding_of fields ≡ Ok binding → identifier_of fields.name ≡ Ok name → name ≡ binding.name
name_of fields binding name e f = ok_is name binding.name (sym f ∙ (parts_are fields binding e).0)

-- if the fields are decoded as a binding, then `binding_with` is this binding
pub with_fields : (fields : Fields) → IsOk (binding_of fields) → binding_of fields ≡ Ok (binding_with fields)
with_fields fields ok = grind (arith, common_steps, ok_value)

-- ---- integers

pub integer_at_again : (z : ℤ) (text rest : List ℕ) → SpellsValue lenient (integer_value z) text
    → integer_at (text ++ rest) ≡ Ok (z, rest)
unfolding integer_at
integer_at_again z text rest h = rw (inner_again 0x02 h.content text rest h.element, integer_again h.content z h.is_content) refl

-- ---- bindings

pub fields_again : (name value : List ℕ) (fields : Fields) → IsElement 0x06 fields.name name → IsElement fields.tag fields.content value
    → fields_of (name ++ value) ≡ Ok fields
unfolding fields_of
fields_again name value fields is_name is_value =
    let whole = ap element_at (sym (append-nil value)) ∙ element_again fields.tag fields.content value [] is_value in
    rw (inner_again 0x06 fields.name name value is_name, whole) refl

pub binding_again : (binding : VarBind) (text rest : List ℕ) → SpellsBinding lenient binding text
    → binding_at (text ++ rest) ≡ Ok (binding, rest)
unfolding binding_at fields_at binding_of
binding_again binding text rest h =
    let fields : Fields = record { name = h.is_name.content; tag = value_tag binding.value; content = h.is_value.content } in
    let outer = inner_again 0x30 (h.name ++ h.value) text rest h.element in
    let parts = fields_again h.name h.value fields h.is_name.element h.is_value.element in
    let value = value_again binding.value h.is_value.content h.is_value.is_content in
    rw (outer, parts, identifier_again h.is_name.content binding.name h.is_name.is_content, value) refl

pub bindings_again : (bindings : List VarBind) (octets : List ℕ) → SpellsBindings lenient bindings octets
    → bindings_of octets ≡ Ok bindings
unfolding bindings_of bindings_within
bindings_again [] octets h = ap bindings_of h
bindings_again (binding ∷ more) octets h =
    let text = h.0 in
    let rest = h.1 in
    let some : 0 < length (text ++ rest) = omega (arith, ap length h.3.element.parts, length-append text rest) in
    let others = bindings_again more rest h.4 in
    ap bindings_of h.2 ∙ bindings_step (text ++ rest) some ∙ rw (binding_again binding text rest h.3, others) refl

-- ---- kinds

pub kind_again : (found : Kind) → kind_of (kind_tag found) ≡ Ok found
unfolding kind_of
kind_again kind.GetRequest = refl
kind_again found = refl

-- ---- messages

outermost_again : (octets content : List ℕ) → IsElement 0x30 content octets → outermost_of octets ≡ Ok content
unfolding outermost_of
outermost_again octets content h =
    let whole : content_at error.Truncated (h.length_octets ++ content) ≡ Ok (content, []) =
    ap (λ (o : List ℕ). content_at error.Truncated (h.length_octets ++ o)) (sym (append-nil content))
    ∙ content_again error.Truncated h.length_octets content [] h.is_length in
    ap outermost_of h.parts ∙ rw whole refl

pdu_again : (message : Message) (content octets : List ℕ) (h : SpellsPdu lenient message octets)
    → content ≡ h.id ++ h.a ++ h.b ++ h.list
    → pdu_of message.version message.community message.kind content ≡ Ok message
unfolding pdu_of
pdu_again message content octets h e =
    let regrouped : content ≡ h.id ++ (h.a ++ (h.b ++ h.list)) = e ∙ append_assoc (h.id ++ h.a) h.b h.list ∙ append_assoc h.id h.a (h.b ++ h.list) in
    let whole : inner_at 0x30 h.list ≡ Ok (h.bindings, []) = ap (inner_at 0x30) (sym (append-nil h.list)) ∙ inner_again 0x30 h.bindings h.list [] h.is_list in
    let id = integer_at_again message.id h.id (h.a ++ (h.b ++ h.list)) h.is_id in
    let a = integer_at_again message.a h.a (h.b ++ h.list) h.is_a in
    let b = integer_at_again message.b h.b h.list h.is_b in
    ap (pdu_of message.version message.community message.kind) regrouped
    ∙ rw (id, a, b, whole, bindings_again message.bindings h.bindings h.are_bindings) refl

pub message_again : (octets : List ℕ) (message : Message) → Spells message octets → message_of octets ≡ Ok message
unfolding message_of
message_again octets message h =
    let inside = h.is_pdu.id ++ h.is_pdu.a ++ h.is_pdu.b ++ h.is_pdu.list in
    let second : inner_at 0x04 (h.community ++ h.pdu) ≡ Ok (message.community, h.pdu) =
    inner_again 0x04 h.is_community.content h.community h.pdu h.is_community.element ∙ ap (λ (o : List ℕ). done (o, h.pdu)) h.is_community.is_content in
    let third = ap element_at (sym (append-nil h.pdu)) ∙ element_again (kind_tag message.kind) inside h.pdu [] h.is_pdu.element in
    let outer = outermost_again octets _ (rw append_assoc at h.element) in
    let first = integer_at_again message.version h.version (h.community ++ h.pdu) h.is_version in
    rw (outer, first, second, third, kind_again message.kind) (pdu_again message inside h.pdu h.is_pdu refl)

-- ---- laws

-- octets encode at most one message, and no encoding is a proper prefix of another
pub one_message : (message other : Message) (octets spelling rest more : List ℕ) → Spells message octets → Spells other spelling
    → octets ++ rest ≡ spelling ++ more → (message ≡ other) × (octets ≡ spelling)
one_message message other octets spelling rest more h k e =
    let this = inner_again 0x30 (h.version ++ h.community ++ h.pdu) octets rest h.element in
    let that = inner_again 0x30 (k.version ++ k.community ++ k.pdu) spelling more k.element in
    let both = sym this ∙ ap (inner_at 0x30) e ∙ that in
    let rests : rest ≡ more = ap (λ (y : List ℕ × List ℕ). y.1) (ok_is _ _ both) in
    let same : octets ≡ spelling = append_cancel_right octets spelling more (ap (λ (o : List ℕ). octets ++ o) (sym rests) ∙ e) in
    (ok_is message other (sym (message_again octets message h) ∙ ap message_of same ∙ message_again spelling other k), same)

-- ---- a binding whose lengths have one octet each

short_element : (tag : ℕ) (content : List ℕ) → length content < 128 → IsElement tag content (tag ∷ length content ∷ content)
short_element tag content small = record { length_octets = length content ∷ []; is_length = inl (record { small = small; one = refl }); parts = refl }

short_binding : (name : List ℕ) (tag : ℕ) (content rest : List ℕ) → length name + 4 + length content < 128
    → fields_at (0x30 ∷ (length name + 4 + length content) ∷ 0x06 ∷ length name ∷ name ++ (tag ∷ length content ∷ content ++ rest))
    ≡ Ok (record { name = name; tag = tag; content = content }, rest)
unfolding fields_at
short_binding name tag content rest small =
    let name_element : List ℕ = 0x06 ∷ length name ∷ name in
    let value_element : List ℕ = tag ∷ length content ∷ content in
    let inner = name_element ++ value_element in
    let size : length inner ≡ length name + 4 + length content = omega (arith, length-append name value_element) in
    let is_binding : IsElement 0x30 inner (0x30 ∷ length inner ∷ inner) = short_element 0x30 inner (omega arith) in
    let fields : Fields = record { name = name; tag = tag; content = content } in
    let read = fields_again name_element value_element fields (short_element 0x06 name (omega arith)) (short_element tag content (omega arith)) in
    let parts : name ++ (value_element ++ rest) ≡ (name ++ value_element) ++ rest = sym (append_assoc name value_element rest) in
    let whole : inner_at 0x30 (0x30 ∷ length inner ∷ (inner ++ rest)) ≡ Ok (inner, rest) =
    inner_again 0x30 inner (0x30 ∷ length inner ∷ inner) rest is_binding in
    rw (parts, ← size, whole, read) refl

two_then : (l : List ℕ) → 2 ≤ length l → l ≡ get_or l 0 0 ∷ get_or l 1 0 ∷ drop 2 l
two_then [] long = absurd (omega arith)
two_then (a ∷ []) long = absurd (omega arith)
two_then (a ∷ b ∷ rest) long = refl

-- if `octets` begin with a binding whose three lengths have one octet each and fit together, then `fields_at` returns its fields and `rest`
pub short_fields : (octets elements name value suffix content rest : List ℕ) (size n v : ℕ) → elements ≡ drop 4 octets → name ≡ take n elements
    → value ≡ drop n elements → suffix ≡ drop 2 value → content ≡ take v suffix → rest ≡ drop v suffix
    → 4 ≤ length octets → get_or octets 0 0 ≡ 0x30 → get_or octets 2 0 ≡ 0x06 → size ≡ get_or octets 1 0 → n ≡ get_or octets 3 0
    → size < 128 → size ≤ length elements + 2 → v ≡ get_or value 1 0 → n + 4 + v ≡ size
    → fields_at octets ≡ Ok (record { name = name; tag = get_or value 0 0; content = content }, rest)
short_fields octets elements name value suffix content rest size n v e f g h j k long s i z m small fits is_v parts =
    let name_long : length name ≡ n = ap length f ∙ length-take-le n elements (omega arith) in
    let value_long : length value ≡ length elements - n = ap length g ∙ length-drop n elements in
    let after_long : length suffix ≡ length value - 2 = ap length h ∙ length-drop 2 value in
    let content_long : length content ≡ v = ap length j ∙ length-take-le v suffix (omega arith) in
    let size_is : length name + 4 + length content ≡ size = omega arith in
    let value_parts : value ≡ get_or value 0 0 ∷ length content ∷ (content ++ rest) = cc (two_then value (omega arith), take-append-drop v suffix) in
    let tag = get_or value 0 0 in
    let whole : octets ≡ 0x30 ∷ (length name + 4 + length content) ∷ 0x06 ∷ length name ∷ (name ++ (tag ∷ length content ∷ (content ++ rest))) =
    cc (four_then octets long, take-append-drop n elements) in
    ap fields_at whole ∙ short_binding name tag content rest (omega arith)

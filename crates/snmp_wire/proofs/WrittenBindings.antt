-- The lengths of bindings, and how they are written.
use Rattle.std.proofs.{lemmas.Grind.common_steps, lemmas.List.at_drop_all, lemmas.List.map-append, lemmas.List.take_more}
use Rattle.std.proofs.Common.{◌≡◌, ℕ, ◌+◌, ◌-◌, ◌<◌, ◌≤◌, List, [], ◌∷◌, ◌++◌, length, get_or, take, drop, refl, sym, ap, ◌∙◌, arith, length-append}
use Rattle.std.specs.List.{flat_map, AllByRecursion}
use Rattle.snmp_wire.specs.{declared.binding.Binding.Binding, Canon.canon_binding, Canon.canon_bindings, Message.VarBind, Message.var_bind}
use Rattle.snmp_wire.specs.{Message.var_binds, Range.IsBindingInRange, ber.Value.object_id, ber.Value.null_value, ber.Spelling.sequence_tag, ber.Writing.Writes}
use Rattle.snmp_wire.specs.ber.Canon.{canon_content, canon_element, canon_header, canon_length, canon_value}
use Rattle.snmp_wire.proofs.ElementLaws.{header_short, content_fits, element_size, header_fits, sizes_value, writes_element}
use Rattle.snmp_wire.proofs.WritingLaws.{length-flat_map_drop, writes_then}

pub sizes_binding : (header name value : ℕ) (binding : VarBind) → name ≡ length (canon_value (object_id binding.name))
    → value ≡ length (canon_value binding.value) → header ≡ 1 + length (canon_length (name + value)) → header + (name + value) ≡ length (canon_binding binding)
unfolding canon_binding
sizes_binding header name value binding n v h = grind (arith, common_steps, length-append, element_size)

-- if the contents of the name and the value have fewer than 124 octets together, then each of the three headers of the binding has two octets
pub sizes_short : (name value : ℕ) (binding : VarBind) → name ≡ length (canon_content (object_id binding.name)) → value ≡ length (canon_content binding.value)
    → name + value < 124 → name + value + 6 ≡ length (canon_binding binding)
sizes_short name value binding n v short =
    let of_name = sizes_value 2 name (object_id binding.name) n (sym (header_short name (omega (arith, short)))) in
    let of_value = sizes_value 2 value binding.value v (sym (header_short value (omega (arith, short)))) in
    let whole = sizes_binding 2 (2 + name) (2 + value) binding of_name of_value (sym (header_short (2 + name + (2 + value)) (omega (arith, short)))) in
    omega (arith, whole)

pub sizes_long : (header name_header name value_header value : ℕ) (binding : VarBind) → name ≡ length (canon_content (object_id binding.name))
    → value ≡ length (canon_content binding.value)
    → name_header ≡ 1 + length (canon_length name) → value_header ≡ 1 + length (canon_length value)
    → header ≡ 1 + length (canon_length (name_header + name + value_header + value))
    → header + (name_header + name + value_header + value) ≡ length (canon_binding binding)
sizes_long header name_header name value_header value binding n v hn hv h =
    let of_name = sizes_value name_header name (object_id binding.name) n hn in
    let of_value = sizes_value value_header value binding.value v hv in
    let same : name_header + name + value_header + value ≡ (name_header + name) + (value_header + value) = omega arith in
    let whole = sizes_binding header (name_header + name) (value_header + value) binding of_name of_value (h ∙ ap (λ k. 1 + length (canon_length k)) same) in
    omega (arith, whole)

length-content : (end : ℕ) (binding : VarBind) → length (canon_binding binding) ≤ end
    → length (canon_value (object_id binding.name)) + length (canon_value binding.value) ≤ end
unfolding canon_binding
length-content end binding room = omega (arith, simp length-append at (content_fits _ _ _ room))

pub binding_value_fits : (end : ℕ) (binding : VarBind) → length (canon_binding binding) ≤ end → length (canon_value binding.value) ≤ end
binding_value_fits end binding room = omega (arith, length-content end binding room)

pub binding_name_fits : {old mid : List ℕ} {middle end : ℕ} (binding : VarBind) → Writes old middle end (canon_value binding.value) mid
    → length (canon_binding binding) ≤ end → length (canon_value (object_id binding.name)) ≤ middle
binding_name_fits {old} {mid} {middle} {end} binding w room = omega (arith, length-content end binding room, w.begins)

pub binding_header_fits : {old mid new : List ℕ} {start middle end : ℕ} (binding : VarBind) → Writes old middle end (canon_value binding.value) mid
    → Writes mid start middle (canon_value (object_id binding.name)) new → length (canon_binding binding) ≤ end
    → length (canon_header sequence_tag (end - start)) ≤ start
unfolding canon_binding
binding_header_fits binding w v room = header_fits sequence_tag (writes_then w v) room

pub writes_binding : {old mid out new : List ℕ} {start name middle end : ℕ} (binding : VarBind) → Writes old middle end (canon_value binding.value) mid
    → Writes mid name middle (canon_value (object_id binding.name)) out → Writes out start name (canon_header sequence_tag (end - name)) new
    → Writes old start end (canon_binding binding) new
unfolding canon_binding
writes_binding binding w v u = writes_element sequence_tag (writes_then w v) u

-- if `text`, of `size` octets, is written to the start of a slice, then the slice is `text`, followed by the old octets from index `size` on
pub encoded : {old new text : List ℕ} {start size : ℕ} → Writes old start size text new → size ≡ length text → new ≡ text ++ drop size old
encoded {old} {new} {text} {start} {size} w e = grind (arith, common_steps)

-- the encoding of a binding
abbrev pub binding_octets : Binding → List ℕ
binding_octets binding = canon_binding (var_bind binding)

pub bindings_are : (bindings : List Binding) → flat_map binding_octets bindings ≡ canon_bindings (var_binds bindings)
unfolding canon_bindings
bindings_are [] = refl
bindings_are (binding ∷ more) = ap (λ rest. canon_binding (var_bind binding) ++ rest) (bindings_are more)

ranges_push : (ps : List VarBind) (p : VarBind) → AllByRecursion IsBindingInRange ps → IsBindingInRange p → AllByRecursion IsBindingInRange (ps ++ p ∷ [])
ranges_push [] p are here = (here, tt)
ranges_push (q ∷ ps) p are here = (are.0, ranges_push ps p are.1 here)

-- if the bindings before index `i` and the one at `i` are in range, so are the bindings before `i
-- + 1`
pub ranges_more : (bindings : List Binding) (i : ℕ) (binding : Binding) → i < length bindings → binding ≡ get_or bindings i binding
    → IsBindingInRange (var_bind binding)
    → AllByRecursion IsBindingInRange (var_binds (take i bindings)) → AllByRecursion IsBindingInRange (var_binds (take (i + 1) bindings))
ranges_more bindings i binding low is here before = rw (take_more bindings i binding low, ← is, map-append) (ranges_push _ _ before here)

pub ruleset binding_sizes = (common_steps, bindings_are, binding_octets, length-flat_map_drop, at_drop_all, ranges_more)

-- the encoding of NULL is its tag and the length 0
pub null_octets : canon_value null_value ≡ 5 ∷ 0 ∷ []
unfolding canon_value canon_element canon_header canon_length canon_content
null_octets = refl

-- the computed length of a binding whose value is NULL is the length of its encoding
pub sizes_null : (header name_header name : ℕ) (o : List ℕ) → name ≡ length (canon_content (object_id o)) → name_header ≡ 1 + length (canon_length name)
    → header ≡ 1 + length (canon_length (name_header + name + 2))
    → header + (name_header + name + 2) ≡ length (canon_binding (record { name = o; value = null_value }))
sizes_null header name_header name o n hn h =
    let of_name = sizes_value name_header name (object_id o) n hn in
    let of_value : 2 ≡ length (canon_value null_value) = sym (ap length null_octets) in
    sizes_binding header (name_header + name) 2 (record { name = o; value = null_value }) of_name of_value h

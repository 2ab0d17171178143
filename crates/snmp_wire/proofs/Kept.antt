-- Bindings stored as their encodings: what is written is decoded again (`read_again`,
-- `one_binding`), and so is its name (`name_gives`, `short_name`).
use Rattle.std.proofs.Common.{arith, ◌≡◌, ℕ, List, [], ◌∷◌, ◌++◌, Result, Ok, IsOk, refl, sym, ap, ◌∙◌, ◌<◌, ◌≤◌, length, get_or, take, drop}
use Rattle.std.proofs.{lemmas.Grind.common_steps, lemmas.Bool.lt-ltb, lemmas.Bool.ltb-false, lemmas.List.append-nil, lemmas.List.take-append-drop}
use Rattle.std.specs.Result.{result_unwrap_or}
use Rattle.snmp_wire.specs.{declared.ber.error.BerError.BerError, Encoded.IsKept, Encoded.binding_in, Range.IsBindingInRange, Range.IsInRange}
use Rattle.snmp_wire.specs.{Decode.bindings_in, Decode.bindings_of, Spelling.SpellsBinding, ber.Number.lenient}
use Rattle.snmp_wire.specs.Canon.{IsEncodable, IsEncodableValue, canon_binding}
use Rattle.snmp_wire.specs.Message.{VarBind, Datum, octet_string, null_value, object_id, opaque_octets}
use Rattle.snmp_wire.proofs.{LengthLaws.inner_again, ReadIdentifiers.identifier_again, ReadIdentifiers.four_then, MessageElements.spells_binding}
use Rattle.snmp_wire.specs.ber.Decode.{content_at, identifier_of, inner_at, length_at}
use Rattle.snmp_wire.proofs.ReadingLaws.{Gives, a_value, done, is_ok_at, ok_is, passed, refused}
use Rattle.snmp_wire.proofs.MessageLaws.{binding_again, bindings_again}

encodable_value : (v : Datum) → IsInRange v → IsEncodableValue v
encodable_value (octet_string text) h = h.1
encodable_value (object_id name) h = h.0
encodable_value (opaque_octets text) h = h.1
encodable_value v h = tt

pub encodable : (p : VarBind) → IsInRange (object_id p.name) → IsInRange p.value → IsEncodable p
encodable p name value = record { name = name.0; value = encodable_value p.value value }

-- if `inner_at` reads an element whose length has one octet, then its content is as many octets as the length says, and the rest follows
short_inner : (tag found size : ℕ) (rest content after : List ℕ) → size < 128 → inner_at tag (found ∷ size ∷ rest) ≡ Ok (content, after)
    → (size ≤ length rest) × (take size rest ≡ content) × (drop size rest ≡ after)
unfolding inner_at content_at length_at
short_inner tag found size rest content after small e = grind (arith, common_steps, passed, done, lt-ltb, refused, ok_is, ltb-false)

module _ (p : VarBind) (range : IsBindingInRange p) where
  spells : SpellsBinding lenient p (canon_binding p)
  spells = spells_binding p range

  pub read_again : binding_in (canon_binding p) ≡ p
  read_again =
      ap (λ octets. binding_in octets) (sym (append-nil (canon_binding p)))
      ∙ ap (λ (read : Result (VarBind × List ℕ) BerError). (result_unwrap_or read (record { name = []; value = null_value }, [])).0)
      (binding_again p (canon_binding p) [] spells)

  pub is_kept : (octets : List ℕ) → octets ≡ canon_binding p → IsKept octets
  is_kept octets e = grind (arith, common_steps, read_again)

  all_again : bindings_of (canon_binding p) ≡ Ok (p ∷ [])
  all_again = bindings_again (p ∷ []) (canon_binding p) (canon_binding p, [], sym (append-nil (canon_binding p)), spells, refl)

  pub are_bindings : (octets : List ℕ) → octets ≡ canon_binding p → IsOk (bindings_of octets)
  are_bindings octets e = is_ok_at (bindings_of octets) (p ∷ []) (ap bindings_of e ∙ all_again)

  pub one_binding : (octets : List ℕ) → octets ≡ canon_binding p → bindings_in octets ≡ p ∷ []
  one_binding octets e = ap bindings_in e ∙ ap (λ (read : Result (List VarBind) BerError). result_unwrap_or read []) all_again

  -- `inner_at` returns the content of the stored binding, and from that the content of its name
  outer : (octets : List ℕ) → octets ≡ canon_binding p → inner_at 0x30 octets ≡ Ok (spells.name ++ spells.value, [])
  outer octets e = ap (inner_at 0x30) (e ∙ sym (append-nil (canon_binding p)))
      ∙ inner_again 0x30 (spells.name ++ spells.value) (canon_binding p) [] spells.element

  inner : inner_at 0x06 (spells.name ++ spells.value) ≡ Ok (spells.is_name.content, spells.value)
  inner = inner_again 0x06 spells.is_name.content spells.name spells.value spells.is_name.element

  is_name : identifier_of spells.is_name.content ≡ Ok p.name
  is_name = identifier_again spells.is_name.content p.name spells.is_name.is_content

  -- the name inside the content of the binding is decoded without a fault
  abbrev InContent : List ℕ × List ℕ → Type 0
  InContent content = Gives (λ name. identifier_of name.0 ≡ Ok p.name) (λ fault. ⊥) (inner_at 0x06 content.0)

  pub name_gives : (octets : List ℕ) → octets ≡ canon_binding p → Gives InContent (λ fault. ⊥) (inner_at 0x30 octets)
  name_gives octets e = rw (outer octets e) (a_value (spells.name ++ spells.value, [])
      (rw inner (a_value (spells.is_name.content, spells.value) is_name)))

  -- if both lengths have one octet, the name follows the first four octets
  pub short_name : (octets : List ℕ) → octets ≡ canon_binding p → 4 ≤ length octets → get_or octets 1 0 < 128 → get_or octets 3 0 < 128
      → (get_or octets 3 0 ≤ length (drop 4 octets)) × (identifier_of (take (get_or octets 3 0) (drop 4 octets)) ≡ Ok p.name)
  short_name octets e long small short =
      let elements : List ℕ = get_or octets 2 0 ∷ get_or octets 3 0 ∷ drop 4 octets in
      let prefix = short_inner 0x30 (get_or octets 0 0) (get_or octets 1 0) elements (spells.name ++ spells.value) [] small
      (ap (inner_at 0x30) (sym (four_then octets long)) ∙ outer octets e) in
      let whole : elements ≡ spells.name ++ spells.value =
      cc (take-append-drop (get_or octets 1 0) elements, prefix.1, prefix.2, append-nil (spells.name ++ spells.value)) in
      let back = short_inner 0x06 (get_or octets 2 0) (get_or octets 3 0) (drop 4 octets) spells.is_name.content spells.value short
      (ap (inner_at 0x06) whole ∙ inner) in
      (back.0, ap identifier_of back.1 ∙ is_name)

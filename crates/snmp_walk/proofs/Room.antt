-- The length of a Response with one binding: it isn't longer with an exception in place of the value, nor with a smaller id (`room_fits`, `room_exception`).
use Rattle.std.proofs.lemmas.Grind.{common_steps}
use Rattle.std.proofs.Common.{◌≡◌, ℕ, ◌^◌, ◌<◌, ◌≤◌, List, [], ◌∷◌, length, arith, length-append, pos}
use Rattle.snmp_wire.specs.Message.{Datum, VarBind, Message, integer_value, no_such_object, no_such_instance, end_of_mib_view}
use Rattle.snmp_wire.specs.Spelling.{value_tag}
use Rattle.snmp_wire.specs.Canon.{number_size, canon_element, canon_content, canon_value, canon_binding, canon_bindings, canon_opening, canon_fields}
use Rattle.snmp_wire.specs.Canon.{canon}
use Rattle.snmp_walk.specs.{Link.Agents, Link.full_response, Link.IsTooLarge, private.Codec.Codec}
use Rattle.snmp_walk.specs.Room.{HasRoom, IsException}

module _ (codec : Codec) where
  -- an element with longer content isn't shorter, whatever the tags
  longer_element : (s t : ℕ) (a b : List ℕ) → length a ≤ length b → length (canon_element s a) ≤ length (canon_element t b)
  longer_element s t a b h = omega (arith, h, codec.elements.element s a, codec.elements.element t b, codec.elements.lengths_rise (length a) (length b) h)

  longer_value : (v u : Datum) → length (canon_content v) ≤ length (canon_content u) → length (canon_value v) ≤ length (canon_value u)
  unfolding canon_value
  longer_value v u h = longer_element (value_tag v) (value_tag u) (canon_content v) (canon_content u) h

  longer_binding : (name : List ℕ) (v u : Datum) → length (canon_content v) ≤ length (canon_content u)
      → length (canon_binding (record { name = name; value = v })) ≤ length (canon_binding (record { name = name; value = u }))
  unfolding canon_binding
  longer_binding name v u h = grind (arith, common_steps, longer_element, longer_value, length-append)

  exception_content : (v : Datum) → IsException v → length (canon_content v) ≤ 0
  unfolding canon_content
  exception_content no_such_object h = omega arith
  exception_content no_such_instance h = omega arith
  exception_content end_of_mib_view h = omega arith
  exception_content v h = absurd h

  longer_number : (n k : ℕ) → n ≤ k → number_size n ≤ number_size k
  unfolding number_size
  longer_number n k h = codec.elements.digits_rise 256 128 8 n k h

  -- if 0 ≤ n ≤ k, the encoding of n isn't longer than the encoding of k
  longer_integer : (n k : ℕ) → n ≤ k → length (canon_value (integer_value (pos n))) ≤ length (canon_value (integer_value (pos k)))
  unfolding canon_value canon_content
  longer_integer n k h = grind (arith, common_steps, longer_element, longer_number)

  one_binding : (p : VarBind) → length (canon_bindings (p ∷ [])) ≡ length (canon_binding p)
  unfolding canon_bindings
  one_binding p = omega (arith, length-append (canon_binding p) [])

  -- if no part of the message m is longer than the same part of n, then m isn't longer than n
  longer_message : (m n : Message) → length (canon_opening m) ≤ length (canon_opening n) → length (canon_fields m) ≤ length (canon_fields n)
      → length (canon_bindings m.bindings) ≤ length (canon_bindings n.bindings) → length (canon m) ≤ length (canon n)
  unfolding canon
  longer_message m n opening fields bindings = grind (arith, common_steps, longer_element, length-append)

  pub longer_response : (community : List ℕ) (id last : ℕ) (p q : VarBind) → id ≤ last → length (canon_binding p) ≤ length (canon_binding q)
      → length (canon (full_response community id (p ∷ []))) ≤ length (canon (full_response community last (q ∷ [])))
  longer_response community id last p q h k =
      let m : Message = full_response community id (p ∷ []) in
      let n : Message = full_response community last (q ∷ []) in
      longer_message m n (omega (arith, codec.sizes.opening m, codec.sizes.opening n))
      (omega (arith, codec.sizes.fields m, codec.sizes.fields n, longer_integer id last h)) (omega (arith, k, one_binding p, one_binding q))

  -- with the same bindings and a smaller or equal id, the Response isn't longer
  pub longer_full : (community : List ℕ) (id last : ℕ) (bindings : List VarBind) → id ≤ last
      → length (canon (full_response community id bindings)) ≤ length (canon (full_response community last bindings))
  longer_full community id last bindings h =
      let m : Message = full_response community id bindings in
      let n : Message = full_response community last bindings in
      longer_message m n (omega (arith, codec.sizes.opening m, codec.sizes.opening n))
      (omega (arith, codec.sizes.fields m, codec.sizes.fields n, longer_integer id last h)) (omega arith)

  -- if a binding has room (`HasRoom`), the Response with it only fits into an agent's message, whatever the id below 2^31
  pub room_fits : (agents : Agents) (p : VarBind) (id : ℕ) → id < 2 ^ 31 → HasRoom agents p
      → length (canon (full_response agents.community id (p ∷ []))) ≤ agents.max_size
  room_fits agents p id low room = grind (arith, common_steps, longer_response)

  pub room_small : (agents : Agents) (id : ℕ) (p : VarBind) → HasRoom agents p → IsTooLarge agents id p → ⊥
  room_small agents id p room large = grind (arith, common_steps, room_fits)

  -- if a binding with this name has room, so has the binding of the name with an exception
  pub room_exception : (agents : Agents) (name : List ℕ) (v u : Datum) → IsException v → HasRoom agents (record { name = name; value = u })
      → HasRoom agents (record { name = name; value = v })
  room_exception agents name v u is room = grind (arith, common_steps, exception_content, longer_binding, longer_response)

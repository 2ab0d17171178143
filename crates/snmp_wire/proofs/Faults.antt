-- If octets are decoded as a message, then they encode it (`message_takes`). A fault that decoding
-- finds is a fault of the octets (`message_faults`). Octets that encode a message have no fault
-- (`no_fault_of`).
use Rattle.std.proofs.lemmas.List.{nil_from_length, length-append, append-nil}
use Rattle.std.proofs.{lemmas.Grind.common_steps, lemmas.Bool.eqb-true, lemmas.Bool.eqb-false}
use Rattle.std.proofs.Common.{◌≡◌, ◌≢◌, ℕ, ℤ, zero, suc, ◌<◌, ◌≤◌, eqb, None, List, [], ◌∷◌, ◌++◌, length, Ok, Err, refl, sym, ap, subst, ◌∙◌, arith}
use Rattle.std.proofs.Common.{inl, inr, Option, Some, append_assoc}
use Rattle.snmp_wire.specs.{declared.ber.error.BerError.BerError, declared.kind.Kind.Kind, ber.Identifier.IsObjectId, ber.Length.IsElement}
use Rattle.snmp_wire.specs.{Message.VarBind, Message.Message, Spelling.kind_tag, Spelling.Spells, ber.Number.AreOctets}
use Rattle.snmp_wire.specs.{ber.Number.lenient, ber.Spelling.value_tag, ber.Spelling.IsContent, ber.Spelling.SpellsValue}
use Rattle.snmp_wire.specs.ber.Value.{Datum, integer_value, octet_string, object_id}
use Rattle.snmp_wire.specs.declared.ber.error.BerError.TheVariants as error
use Rattle.snmp_wire.specs.ber.Decode.{inner_at, element_at, integer_of, integer_at, identifier_of, typed_value}
use Rattle.snmp_wire.specs.Decode.{Fields, fields_of, fields_at, binding_of, binding_at, bindings_within, bindings_of, kind_of, outermost_of, pdu_of}
use Rattle.snmp_wire.specs.Decode.{message_of}
use Rattle.snmp_wire.specs.Fault.{BeginsWith, Position, at_message, at_version, at_community, at_pdu, at_id, at_a, at_b, at_list, at_binding, at_name}
use Rattle.snmp_wire.specs.Fault.{at_value, first_inside, next_after, AllowsTag, Expects, starts, inside, suffix, IsFault, EndsEarly}
use Rattle.snmp_wire.specs.Fault.{HasForbiddenLength, Calls}
use Rattle.snmp_wire.proofs.ReadingLaws.{Gives, a_fault, a_value, done, failed, failing, returned, gives, gives_all, gives_end, gives_either}
use Rattle.snmp_wire.proofs.ReadingLaws.{gives_fault, gives_so, gives_then, ok_is}
use Rattle.snmp_wire.proofs.LengthLaws.{IsBadElement, content_gives, element_gives, element_shrinks, inner_gives, no_octets, some_octets}
use Rattle.snmp_wire.proofs.LengthLaws.{element_again}
use Rattle.snmp_wire.proofs.MessageElements.{SpellsAll, no_elements, value_then, elements_in_message, elements_in_pdu, elements_of}
use Rattle.snmp_wire.proofs.MessageElements.{elements_of_bindings, of_row, Elements, element_then, in_row}
use Rattle.snmp_wire.proofs.{ReadIdentifiers.identifier_gives, MessageLaws.kind_again}
use Rattle.snmp_wire.proofs.ValueLaws.{IsRead, integer_gives, known_gives, value_again, value_gives}

-- ---- faults at a position

-- if an element is required at a position inside the message, and decoding it fails with `e`, then the octets have the fault `e`
bad_inner : (octets : List ℕ) (position : Position) (here : List ℕ) (e : BerError) → Expects octets position here → position ≢ at_message
    → IsBadElement error.Length here e → IsFault e octets
bad_inner octets position here e expects inner (inl cut) = grind (arith, common_steps, expects)
bad_inner octets position here e expects inner (inr form) = grind (arith, common_steps, expects)

bad_tag : (octets : List ℕ) (position : Position) (tag : ℕ) (after : List ℕ) (e : BerError) → Expects octets position (tag ∷ after) → (AllowsTag position tag
    → ⊥)
    → error.Tag ≡ e → IsFault e octets
bad_tag octets position tag after e expects bad is = grind (arith, common_steps, expects)

left_over : (octets : List ℕ) (position : Position) (here : List ℕ) (tag : ℕ) (content after : List ℕ) → Expects octets position here
    → position ≢ at_message → next_after position ≡ None → AllowsTag position tag → BeginsWith tag content here after → after ≢ []
    → IsFault error.Content octets
left_over octets position here tag content after expects inner last allowed begins some = grind (arith, common_steps, expects)

bad_content : (octets : List ℕ) (position : Position) (here : List ℕ) (tag : ℕ) (content after : List ℕ) (e : BerError) → Expects octets position here
    → first_inside position ≡ None → AllowsTag position tag → BeginsWith tag content here after
    → ((value : Datum) → tag ≡ value_tag value → IsContent lenient value content → ⊥) → error.Content ≡ e → IsFault e octets
bad_content octets position here tag content after e expects is_value allowed begins bad is = grind (arith, common_steps, expects)

-- ---- tags and content

kind_gives : (tag : ℕ) → Gives (λ found. kind_tag found ≡ tag) (λ e. error.Tag ≡ e) (kind_of tag)
unfolding kind_of
kind_gives tag = grind (arith, common_steps, a_fault, gives_either, a_value, eqb-true)

-- a content that can't be decoded with a tag isn't the content of a value with this tag
not_content : (tag : ℕ) (content : List ℕ) (e : BerError) → typed_value tag content ≡ Err e → (value : Datum) → tag ≡ value_tag value
    → IsContent lenient value content → ⊥
not_content tag content e h value is is_content = grind (arith, common_steps, done, failed, value_again)

element_tag : (tag : ℕ) (content here after : List ℕ) → BeginsWith tag content here after → (more : List ℕ) × (here ≡ tag ∷ more)
element_tag tag content here after begins = grind (arith, common_steps)

outermost_reads : (octets : List ℕ) → Gives (λ content. BeginsWith 0x30 content octets []) (λ e. IsFault e octets) (outermost_of octets)
unfolding outermost_of
outermost_reads [] = a_fault error.Truncated no_octets
outermost_reads (tag ∷ rest) =
    let octets = tag ∷ rest in
    gives_either (eqb tag 0x30)
    (λ is. gives_then _ (gives_so (λ x begins. begins)
    (λ e bad. elim bad [
      | inl cut ↦ subst (λ (d : BerError). IsFault d octets) cut.0 cut.1
      | inr form ↦ subst (λ (d : BerError). IsFault d octets) form.0
          (record { position = at_message; here = octets; expected = starts; bad = inl form.1 })
    ]) (content_gives error.Truncated tag rest))
    (λ x begins. gives_end error.Trailing x.1
    (λ none. a_value x.0 (subst (λ (t : ℕ). BeginsWith t x.0 octets []) (eqb-true tag 0x30 is)
    (subst (λ (o : List ℕ). BeginsWith tag x.0 octets o) none begins)))
    (λ some. record { tag = tag; content = x.0; after = x.1; begins = begins; some = some })))
    (λ other. a_fault error.Tag (bad_tag octets at_message tag rest error.Tag starts (λ allowed. eqb-false tag 0x30 other allowed) refl))

-- `content` is the content of a binding with these fields: a name, and a value, which is at a position of values in the message `octets`
record StandIn (octets content : List ℕ) (fields : Fields) : Type 0 where
  value_here : List ℕ
  name_begins : BeginsWith 0x06 fields.name content value_here
  value_expects : Expects octets at_value value_here
  value_begins : BeginsWith fields.tag fields.content value_here []

-- `here` begins with an encoding of the binding `x.0`, and `x.1` follows it
abbrev IsBinding : List ℕ → VarBind × List ℕ → Type 0
IsBinding here x =
    (content : List ℕ) × BeginsWith 0x30 content here x.1
    × SpellsAll lenient (value_then (object_id x.0.name) (value_then x.0.value no_elements)) content

abbrev message_with : ℤ → List ℕ → Kind → ℤ → ℤ → ℤ → List VarBind → Message
message_with version community found id a b bindings =
    record { version = version; community = community; kind = found; id = id; a = a; b = b; bindings = bindings }

module _ (octets : List ℕ) where
  -- at a position inside the message that allows only `tag`, an element with this tag is decoded, or `octets` have the fault that is returned
  inner_reads : (position : Position) (tag : ℕ) (here : List ℕ) → Expects octets position here → position ≢ at_message
      → ((found : ℕ) → AllowsTag position found → found ≡ tag) → Gives (λ x. BeginsWith tag x.0 here x.1) (λ e. IsFault e octets) (inner_at tag here)
  inner_reads position tag here expects inner only =
      gives_so (λ x begins. begins)
      (λ e bad. elim bad [
        | inl none ↦ bad_inner octets position here e expects inner none
        | inr t ↦ bad_tag octets position t.1 t.2 e (subst (Expects octets position) t.3 expects) (λ allowed. t.4 (only t.1 allowed)) t.0
      ]) (inner_gives tag here)

  -- at a position inside the message, an element with any tag is decoded, or `octets` have the fault that is returned
  element_reads : (position : Position) (here : List ℕ) → Expects octets position here → position ≢ at_message
      → Gives (λ x. BeginsWith x.0 x.1 here x.2) (λ e. IsFault e octets) (element_at here)
  element_reads position here expects inner = gives_so (λ x begins. begins) (λ e bad. bad_inner octets position here e expects inner bad) (element_gives here)

  -- at the position of an INTEGER, an INTEGER is decoded, or `octets` have the fault that is returned
  integer_reads : (position : Position) (here : List ℕ) → Expects octets position here → position ≢ at_message → first_inside position ≡ None
      → ((found : ℕ) → AllowsTag position found → found ≡ 0x02) → AllowsTag position 0x02
      → Gives (λ x. (first : List ℕ) × (here ≡ first ++ x.1) × SpellsValue lenient (integer_value x.0) first) (λ e. IsFault e octets)
      (integer_at here)
  unfolding integer_at typed_value
  integer_reads position here expects inner is_value only allowed =
      gives_then _ (inner_reads position 0x02 here expects inner only) (λ x begins. gives_then _ (gives (integer_of x.0) (λ z is. returned z
      (integer_gives x.0) is)
      (λ e h.
      let read : typed_value 0x02 x.0 ≡ Err e = rw h refl in
      bad_content octets position here 0x02 x.0 x.1 e expects is_value allowed begins (not_content 0x02 x.0 e read)
      (failing e (integer_gives x.0) h)))
      (λ z is. a_value _ (begins.element, begins.parts, record { content = x.0; is_content = is; element = begins.is_element })))

  -- what follows an INTEGER is at the next position
  after_integer : (before position : Position) (here first rest : List ℕ) (z : ℤ) → Expects octets before here → AllowsTag before 0x02
      → SpellsValue lenient (integer_value z) first → here ≡ first ++ rest → next_after before ≡ Some position → Calls position rest
      → Expects octets position rest
  after_integer before position here first rest z expects allowed is parts next calls =
      suffix before position here 0x02 is.content rest expects allowed (record { element = first; is_element = is.element; parts = parts }) next calls

  -- ---- bindings

  value_reads : (here : List ℕ) (tag : ℕ) (content after : List ℕ) → Expects octets at_value here → BeginsWith tag content here after
      → Gives (IsRead tag content) (λ e. IsFault e octets) (typed_value tag content)
  value_reads here tag content after expects begins =
      gives (typed_value tag content) (λ value h. returned value (value_gives tag content) h) (λ e h.
      elim (failing e (value_gives tag content) h) [
        | inl at_content ↦ bad_content octets at_value here tag content after e expects refl at_content.1 begins (not_content tag content e h) at_content.0
        | inr at_tag ↦
            let t = element_tag tag content here after begins in
            let bad : AllowsTag at_value tag → ⊥ = λ allowed.
            let is : error.Content ≡ e = failing e (known_gives allowed.0 content)
            (ap (λ (t : ℕ). typed_value t content) (sym allowed.1) ∙ h) in
            let both : error.Content ≡ error.Tag = is ∙ sym at_tag in
            cc in
            bad_tag octets at_value tag t.0 e (subst (λ (o : List ℕ). Expects octets at_value o) t.1 expects) bad at_tag
      ])

  name_reads : (here content after : List ℕ) → Expects octets at_name here → BeginsWith 0x06 content here after
      → Gives (IsObjectId content) (λ e. IsFault e octets) (identifier_of content)
  unfolding typed_value
  name_reads here content after expects begins =
      gives (identifier_of content) (λ name h. returned name (identifier_gives content) h) (λ e h.
      let read : typed_value 0x06 content ≡ Err e = rw h refl in
      bad_content octets at_name here 0x06 content after e expects refl refl begins (not_content 0x06 content e read)
      (failing e (identifier_gives content) h))

  fields_read : (content : List ℕ) → Expects octets at_name content → Gives (StandIn octets content) (λ e. IsFault e octets) (fields_of content)
  unfolding fields_of
  fields_read content expects =
      gives_then _ (inner_reads at_name 0x06 content expects (λ is. cc) (λ found allowed. allowed)) (λ name begins.
      let after_it : Expects octets at_value name.1 = suffix at_name at_value content 0x06 name.0 name.1 expects refl begins refl tt in
      gives_then _ (element_reads at_value name.1 after_it (λ is. cc)) (λ value follows.
      let made : Fields = record { name = name.0; tag = value.0; content = value.1 } in
      gives_end _ value.2 (λ none. a_value made (record {
        value_here = name.1;
        name_begins = begins;
        value_expects = after_it;
        value_begins = subst (BeginsWith value.0 value.1 name.1) none follows;
      })) (λ some. gives_fault (λ e. IsFault e octets) error.Content
      (value_reads name.1 value.0 value.1 value.2 after_it follows)
      (λ read is. left_over octets at_value name.1 value.0 value.1 value.2 after_it (λ is. cc) refl (read, sym is.is_tag) follows some))))

  binding_reads : (here : List ℕ) → Expects octets at_binding here → Gives (IsBinding here) (λ e. IsFault e octets) (binding_at here)
  unfolding binding_at fields_at binding_of
  binding_reads here expects =
      gives_then {is = λ x. (content : List ℕ) × BeginsWith 0x30 content here x.1 × Expects octets at_name content × StandIn octets content x.0} _
      (gives_then _ (inner_reads at_binding 0x30 here expects (λ is. cc) (λ found allowed. allowed)) (λ outer begins.
      let name_expects : Expects octets at_name outer.0 = inside at_binding at_name here 0x30 outer.0 outer.1 expects refl begins refl tt in
      gives_then _ (fields_read outer.0 name_expects) (λ fields parts. a_value (fields, outer.1) (outer.0, begins, name_expects, parts)))) (λ x found.
      let s = found.3 in
      gives_then {is = λ binding. SpellsAll lenient (value_then (object_id binding.name) (value_then binding.value no_elements)) found.0} _
      (gives_then _ (name_reads found.0 x.0.name s.value_here found.2 s.name_begins) (λ name is_name.
      gives_then _ (value_reads s.value_here x.0.tag x.0.content [] s.value_expects s.value_begins) (λ value is_value.
      let is_element = subst (λ (tag : ℕ). IsElement tag x.0.content s.value_begins.element) (sym is_value.is_tag) s.value_begins.is_element in
      let is_named : SpellsValue lenient (object_id name) s.name_begins.element =
      record { content = x.0.name; is_content = is_name; element = s.name_begins.is_element } in
      let is_typed : SpellsValue lenient value s.value_begins.element =
      record { content = x.0.content; is_content = is_value.is_content; element = is_element } in
      a_value (record { name = name; value = value })
      (s.name_begins.element, s.value_here, s.name_begins.parts, is_named, (s.value_begins.element, [], s.value_begins.parts, is_typed, refl)))))
      (λ binding row. a_value (binding, x.1) (found.0, found.1, row)))

  bindings_read : (fuel : ℕ) (here : List ℕ) → length here ≤ fuel → (here ≢ [] → Expects octets at_binding here)
      → Gives (λ bindings. SpellsAll lenient (elements_of_bindings bindings) here) (λ e. IsFault e octets) (bindings_within fuel here)
  unfolding bindings_within
  bindings_read fuel [] few expects = a_value [] refl
  bindings_read zero (octet ∷ rest) few expects = absurd (omega arith)
  bindings_read (suc fuel) (octet ∷ rest) few expects =
      let here_expects = expects (some_octets (octet ∷ rest) (omega arith)) in
      gives_then _ (binding_reads (octet ∷ rest) here_expects) (λ x found.
      let less : length x.1 < length (octet ∷ rest) = element_shrinks found.1 in
      gives_then _ (bindings_read fuel x.1 (omega arith)
      (λ some. suffix at_binding at_binding (octet ∷ rest) 0x30 found.0 x.1 here_expects refl found.1 refl some))
      (λ more others. a_value (x.0 ∷ more) (found.1.element, x.1, found.1.parts, found.0, found.1.is_element, found.2, others)))

  -- ---- messages

  kind_reads : (here : List ℕ) (tag : ℕ) (content after : List ℕ) → Expects octets at_pdu here → BeginsWith tag content here after
      → Gives (λ found. kind_tag found ≡ tag) (λ e. IsFault e octets) (kind_of tag)
  kind_reads here tag content after expects begins =
      gives (kind_of tag) (λ found h. returned found (kind_gives tag) h) (λ e h.
      let t = element_tag tag content here after begins in
      bad_tag octets at_pdu tag t.0 e (subst (λ (o : List ℕ). Expects octets at_pdu o) t.1 expects)
      (λ allowed. let both : done allowed.0 ≡ failed e = sym (kind_again allowed.0) ∙ ap kind_of (sym allowed.1) ∙ h in cc)
      (failing e (kind_gives tag) h))

  pdu_reads : (version : ℤ) (community : List ℕ) (found : Kind) (content : List ℕ) (Is : Message → Type 0) → Expects octets at_id content
      → ((id a b : ℤ) (bindings : List VarBind) → SpellsAll lenient (elements_in_pdu (message_with version community found id a b bindings)) content
      → Is (message_with version community found id a b bindings))
      → Gives Is (λ e. IsFault e octets) (pdu_of version community found content)
  unfolding pdu_of bindings_of
  pdu_reads version community found content Is id_expects made =
      gives_then _ (integer_reads at_id content id_expects (λ is. cc) refl (λ t allowed. allowed) refl) (λ id i.
      let a_expects = after_integer at_id at_a content i.0 id.1 id.0 id_expects refl i.2 i.1 refl tt in
      gives_then _ (integer_reads at_a id.1 a_expects (λ is. cc) refl (λ t allowed. allowed) refl) (λ a j.
      let b_expects = after_integer at_a at_b id.1 j.0 a.1 a.0 a_expects refl j.2 j.1 refl tt in
      gives_then _ (integer_reads at_b a.1 b_expects (λ is. cc) refl (λ t allowed. allowed) refl) (λ b k.
      let list_expects = after_integer at_b at_list a.1 k.0 b.1 b.0 b_expects refl k.2 k.1 refl tt in
      gives_then _ (inner_reads at_list 0x30 b.1 list_expects (λ is. cc) (λ t allowed. allowed)) (λ list l.
      gives_then _ (gives_all error.Content list.1
      (bindings_read (length list.0) list.0 (omega arith) (λ some. inside at_list at_binding b.1 0x30 list.0 list.1 list_expects refl l refl some))
      (λ some. left_over octets at_list b.1 0x30 list.0 list.1 list_expects (λ is. cc) refl refl l some)) (λ bindings both.
      let fields : SpellsAll lenient (elements_in_pdu (message_with version community found id.0 a.0 b.0 bindings)) content =
      (i.0, id.1, i.1, i.2, (j.0, a.1, j.1, j.2, (k.0, b.1, k.1, k.2, (l.element, list.1, l.parts, list.0, l.is_element, both.0, both.1)))) in
      a_value _ (made id.0 a.0 b.0 bindings fields))))))

  message_reads : Gives (λ m. SpellsAll lenient (elements_of m) octets) (λ e. IsFault e octets) (message_of octets)
  unfolding message_of
  message_reads =
      gives_then _ (outermost_reads octets) (λ content outer.
      let version_expects = inside at_message at_version octets 0x30 content [] starts refl outer refl tt in
      gives_then _ (integer_reads at_version content version_expects (λ is. cc) refl (λ t allowed. allowed) refl) (λ version v.
      let community_expects = after_integer at_version at_community content v.0 version.1 version.0 version_expects refl v.2 v.1 refl tt in
      gives_then _ (inner_reads at_community 0x04 version.1 community_expects (λ is. cc) (λ t allowed. allowed)) (λ community c.
      let pdu_expects = suffix at_community at_pdu version.1 0x04 community.0 community.1 community_expects refl c refl tt in
      gives_then _ (element_reads at_pdu community.1 pdu_expects (λ is. cc)) (λ pdu p.
      gives_then _ (gives_all _ pdu.2 (kind_reads community.1 pdu.0 pdu.1 pdu.2 pdu_expects p)
      (λ some. gives_fault (λ e. IsFault e octets) error.Content (kind_reads community.1 pdu.0 pdu.1 pdu.2 pdu_expects p)
      (λ found is. left_over octets at_pdu community.1 pdu.0 pdu.1 pdu.2 pdu_expects (λ is. cc) refl (found, sym is) p some)))
      (λ found k.
      pdu_reads version.0 community.0 found pdu.1 (λ m. SpellsAll lenient (elements_of m) octets)
      (inside at_pdu at_id community.1 pdu.0 pdu.1 pdu.2 pdu_expects (found, sym k.0) p refl tt)
      (λ id a b bindings row.
      let is_pdu : IsElement (kind_tag found) pdu.1 p.element = subst (λ (tag : ℕ). IsElement tag pdu.1 p.element) (sym k.0) p.is_element in
      let is_community : SpellsValue lenient (octet_string community.0) c.element =
      record { content = community.0; is_content = refl; element = c.is_element } in
      let inner : SpellsAll lenient (elements_in_message (message_with version.0 community.0 found id a b bindings)) content =
      (v.0, version.1, v.1, v.2, (c.element, community.1, c.parts, is_community, (p.element, pdu.2, p.parts, pdu.1, is_pdu, row, k.1))) in
      (outer.element, [], outer.parts, content, outer.is_element, inner, refl)))))))

  pub message_faults : (e : BerError) → message_of octets ≡ Err e → IsFault e octets
  message_faults e h = failing e message_reads h

  pub message_takes : (message : Message) → AreOctets octets → message_of octets ≡ Ok message → Spells message octets
  message_takes message h e = of_row lenient message octets h (returned message message_reads e)

-- ---- the elements at a position

-- the elements may follow one another from the position on, to the end of the element around them; at `None` there must be none
abbrev FitsAt : Option Position → Elements → Type 0
FitsAt None no_elements = Unit {0}
FitsAt None (value_then value more) = ⊥
FitsAt None (element_then tag within more) = ⊥
FitsAt (Some position) no_elements = position ≡ at_binding
FitsAt (Some position) (value_then value more) = AllowsTag position (value_tag value) × (first_inside position ≡ None) × FitsAt (next_after position) more
FitsAt (Some position) (element_then tag within more) =
    AllowsTag position tag × (next : Position) × (first_inside position ≡ Some next) × FitsAt (Some next) within × FitsAt (next_after position) more

bindings_fit : (bindings : List VarBind) → FitsAt (Some at_binding) (elements_of_bindings bindings)
bindings_fit [] = refl
bindings_fit (binding ∷ more) = (refl, at_name, refl, (refl, refl, ((binding.value, refl), refl, tt)), bindings_fit more)

message_fits : (message : Message) → FitsAt (Some at_message) (elements_of message)
message_fits message =
    let fields : FitsAt (Some at_id) (elements_in_pdu message) =
    (refl, refl, (refl, refl, (refl, refl, (refl, at_binding, refl, bindings_fit message.bindings, tt)))) in
    let content : FitsAt (Some at_version) (elements_in_message message) =
    (refl, refl, (refl, refl, ((message.kind, refl), at_id, refl, fields, tt))) in
    (refl, at_version, refl, content, tt)

abbrev Row : Position → List ℕ → Type 0
Row position here = (all : Elements) × FitsAt (Some position) all × SpellsAll lenient all here

-- `here` begins with an element that is allowed at the position, and what is inside it and after it is allowed too
record Parts (position : Position) (here : List ℕ) : Type 0 where
  tag : ℕ
  content : List ℕ
  rest : List ℕ
  begins : BeginsWith tag content here rest
  allowed : AllowsTag position tag
  value : first_inside position ≡ None → (value : Datum) × (tag ≡ value_tag value) × IsContent lenient value content
  last : next_after position ≡ None → rest ≡ []
  within : (next : Position) → first_inside position ≡ Some next → Row next content
  after : (next : Position) → next_after position ≡ Some next → Row next rest

none_some : (next : Position) → None ≡ Some next → ⊥
none_some next e = cc

none_left : (position : Position) (all : Elements) (octets : List ℕ) → FitsAt (next_after position) all → SpellsAll lenient all octets
    → next_after position ≡ None
    → octets ≡ []
none_left position all octets fits is e = grind (arith, common_steps, no_elements, value_then, element_then)

parts_of : (position : Position) (here : List ℕ) → Calls position here → Row position here → Parts position here
parts_of position here calls (no_elements, fits, is) = absurd (subst (λ (at : Position). Calls at here) fits calls is)
parts_of position here calls (value_then value more, (allowed, inner, fits), (first, rest, parts, this, others)) = record {
  tag = value_tag value;
  content = this.content;
  rest = rest;
  begins = record { element = first; is_element = this.element; parts = parts };
  allowed = allowed;
  value = λ e. (value, refl, this.is_content);
  last = none_left position more rest fits others;
  within = λ next e. absurd (none_some next (sym inner ∙ e));
  after = λ next e. (more, subst (λ (at : Option Position). FitsAt at more) e fits, others);
}
parts_of position here calls (element_then tag within more, (allowed, child, inner, fit, fits), (first, rest, parts, content, element, all, others)) = record {
  tag = tag;
  content = content;
  rest = rest;
  begins = record { element = first; is_element = element; parts = parts };
  allowed = allowed;
  value = λ e. absurd (none_some child (sym e ∙ inner));
  last = none_left position more rest fits others;
  within = λ next e. (within, subst (λ (at : Option Position). FitsAt at within) (sym inner ∙ e) fit, all);
  after = λ next e. (more, subst (λ (at : Option Position). FitsAt at more) e fits, others);
}

-- an element at the start of octets: its tag, its content, and what follows it
abbrev Head : Type 0
Head = ℕ × List ℕ × List ℕ

reads : (tag : ℕ) (content here rest : List ℕ) → BeginsWith tag content here rest → element_at here ≡ Ok (tag, content, rest)
reads tag content here rest b = ap element_at b.parts ∙ element_again tag content b.element rest b.is_element

-- octets begin with at most one element
one_prefix : {tag other : ℕ} {content contents here rest more : List ℕ} → BeginsWith tag content here rest → BeginsWith other contents here more
    → ◌≡◌ {A = Head} (tag, content, rest) (other, contents, more)
one_prefix {tag} {other} {content} {contents} {here} {rest} {more} b c =
    ok_is (tag, content, rest) (other, contents, more) (sym (reads tag content here rest b) ∙ reads other contents here more c)

-- if `octets` encode a message, and an element of the position is required at the start of `here`, then `here` begins with one (`Parts`)

expects : (octets : List ℕ) (position : Position) (here : List ℕ) → Row at_message octets → Expects octets position here → Parts position here
expects octets position here all starts = parts_of at_message octets tt all
expects octets position here all (inside outer _ around tag content rest expected allowed begins is_first calls) =
    let p = expects octets outer around all expected in
    let same : p.content ≡ content = ap (λ (f : Head). f.1) (one_prefix p.begins begins) in
    parts_of position here calls (subst (Row position) same (p.within position is_first))
expects octets position here all (suffix before _ around tag content rest expected allowed begins is_next calls) =
    let p = expects octets before around all expected in
    let same : p.rest ≡ rest = ap (λ (f : Head). f.2) (one_prefix p.begins begins) in
    parts_of position here calls (subst (Row position) same (p.after position is_next))

-- ---- the octets of a message have no fault

not_early : (tag : ℕ) (content here rest : List ℕ) → BeginsWith tag content here rest → EndsEarly here → ⊥
not_early tag content here rest b early =
    let longer : BeginsWith tag content (here ++ early.missing) (rest ++ early.missing) =
    record { element = b.element; is_element = b.is_element; parts = cc (append_assoc b.element rest early.missing, b.parts) } in
    let whole : BeginsWith early.tag early.content (here ++ early.missing) [] =
    record { element = here ++ early.missing; is_element = early.whole; parts = sym (append-nil (here ++ early.missing)) } in
    let none : length (rest ++ early.missing) ≡ 0 = ap (λ (f : Head). length f.2) (one_prefix longer whole) in
    early.some (nil_from_length early.missing (omega (arith, none, length-append rest early.missing)))

-- the first octet of a length is below 128, or 129 to 132 for one to four digits: never 128, nor
-- 133 or more
not_forbidden : (tag : ℕ) (content here rest : List ℕ) → BeginsWith tag content here rest → HasForbiddenLength here → ⊥
not_forbidden tag content here rest b f = grind (arith, common_steps)

no_fault_in : (octets : List ℕ) (fault : BerError) → Row at_message octets → IsFault fault octets → ⊥
no_fault_in octets error.Truncated all f =
    let p = parts_of at_message octets tt all in
    not_early p.tag p.content octets p.rest p.begins f
no_fault_in octets error.Trailing all f =
    let p = parts_of at_message octets tt all in
    f.some (ap (λ (x : Head). x.2) (one_prefix f.begins p.begins) ∙ p.last refl)
no_fault_in octets error.Length all f =
    let p = expects octets f.position f.here all f.expected in
    elim f.bad [ inl form ↦ not_forbidden p.tag p.content f.here p.rest p.begins form | inr early ↦ not_early p.tag p.content f.here p.rest p.begins early.1 ]
no_fault_in octets error.Tag all f = grind (arith, common_steps, expects)
no_fault_in octets error.Content all (inl f) =
    let p = expects octets f.position f.here all f.expected in
    let same = one_prefix p.begins f.begins in
    let v = p.value f.is_value in
    f.bad v.0 (sym (ap (λ (x : Head). x.0) same) ∙ v.1) (subst (λ (o : List ℕ). IsContent lenient v.0 o) (ap (λ (x : Head). x.1) same) v.2)
no_fault_in octets error.Content all (inr f) =
    let p = expects octets f.position f.here all f.expected in
    let same = one_prefix p.begins f.begins in
    f.some (sym (ap (λ (x : Head). x.2) same) ∙ p.last f.is_last)

pub no_fault_of : (message : Message) (octets : List ℕ) (fault : BerError) → Spells message octets → IsFault fault octets → ⊥
no_fault_of message octets fault h f = no_fault_in octets fault (elements_of message, message_fits message, in_row lenient message octets h) f

-- If a tag and a content are decoded as a value, then they encode it; otherwise the tag or the
-- content is at fault (`value_gives`). A content of a value is decoded as this value
-- (`value_again`).
use Rattle.std.proofs.{lemmas.Grind.common_steps, lemmas.List.nil_from_length}
use Rattle.std.proofs.Common.{◌≡◌, ℕ, ℤ, pos, ◌+◌, ◌≤◌, true, cond, eqb, leb, ◌⊎◌, List, [], ◌∷◌, length, Result, Ok, refl, ap, arith, inl, inr}
use Rattle.std.proofs.lemmas.Bool.{ltb-true, lt-ltb, le-leb, leb-true, eqb-true, eq-eqb, and_parts, and_from, or_cases, or_left, or_right}
use Rattle.snmp_wire.specs.{declared.ber.error.BerError.BerError, ber.Spelling.value_tag, ber.Spelling.IsContent}
use Rattle.snmp_wire.specs.declared.ber.error.BerError.TheVariants as error
use Rattle.snmp_wire.specs.ber.Number.{IsInteger, IsUnsigned, lenient}
use Rattle.snmp_wire.specs.ber.Value.{Datum, integer_value, octet_string, null_value, object_id, ip_address, counter32, gauge32, time_ticks}
use Rattle.snmp_wire.specs.ber.Value.{opaque_octets, counter64, no_such_object, no_such_instance, end_of_mib_view}
use Rattle.snmp_wire.specs.ber.Decode.{integer_of, has_width, unsigned_of, empty_of, typed_value}
use Rattle.snmp_wire.proofs.ReadingLaws.{Gives, a_fault, a_value, done, gives_either, gives_so, gives_then}
use Rattle.snmp_wire.proofs.ReadIdentifiers.{identifier_again, identifier_gives}

-- ---- numbers

pub integer_gives : (content : List ℕ) → Gives (IsInteger content) (λ e. error.Content ≡ e) (integer_of content)
unfolding integer_of
integer_gives content = grind (arith, common_steps, gives_either, and_parts, ltb-true, a_value, a_fault)

pub integer_again : (content : List ℕ) (z : ℤ) → IsInteger content z → integer_of content ≡ Ok z
unfolding integer_of
integer_again content z h = grind (arith, common_steps, lt-ltb, done)

unsigned_gives : (width : ℕ) (content : List ℕ) → Gives (IsUnsigned lenient width content) (λ e. error.Content ≡ e) (unsigned_of width content)
unfolding unsigned_of
unsigned_gives width [] = a_fault error.Content refl
unsigned_gives width (first ∷ rest) = grind (arith, common_steps, gives_either, or_cases, leb-true, and_parts, eqb-true, a_value, a_fault)

has_width_from : (width first : ℕ) (rest : List ℕ) → (length (first ∷ rest) ≤ width) ⊎ ((length (first ∷ rest) ≡ width + 1) × (first ≡ 0))
    → has_width width (first ∷ rest) ≡ true
has_width_from width first rest (inl few) = or_left (leb (length (first ∷ rest)) width) _ (le-leb (length (first ∷ rest)) width few)
has_width_from width first rest (inr both) = grind (arith, common_steps, or_right, and_from, eq-eqb)

unsigned_again : (width : ℕ) (content : List ℕ) (n : ℕ) → IsUnsigned lenient width content n → unsigned_of width content ≡ Ok n
unfolding unsigned_of
unsigned_again width [] n h = let some = h.some in absurd (omega arith)
unsigned_again width (first ∷ rest) n h = rw (has_width_from width first rest h.few) (ap done h.value)

-- ---- values

-- `value` has this tag and content
pub record IsRead (tag : ℕ) (content : List ℕ) (value : Datum) : Type 0 where
  pub is_tag : value_tag value ≡ tag
  pub is_content : IsContent lenient value content

read : (value : Datum) (content : List ℕ) → IsContent lenient value content → Gives (IsRead (value_tag value) content) (λ e. error.Content ≡ e) (Ok value)
read value content is = a_value value (record { is_tag = refl; is_content = is })

empty_gives : (made : Datum) (content : List ℕ) → IsContent lenient made []
    → Gives (IsRead (value_tag made) content) (λ e. error.Content ≡ e) (empty_of made content)
empty_gives made content is = grind (arith, common_steps, gives_either, a_value, nil_from_length, eqb-true, a_fault)

-- if the tag is the tag of a value, a value is decoded or the content is at fault
pub known_gives : (value : Datum) (content : List ℕ)
    → Gives (IsRead (value_tag value) content) (λ e. error.Content ≡ e) (typed_value (value_tag value) content)
unfolding typed_value
known_gives (integer_value z) content = gives_then _ (integer_gives content) (λ n. read (integer_value n) content)
known_gives (octet_string text) content = read (octet_string content) content refl
known_gives (object_id name) content = gives_then _ (identifier_gives content) (λ n. read (object_id n) content)
known_gives (ip_address address) content = grind (arith, common_steps, gives_either, a_value, eqb-true, a_fault)
known_gives (counter32 n) content = gives_then _ (unsigned_gives 4 content) (λ m. read (counter32 m) content)
known_gives (gauge32 n) content = gives_then _ (unsigned_gives 4 content) (λ m. read (gauge32 m) content)
known_gives (time_ticks n) content = gives_then _ (unsigned_gives 4 content) (λ m. read (time_ticks m) content)
known_gives (opaque_octets text) content = read (opaque_octets content) content refl
known_gives (counter64 n) content = gives_then _ (unsigned_gives 8 content) (λ m. read (counter64 m) content)
known_gives value content = empty_gives value content refl

-- `e` says what is at fault: the content (then the tag is the tag of a value), or the tag
abbrev pub IsValueFault : ℕ → BerError → Type 0
IsValueFault tag e = ((error.Content ≡ e) × ((value : Datum) × (tag ≡ value_tag value))) ⊎ (error.Tag ≡ e)

by_tag : (known : Datum) (tag : ℕ) (content : List ℕ) (here others : Result Datum BerError)
    → Gives (IsRead (value_tag known) content) (λ e. error.Content ≡ e) here → Gives (IsRead tag content) (IsValueFault tag) others
    → Gives (IsRead tag content) (IsValueFault tag) (cond (eqb tag (value_tag known)) here others)
by_tag known tag content here others this that = grind (arith, common_steps, gives_either, eqb-true, gives_so)

pub value_gives : (tag : ℕ) (content : List ℕ) → Gives (IsRead tag content) (IsValueFault tag) (typed_value tag content)
unfolding typed_value
value_gives tag content =
    by_tag (integer_value (pos 0)) tag content _ _ (known_gives (integer_value (pos 0)) content) (
    by_tag (octet_string []) tag content _ _ (known_gives (octet_string []) content) (
    by_tag null_value tag content _ _ (known_gives null_value content) (
    by_tag (object_id []) tag content _ _ (known_gives (object_id []) content) (
    by_tag (ip_address []) tag content _ _ (known_gives (ip_address []) content) (
    by_tag (counter32 0) tag content _ _ (known_gives (counter32 0) content) (
    by_tag (gauge32 0) tag content _ _ (known_gives (gauge32 0) content) (
    by_tag (time_ticks 0) tag content _ _ (known_gives (time_ticks 0) content) (
    by_tag (opaque_octets []) tag content _ _ (known_gives (opaque_octets []) content) (
    by_tag (counter64 0) tag content _ _ (known_gives (counter64 0) content) (
    by_tag no_such_object tag content _ _ (known_gives no_such_object content) (
    by_tag no_such_instance tag content _ _ (known_gives no_such_instance content) (
    by_tag end_of_mib_view tag content _ _ (known_gives end_of_mib_view content) (
    a_fault error.Tag (inr refl))))))))))))))

pub value_again : (value : Datum) (content : List ℕ) → IsContent lenient value content → typed_value (value_tag value) content ≡ Ok value
unfolding typed_value
value_again (integer_value z) content h = rw (integer_again content z h) refl
value_again (octet_string text) content h = ap (λ (o : List ℕ). done (octet_string o)) h
value_again (object_id name) content h = rw (identifier_again content name h) refl
value_again (ip_address address) content h = rw (h.0, eq-eqb (length address) 4 h.1) refl
value_again (counter32 n) content h = rw (unsigned_again 4 content n h) refl
value_again (gauge32 n) content h = rw (unsigned_again 4 content n h) refl
value_again (time_ticks n) content h = rw (unsigned_again 4 content n h) refl
value_again (opaque_octets text) content h = ap (λ (o : List ℕ). done (opaque_octets o)) h
value_again (counter64 n) content h = rw (unsigned_again 8 content n h) refl
value_again value content h = ap (empty_of value) h

-- A value has only one text, if each identifier has only one name (`value_once`).
use Rattle.std.proofs.Common.{arith, ◌≡◌, ℕ, ℤ, Bool, true, false, MatchBool, inl, inr, List, ◌++◌, Option, Some, None, sym, ◌∙◌, ap}
use Rattle.std.proofs.lemmas.Grind.{common_steps}
use Rattle.std.specs.Prelude.{codes}
use Rattle.snmp_wire.specs.ber.Value.{Datum, integer_value, octet_string, object_id, gauge32}
use Rattle.smi_text.specs.declared.trees.tree.NamedNumber.{NamedNumber}
use Rattle.smi_value.specs.{declared.letters.Letters.Letters, Pieces.IsBitsText, Pieces.type_word, Syntax.ObjectSyntax}
use Rattle.smi_value.specs.Value.{IsNumberText, IsTypedNumber, IsIntegerText, IsHintedString, IsStringText, IsOctetsText, ShowsValue}
use Rattle.smi_value.proofs.{SetBits.bits_once, HintUnique.same_shown, HintUnique.same_number}

number_once : (hint : Option (List ℕ)) (n : ℤ) (a b : List ℕ) → IsNumberText hint n a → IsNumberText hint n b → a ≡ b
number_once None n a b h k = h ∙ sym k
number_once (Some hint) n a b (inl h) (inl k) = same_number hint n a b h k
number_once (Some hint) n a b (inl h) (inr k) = absurd (k.0 (h.form, h.is_hint))
number_once (Some hint) n a b (inr h) (inl k) = absurd (h.0 (k.form, k.is_hint))
number_once (Some hint) n a b (inr h) (inr k) = h.1 ∙ sym k.1

module _ (letters : Letters) where
  typed_once : (word : List ℕ) (hint units : Option (List ℕ)) (n : ℤ) (a b : List ℕ) → IsTypedNumber letters word hint units n a
      → IsTypedNumber letters word hint units n b → a ≡ b
  typed_once word hint units n a b h k = grind (arith, common_steps, number_once)

  integer_once : (syntax : ObjectSyntax) (n : ℤ) (name : Option (List ℕ)) (a b : List ℕ) → IsIntegerText letters syntax n name a
      → IsIntegerText letters syntax n name b → a ≡ b
  integer_once syntax n None a b h k = typed_once (codes "INTEGER: ") syntax.hint syntax.units n a b h k
  integer_once syntax n (Some name) a b h k = h ∙ sym k

  hinted_once : (hint octets a b : List ℕ) → IsHintedString letters hint octets a → IsHintedString letters hint octets b → a ≡ b
  hinted_once hint octets a b h k =
      h.whole ∙ ap (λ (t : List ℕ). type_word letters (codes "STRING: ") ++ t) (same_shown hint octets h.shown k.shown h.shows k.shows) ∙ sym k.whole

  string_once : (hint : Option (List ℕ)) (octets a b : List ℕ) → IsStringText letters hint octets a → IsStringText letters hint octets b → a ≡ b
  string_once None octets a b h k = h ∙ sym k
  string_once (Some hint) octets a b (inl h) (inl k) = hinted_once hint octets a b h k
  string_once (Some hint) octets a b (inl h) (inr k) = absurd (k.0 (h.shows.specs, h.shows.is_hint))
  string_once (Some hint) octets a b (inr h) (inl k) = absurd (h.0 (k.shows.specs, k.shows.is_hint))
  string_once (Some hint) octets a b (inr h) (inr k) = h.1 ∙ sym k.1

  either_once : (bits : Bool) (names : List NamedNumber) (hint : Option (List ℕ)) (octets a b : List ℕ)
      → MatchBool bits (IsBitsText letters names octets a) (IsStringText letters hint octets a)
      → MatchBool bits (IsBitsText letters names octets b) (IsStringText letters hint octets b) → a ≡ b
  either_once true names hint octets a b h k = bits_once letters names octets a b h k
  either_once false names hint octets a b h k = string_once hint octets a b h k

  octets_once : (syntax : Option ObjectSyntax) (octets a b : List ℕ) → IsOctetsText letters syntax octets a → IsOctetsText letters syntax octets b → a ≡ b
  octets_once syntax octets a b h k = grind (arith, common_steps, either_once)

  pub value_once : (names others : List ℕ → List ℕ) → ((o : List ℕ) → names o ≡ others o) → (syntax : Option ObjectSyntax) (value : Datum) (a b : List ℕ)
      → ShowsValue names letters syntax value a → ShowsValue others letters syntax value b → a ≡ b
  value_once names others same syntax (integer_value n) a b h k = grind (arith, common_steps, integer_once)
  value_once names others same syntax (octet_string octets) a b h k = octets_once syntax octets a b h k
  value_once names others same syntax (object_id name) a b h k = grind (arith, common_steps)
  value_once names others same syntax (gauge32 n) a b h k = grind (arith, common_steps, typed_once)
  value_once names others same syntax _ a b h k = h ∙ sym k

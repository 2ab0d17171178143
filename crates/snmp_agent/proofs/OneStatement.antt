-- A line contains at most one statement: nothing, an object prefix, or an instance with its value.
use Rattle.std.proofs.lemmas.Grind.{common_steps}
use Rattle.std.proofs.Common.{◌≡◌, ℕ, ℤ, neg_ℤ, ◌⊎◌, true, false, List, ◌++◌, length, Ok, sym, ◌∙◌, ap, subst, arith, codes, Some}
use Rattle.std.specs.Str.{all_ascii_digits}
use Rattle.hex.specs.Hex.{decode_of}
use Rattle.hex.proofs.HexLemmas.{decode_of-same}
use Rattle.snmp_oid.specs.Numeric.{IsNumericName}
use Rattle.snmp_wire.specs.Message.{Datum}
use Rattle.snmp_agent.specs.table.Form.{Statement, instance, States}
use Rattle.snmp_agent.specs.table.Format.{Format, IsNameIn, Means, Names, first_format, names_by, numeric_names, second_format}
use Rattle.snmp_agent.specs.table.Text.{IsDecimal, IsSignedDecimal, IsValueText}
use Rattle.snmp_agent.proofs.Statements.{blank_no_object, row_form, same_object, same_rows}

-- the line contains the statement `s`, and no other
abbrev pub StatesOnly : Format → List ℕ → Statement → Type 0
StatesOnly format line s = States format line s × ((t : Statement) → States format line t → t ≡ s)

no_minus : (text digits : List ℕ) (n : ℕ) → IsDecimal text n → text ≡ codes "-" ++ digits → ⊥
no_minus text digits n h e = let wrong : false ≡ true = subst (λ (t : List ℕ). all_ascii_digits t ≡ true) e h.digits in absurd (cc)

same_signed : (text : List ℕ) (z y : ℤ) → IsSignedDecimal text z → IsSignedDecimal text y → y ≡ z
same_signed text z y h e = grind (arith, common_steps, no_minus, neg_ℤ)

plain_or_hexadecimal : codes "4" ≡ codes "4x" → ⊥
plain_or_hexadecimal e = let wrong : 1 ≡ 2 = ap length e in omega (arith, wrong)

abbrev IsStringText : List ℕ → List ℕ → List ℕ → Type 0
IsStringText tag text octets = ((tag ≡ codes "4") × (text ≡ octets)) ⊎ ((tag ≡ codes "4x") × (decode_of text ≡ Ok octets))

same_string : (tag text a b : List ℕ) → IsStringText tag text a → IsStringText tag text b → b ≡ a
same_string tag text a b h e = grind (arith, common_steps, plain_or_hexadecimal, decode_of-same)

module _ (one_name : (text o p : List ℕ) → IsNumericName text o → IsNumericName text p → o ≡ p) where
  one_meant : (names : Names) (text o p : List ℕ) → Means names text o → Means names text p → o ≡ p
  one_meant numeric_names text o p h k = one_name text o p h.named k.named
  one_meant (names_by meaning) text o p h k = let same : Some o ≡ Some p = sym h.0 ∙ k.0 in cc

  -- a string is the name of at most one identifier
  name_once : (format : Format) (text o p : List ℕ) → IsNameIn format text o → IsNameIn format text p → o ≡ p
  name_once first_format text o p h k = one_name text o p h.named k.named
  name_once (second_format names) text o p h k = one_meant names text o p h.1 k.1

  -- after a tag, a string represents at most one value
  one_value : (format : Format) (tag text : List ℕ) (v w : Datum) → IsValueText format tag text v → IsValueText format tag text w → w ≡ v
  one_value format tag text v w h k = grind (arith, common_steps, same_signed, same_string, name_once, decode_of-same)

  one_statement : (format : Format) (line : List ℕ) (s t : Statement) → States format line s → States format line t → t ≡ s
  one_statement format line (instance p) (instance q) h k =
      let same = same_rows format line h.name h.tag h.text k.name k.tag k.text (row_form format line p h) (row_form format line q k) in
      let name : q.name ≡ p.name = name_once format h.name q.name p.name (rw (← same.0) k.named) h.named in
      let value : q.value ≡ p.value = one_value format h.tag h.text p.value q.value h.valued (rw (← same.1, ← same.2) k.valued) in
      λ i. instance (record { name = name i; value = value i })
  one_statement format line _ _ h k = grind (arith, common_steps, blank_no_object, row_form, name_once, same_object)

  pub states_only : (format : Format) (line : List ℕ) (s : Statement) → States format line s → StatesOnly format line s
  states_only format line s h = (h, λ t. one_statement format line s t h)

-- If no object has a syntax, then `RowText` defines the line of each row (`lines_are`).
use Rattle.std.proofs.Common.{arith, ◌≡◌, refl, ap, ◌∙◌, ℕ, Bool, true, false, List, [], ◌∷◌, ◌++◌, None, append-nil}
use Rattle.std.proofs.{lemmas.Grind.common_steps, lemmas.Bool.and_parts}
use Rattle.std.specs.{Prelude.codes, Prelude.if◌then◌else◌, Prelude.decimal, Fmt.signed_decimal, List.flat_map, List.list_all}
use Rattle.snmp_oid.specs.Numeric.{numeric_text}
use Rattle.snmp_wire.specs.Message.{Datum, VarBind, integer_value, octet_string, object_id, counter32, gauge32, time_ticks, counter64}
use Rattle.smi_value.specs.{declared.letters.Letters.Letters, Letters.AreLetters, Pieces.printable_or_dot, Pieces.quoted, Value.ShowsValue}
use Rattle.smi_value.specs.declared.letters.NameForm.TheVariants as names
use Rattle.smi_value.specs.declared.letters.TypeForm.TheVariants as types
use Rattle.smi_value.specs.declared.letters.StringForm.TheVariants as strings
use Rattle.smi_value.specs.Pieces as pieces
use Rattle.smi_value.specs.Texts.{escape_octet, hexadecimal_text, is_printable}
use Rattle.smi_show.specs.Line.{IsLine}
use Rattle.snmp_tools.specs.{Lines.AreLines, RowText.row_line, RowText.string_text, RowText.value_text}
use Rattle.smi_tree.specs.{Tree.Contents}
use Rattle.smi_tree.specs.{Naming.nearest_syntax}

-- what `-On` says: names are shown in numbers, and values as without letters
abbrev pub numeric_letters : Letters
numeric_letters = record {
  names = names.Numeric;
  types = types.Typed;
  strings = strings.Plain;
  value_alone = false;
  numeric_enumerations = false;
  raw_ticks = false;
  numeric_index = false;
  no_units = false;
}

pub numeric_are : AreLetters (codes "n") numeric_letters
numeric_are = record { n_f_s_S = refl; q_Q = refl; x_a = refl; v = refl; e = refl; t = refl; b = refl; U = refl }

-- no object has a syntax
abbrev pub HasNoSyntax : Contents → Type 0
HasNoSyntax mib = (o : List ℕ) → nearest_syntax mib o ≡ None

-- ---- strings

-- if each octet is printable, then putting a dot for each octet that isn't printable changes nothing
without_dots : (xs : List ℕ) → list_all is_printable xs ≡ true → flat_map (λ x. escape_octet (printable_or_dot x)) xs ≡ flat_map escape_octet xs
without_dots [] e = refl
without_dots (x ∷ xs) e = grind (arith, common_steps, and_parts, without_dots xs)

text_is : (xs : List ℕ) (b : Bool) → list_all is_printable xs ≡ b
    → (if b then codes "STRING: " ++ quoted xs else codes "Hex-STRING: " ++ hexadecimal_text xs)
    ≡ (if b then codes "STRING: \"" ++ flat_map escape_octet xs ++ codes "\"" else codes "Hex-STRING: " ++ hexadecimal_text xs)
text_is xs true e = ap (λ (t : List ℕ). codes "STRING: \"" ++ t ++ codes "\"") (without_dots xs e)
text_is xs false e = refl

string_is : (xs : List ℕ) → pieces.string_text numeric_letters xs ≡ string_text xs
string_is [] = refl
string_is (x ∷ xs) = text_is (x ∷ xs) (list_all is_printable (x ∷ xs)) refl

-- ---- values

-- if `text` is `word` and then `shown`, and `shown` is `number`, then `text` is `word` and then `number`
number_is : (word shown number text : List ℕ) → shown ≡ number → text ≡ word ++ shown ++ [] → text ≡ word ++ number
number_is word shown number text e whole = whole ∙ append-nil (word ++ shown) ∙ ap (λ (t : List ℕ). word ++ t) e

value_is : (names : List ℕ → List ℕ) → ((o : List ℕ) → names o ≡ numeric_text o) → (value : Datum) (text : List ℕ)
    → ShowsValue names numeric_letters None value text → text ≡ value_text value
value_is names same (integer_value n) text shows = number_is (codes "INTEGER: ") shows.shown (signed_decimal n) text shows.is_number shows.whole
value_is names same (octet_string octets) text shows = shows ∙ string_is octets
value_is names same (object_id name) text shows = shows ∙ ap (λ (t : List ℕ). codes "OID: " ++ t) (same name)
value_is names same (counter32 n) text shows = shows ∙ append-nil (codes "Counter32: " ++ decimal n)
value_is names same (gauge32 n) text shows = number_is (codes "Gauge32: ") shows.shown (decimal n) text shows.is_number shows.whole
value_is names same (time_ticks n) text shows = shows ∙ append-nil (value_text (time_ticks n))
value_is names same (counter64 n) text shows = shows ∙ append-nil (codes "Counter64: " ++ decimal n)
value_is names same value text shows = shows

-- ---- lines

-- if no object has a syntax, the line of a row by the letters of `-On` has its name in numbers and the text of its value
line_is : (mib : Contents) → HasNoSyntax mib → (row : VarBind) (line : List ℕ) → IsLine mib numeric_letters row.name row.value line → line ≡ row_line row
line_is mib none row line is = grind (arith, common_steps, value_is)

pub lines_are : (mib : Contents) → HasNoSyntax mib → (rows : List VarBind) (text : List ℕ) → AreLines mib numeric_letters rows text
    → text ≡ flat_map row_line rows
lines_are mib none [] text are = are
lines_are mib none (row ∷ more) text (line, rest, is, are, whole) =
    whole ∙ ap (λ (t : List ℕ). t ++ rest) (line_is mib none row line is)
    ∙ ap (λ (t : List ℕ). row_line row ++ t) (lines_are mib none more rest are)

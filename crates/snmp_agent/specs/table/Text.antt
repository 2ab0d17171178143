-- The text of a table, in a format of this project's own. Each line is empty, a comment, an object
-- prefix (`object NAME`), or a row (`NAME|TAG|VALUE`). If the first line is `#snmptab 2`, the text
-- has the second format. Lines end with LF, with CR LF or at the end of the text, as the lines of
-- Rust's `str::lines` do: a CR that isn't followed by LF belongs to its line.
use Rattle.std.specs.Prelude.{◌≡◌, ◌≢◌, ℕ, ℤ, pos, ◌^◌, ◌<◌, ◌⊎◌, true, List, [], ◌∷◌, ◌++◌, length}
use Rattle.std.specs.Prelude.{codes, All, AllPairs, Contains, Ok, FitsSigned, neg_ℤ}
use Rattle.std.specs.{Int.w32, Str.all_ascii_digits}
use Rattle.hex.specs.Hex.{decode_of}
use Rattle.snmp_oid.specs.{Identifier.IsWire, Numeric.decimal_value, Numeric.IsDotted}
use Rattle.snmp_wire.specs.Message.{Datum, VarBind}
use Rattle.snmp_wire.specs.Message.Datum.{integer_value, octet_string, object_id, ip_address}
use Rattle.snmp_wire.specs.Message.Datum.{counter32, gauge32, time_ticks, opaque_octets, counter64}
use Rattle.snmp_agent.specs.table.Format.{Format, EndsAtBar, IsNameIn, bar}
use Rattle.snmp_agent.specs.table.Table.{IsInstanceName, IsTableString}

-- ---- values

-- `text` is one or more decimal digits of the number `n`, perhaps with leading zeros
pub record IsDecimal (text : List ℕ) (n : ℕ) : Type 0 where
  pub some : text ≢ []
  pub digits : all_ascii_digits text ≡ true
  pub value : decimal_value text ≡ n

-- `text` is the number `z` in decimal digits, perhaps with leading zeros, perhaps after a minus
-- sign
abbrev pub IsSignedDecimal : List ℕ → ℤ → Type 0
IsSignedDecimal text z =
    ((n : ℕ) × IsDecimal text n × (z ≡ pos n)) ⊎ ((digits : List ℕ) × (n : ℕ)
    × (text ≡ codes "-" ++ digits) × IsDecimal digits n × (z ≡ neg_ℤ (pos n)))

-- `text` is four decimal numbers, separated by dots; `octets` are these numbers, at most 255 each
pub record IsAddressText (text octets : List ℕ) : Type 0 where
  pub dotted : IsDotted text octets
  pub four : length octets ≡ 4
  pub small : All (λ octet. octet < 256) octets

-- `text` represents this value on a row's line with the tag `tag`. A tag is the decimal number of
-- the value's tag in BER; an `x` after the number says that `text` is hexadecimal digits.
abbrev pub IsValueText : Format → (tag text : List ℕ) → Datum → Type 0
IsValueText format tag text (integer_value z) = (tag ≡ codes "2") × IsSignedDecimal text z
    × FitsSigned w32 z
IsValueText format tag text (octet_string octets) = (((tag ≡ codes "4")
    × (text ≡ octets)) ⊎ ((tag ≡ codes "4x") × (decode_of text ≡ Ok octets))) × IsTableString octets
IsValueText format tag text (object_id o) = (tag ≡ codes "6") × IsNameIn format text o × IsWire o
IsValueText format tag text (ip_address octets) = (tag ≡ codes "64") × IsAddressText text octets
IsValueText format tag text (counter32 n) = (tag ≡ codes "65") × IsDecimal text n × (n < 2 ^ 32)
IsValueText format tag text (gauge32 n) = (tag ≡ codes "66") × IsDecimal text n × (n < 2 ^ 32)
IsValueText format tag text (time_ticks n) = (tag ≡ codes "67") × IsDecimal text n × (n < 2 ^ 32)
IsValueText format tag text (opaque_octets octets) = (tag ≡ codes "68x")
    × (decode_of text ≡ Ok octets) × IsTableString octets
IsValueText format tag text (counter64 n) = (tag ≡ codes "70") × IsDecimal text n × (n < 2 ^ 64)
IsValueText format tag text _ = ⊥

-- ---- lines

-- the line is empty or a comment
abbrev pub IsBlank : List ℕ → Type 0
IsBlank line = (line ≡ []) ⊎ ((comment : List ℕ) × (line ≡ codes "#" ++ comment))

-- the line contains this object prefix, which has at least one number
abbrev pub IsPrefixLine : Format → (line object : List ℕ) → Type 0
IsPrefixLine format line object =
    (text : List ℕ) × (line ≡ codes "object " ++ text) × IsNameIn format text object
    × (object ≢ [])

-- the line contains this row: it isn't blank, doesn't begin with `object `, and has the name of an
-- instance, a tag, and the text of a value, which may have more bars
pub record IsRowLine (format : Format) (line : List ℕ) (row : VarBind) : Type 0 where
  pub not_blank : IsBlank line → ⊥
  pub no_object : (object : List ℕ) → line ≢ codes "object " ++ object
  pub name : List ℕ
  pub tag : List ℕ
  pub text : List ℕ
  pub parts : line ≡ name ++ bar ∷ tag ++ bar ∷ text
  pub name_ends : EndsAtBar format name
  pub tag_ends : All (λ octet. octet ≢ bar) tag
  pub named : IsNameIn format name row.name
  pub instance_name : IsInstanceName row.name
  pub valued : IsValueText format tag text row.value

-- the line is blank, or contains an object prefix or a row
pub data IsGoodLine (format : Format) (line : List ℕ) : Type 0 where
  a_blank : IsBlank line → IsGoodLine format line
  a_prefix : (object : List ℕ) → IsPrefixLine format line object → IsGoodLine format line
  a_row : (row : VarBind) → IsRowLine format line row → IsGoodLine format line

-- ---- tables

-- one of the lines contains this row
abbrev pub HasRow : Format → List (List ℕ) → VarBind → Type 0
HasRow format lines row = (line : List ℕ) × Contains lines line × IsRowLine format line row

-- one of the lines contains this object prefix
abbrev pub HasPrefix : Format → List (List ℕ) → List ℕ → Type 0
HasPrefix format lines object =
    (line : List ℕ) × Contains lines line × IsPrefixLine format line object

-- if both lines contain rows, the rows have different names
abbrev pub DifferInName : Format → (line later : List ℕ) → Type 0
DifferInName format line later = (row other : VarBind) → IsRowLine format line row
    → IsRowLine format later other → row.name ≢ other.name

-- the lines define a table: each is good, and no two are rows of the same name
pub record AreTable (format : Format) (lines : List (List ℕ)) : Type 0 where
  pub each : All (IsGoodLine format) lines
  pub differ : AllPairs (DifferInName format) lines

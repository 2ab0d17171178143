-- The two formats of a table's text. They differ in how names are read and in what ends the name
-- of a row.
use Rattle.std.specs.Prelude.{◌≡◌, ◌≢◌, ◌≤◌, ℕ, List, ◌∷◌, ◌++◌, length, codes, All, Option, Some}
use Rattle.std.specs.Prelude.{IfSome, option_map}
use Rattle.snmp_io.specs.Quotes.{HasNoneOutside, IsClosed, IsUnquotedPrefix}
use Rattle.snmp_oid.specs.{Identifier.IsIdentifier, Numeric.IsNumericName}
use Rattle.snmp_agent.specs.table.Exact.{IsOnly}

-- the octet of `|`
abbrev pub bar : ℕ
bar = 124

-- `text` is a numeric name of `o`, which has at most 128 numbers
pub record IsName (text o : List ℕ) : Type 0 where
  pub named : IsNumericName text o
  pub short : length o ≤ 128

-- the texts that are names: the numeric names, or the texts for which `meaning`, which the caller
-- passes, returns an identifier
pub data Names : Type 0 where
  numeric_names : Names
  names_by : (meaning : List ℕ → Option (List ℕ)) → Names

abbrev pub Means : Names → (text o : List ℕ) → Type 0
Means numeric_names text o = IsName text o
Means (names_by meaning) text o = (meaning text ≡ Some o) × IsIdentifier o

-- a format of a table's text: names are numeric in the first; in the second, its argument says
-- which texts are names
pub data Format : Type 0 where
  first_format : Format
  second_format : Names → Format

-- the first line is the mark of the second format
abbrev pub IsMarked : List (List ℕ) → Type 0
IsMarked lines = (more : List (List ℕ)) × (lines ≡ codes "#snmptab 2" ∷ more)

-- `lines` have this format: the second, with `names`, if the first line is the mark of the second
-- format, and otherwise the first
abbrev pub IsFormat : Names → (lines : List (List ℕ)) → Format → Type 0
IsFormat names lines first_format = IsMarked lines → ⊥
IsFormat names lines (second_format returned) = IsMarked lines × (returned ≡ names)

-- `text` is a name of the identifier `o` in this format; in the second format, `text` also has no
-- bar outside quotes
abbrev pub IsNameIn : Format → (text o : List ℕ) → Type 0
IsNameIn first_format text o = IsName text o
IsNameIn (second_format names) text o = HasNoneOutside bar text × Means names text o

-- a bar directly after `name` would end a row's name: in the first format, `name` has no bar; in
-- the second, `name` has no bar outside quotes, and each quote in it is closed
abbrev pub EndsAtBar : Format → (name : List ℕ) → Type 0
EndsAtBar first_format name = All (λ octet. octet ≢ bar) name
EndsAtBar (second_format names) name = IsClosed name × HasNoneOutside bar name

-- `found` is what a reader of names returns for the prefix of `text` before the first bar outside
-- quotes, or for all of `text` if it has no such bar: the identifier that this prefix names and the
-- length of the prefix, or `None` if the prefix isn't a name
pub record IsLeadingName (names : Names) (text : List ℕ) (found : Option (List ℕ
    × ℕ)) : Type 0 where
  pub prefix : List ℕ
  pub is_prefix : IsUnquotedPrefix bar text prefix
  pub named : IsOnly (Means names prefix) (option_map (λ f. f.0) found)
  pub size : IfSome found (λ f. f.1 ≡ length prefix)

-- ---- for private functions

-- no bar on the line ends a name
abbrev pub HasNoEnd : Format → (line : List ℕ) → Type 0
HasNoEnd format line = (name rest : List ℕ) → line ≡ name ++ bar ∷ rest → EndsAtBar format name → ⊥

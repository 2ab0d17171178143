-- The forms of a line, and what can be wrong with one line, whatever the other lines are.
use Rattle.std.specs.Prelude.{◌≡◌, ◌≢◌, ◌⊎◌, List, [], ◌∷◌, ◌++◌, ℕ, codes, All, Contains}
use Rattle.snmp_wire.specs.Message.{Datum, VarBind}
use Rattle.snmp_agent.specs.table.Table.{IsInstanceName}
use Rattle.snmp_agent.specs.table.Format.{Format, EndsAtBar, IsNameIn, bar}
use Rattle.snmp_agent.specs.table.Text.{IsBlank, IsPrefixLine, IsRowLine, IsValueText}

-- ---- forms

abbrev pub IsTag : List ℕ → Type 0
IsTag tag = Contains (codes "2" ∷ codes "4" ∷ codes "4x" ∷ codes "6" ∷ codes "64" ∷ codes "65" ∷
    codes "66" ∷ codes "67" ∷ codes "68x" ∷ codes "70" ∷ []) tag

-- `line` has the form of a row's line: `name`, a bar, `tag`, a bar and `text`. `tag` is a known
-- tag, and the first of these bars is the one that ends the name (`EndsAtBar`). The line isn't
-- blank, and doesn't begin with `object `.
pub record IsRowForm (format : Format) (line name tag text : List ℕ) : Type 0 where
  pub not_blank : IsBlank line → ⊥
  pub no_object : (object : List ℕ) → line ≢ codes "object " ++ object
  pub parts : line ≡ name ++ bar ∷ tag ++ bar ∷ text
  pub name_ends : EndsAtBar format name
  pub tag_ends : All (λ octet. octet ≢ bar) tag
  pub known : IsTag tag

-- `text` is a name of `o`, and `o` can be an object prefix: `o` has at least one number
abbrev pub IsObjectText : Format → (text o : List ℕ) → Type 0
IsObjectText format text o = IsNameIn format text o × (o ≢ [])

abbrev pub IsInstanceText : Format → (text o : List ℕ) → Type 0
IsInstanceText format text o = IsNameIn format text o × IsInstanceName o

-- ---- faults of a line by itself

-- the line isn't blank, doesn't begin with `object `, and doesn't have the form of a row's line
pub record IsBadLine (format : Format) (line : List ℕ) : Type 0 where
  pub not_blank : IsBlank line → ⊥
  pub no_object : (object : List ℕ) → line ≢ codes "object " ++ object
  pub no_row : (name tag text : List ℕ) → IsRowForm format line name tag text → ⊥

-- the line is `object ` and a text that isn't a name of an object prefix; or the line has the form
-- of a row's line, but the name on it isn't a name of an instance
abbrev pub IsBadName : Format → List ℕ → Type 0
IsBadName format line =
    ((text : List ℕ) × (line ≡ codes "object " ++ text)
    × ((o : List ℕ) → IsObjectText format text o → ⊥))
    ⊎ ((name : List ℕ) × (tag : List ℕ) × (text : List ℕ) × IsRowForm format line name tag text
    × ((o : List ℕ) → IsInstanceText format name o → ⊥))

-- the line has the form of a row's line, and the name on it is a name of an instance, but the text
-- after the tag doesn't represent a value of the tag
abbrev pub IsBadValue : Format → List ℕ → Type 0
IsBadValue format line =
    (name : List ℕ) × (tag : List ℕ) × (text : List ℕ) × IsRowForm format line name tag text
    × ((o : List ℕ) × IsInstanceText format name o) × ((value : Datum) → IsValueText format tag
    text value → ⊥)

-- ---- for private functions

-- what a line contains: nothing, an object prefix, or an instance with its value
pub data Statement : Type 0 where
  nothing : Statement
  object_prefix : List ℕ → Statement
  instance : VarBind → Statement

abbrev pub States : Format → List ℕ → Statement → Type 0
States format line nothing = IsBlank line
States format line (object_prefix object) = IsPrefixLine format line object
States format line (instance row) = IsRowLine format line row

-- The table that lines define, and the first faulty line.
use Rattle.std.specs.Prelude.{◌≡◌, ℕ, ◌+◌, ◌↔◌, true, List, ◌∷◌, ◌++◌, length}
use Rattle.std.specs.FinSet.{contains}
use Rattle.snmp_wire.specs.Message.{VarBind}
use Rattle.snmp_agent.specs.declared.table.error.TableError.{TableError}
use Rattle.snmp_agent.specs.declared.table.error.TableError.TheVariants as error
use Rattle.snmp_agent.specs.table.Form.{IsBadLine, IsBadName, IsBadValue}
use Rattle.snmp_agent.specs.table.Format.{Format, IsFormat, Names}
use Rattle.snmp_agent.specs.table.Table.{MibView, IsRow}
use Rattle.snmp_agent.specs.table.Text.{AreTable, HasPrefix, HasRow, IsRowLine}

-- `view` is the table that lines of this format define: it has the instances and object prefixes
-- of the lines, and no others
pub record IsTableIn (format : Format) (lines : List (List ℕ)) (view : MibView) : Type 0 where
  pub good : AreTable format lines
  pub rows : (row : VarBind) → IsRow view row ↔ HasRow format lines row
  pub objects : (object : List ℕ)
      → (contains view.objects object ≡ true) ↔ HasPrefix format lines object

-- `line` is the one of `lines` with this number, counted from 1, and the lines before it, `prefix`,
-- define a table
pub record IsAfterGoodLines (format : Format) (lines : List (List ℕ)) (number : ℕ)
    (prefix : List (List ℕ)) (line : List ℕ) : Type 0 where
  pub back : List (List ℕ)
  pub parts : lines ≡ prefix ++ line ∷ back
  pub line_number : number ≡ length prefix + 1
  pub good : AreTable format prefix

-- `line` contains a row, and one of the earlier lines, `prefix`, contains a row of the same name
abbrev pub IsDouble : Format → List (List ℕ) → List ℕ → Type 0
IsDouble format prefix line = (p : VarBind) × (q : VarBind) × IsRowLine format line p
    × HasRow format prefix q × (q.name ≡ p.name)

-- the error says what is wrong with `line`, which comes after the lines `prefix`; it isn't `Memory`
abbrev pub IsWrong : Format → (prefix : List (List ℕ)) → (line : List ℕ) → TableError → Type 0
IsWrong format prefix line (error.BadLine number) = IsBadLine format line
IsWrong format prefix line (error.BadName number) = IsBadName format line
IsWrong format prefix line (error.BadValue number) = IsBadValue format line
IsWrong format prefix line (error.Double number) = IsDouble format prefix line
IsWrong format prefix line error.Memory = ⊥

-- the number of the faulty line; 0 if memory ran out, which isn't a fault of a line
abbrev pub number_of : TableError → ℕ
number_of (error.BadLine number) = number
number_of (error.BadName number) = number
number_of (error.BadValue number) = number
number_of (error.Double number) = number
number_of error.Memory = 0

-- the error says why `lines` of this format don't define a table: what is wrong with the first
-- faulty line; `Memory` says nothing of the lines
abbrev pub IsFirstFaultIn : Format → List (List ℕ) → TableError → Type 0
IsFirstFaultIn format lines error.Memory = Unit {0}
IsFirstFaultIn format lines fault = (prefix : List (List ℕ)) × (line : List ℕ)
    × IsAfterGoodLines format lines (number_of fault) prefix line × IsWrong format prefix line fault

-- ---- tables whose names a caller looks up

-- the lines define a table, in the format that they have
abbrev pub AreTableBy : Names → (lines : List (List ℕ)) → Type 0
AreTableBy names lines = (format : Format) × IsFormat names lines format × AreTable format lines

-- `view` is the table that the lines define, in the format that they have
abbrev pub IsTableOf : Names → (lines : List (List ℕ)) → MibView → Type 0
IsTableOf names lines view =
    (format : Format) × IsFormat names lines format × IsTableIn format lines view

-- the error says why the lines, in the format that they have, don't define a table; `Memory` says
-- nothing of them
abbrev pub IsFirstFault : Names → (lines : List (List ℕ)) → TableError → Type 0
IsFirstFault names lines error =
    (format : Format) × IsFormat names lines format × IsFirstFaultIn format lines error

-- What the steps of reading a line find, for clauses of private functions.
use Rattle.std.specs.Prelude.{◌≡◌, ◌++◌, ℕ, List, codes, Option, Some, None, Result, Ok, Err}
use Rattle.snmp_wire.specs.Message.{Datum}
use Rattle.snmp_agent.specs.{declared.table.line.Line.Line, declared.table.line.Form.Form}
use Rattle.snmp_agent.specs.{private.table.Row.tag_text, table.Format.Format}
use Rattle.snmp_agent.specs.declared.table.line.Line.TheVariants as line
use Rattle.snmp_agent.specs.declared.table.line.LineFault.{LineFault}
use Rattle.snmp_agent.specs.declared.table.line.LineFault.TheVariants as fault
use Rattle.snmp_agent.specs.declared.table.line.Form.TheVariants as form
use Rattle.snmp_agent.specs.table.Form.{Statement, nothing, object_prefix, instance, IsRowForm}
use Rattle.snmp_agent.specs.table.Form.{IsObjectText, IsInstanceText, IsBadLine, IsBadName}
use Rattle.snmp_agent.specs.table.Form.{IsBadValue}
use Rattle.snmp_agent.specs.table.Text.{IsBlank, IsValueText}

abbrev pub statement_of : Line → Statement
statement_of line.Nothing = nothing
statement_of (line.Object numbers) = object_prefix numbers.items
statement_of (line.Instance row) = instance row

abbrev pub IsForm : Format → List ℕ → Option Form → Type 0
IsForm format l None = IsBadLine format l
IsForm format l (Some form.Blank) = IsBlank l
IsForm format l (Some (form.Object text)) = l ≡ codes "object " ++ text.now
IsForm format l (Some (form.Row name tag text)) =
    IsRowForm format l name.now (tag_text tag) text.now

-- the result is the object prefix that `text` names, or the fault `Name` if `text` names none, or
-- the fault `Memory`, which says nothing of `text`
abbrev pub IsObjectRead : Format → List ℕ → Result Line LineFault → Type 0
IsObjectRead format text (Ok (line.Object numbers)) = IsObjectText format text numbers.items
IsObjectRead format text (Ok line.Nothing) = ⊥
IsObjectRead format text (Ok (line.Instance row)) = ⊥
IsObjectRead format text (Err fault.Line) = ⊥
IsObjectRead format text (Err fault.Name) = (o : List ℕ) → IsObjectText format text o → ⊥
IsObjectRead format text (Err fault.Value) = ⊥
IsObjectRead format text (Err fault.Memory) = Unit {0}

-- the result is the instance that a line with this name, tag and text defines, or the fault `Name`
-- or `Value`, which says what is wrong with the line. The fault `Memory` says nothing of the line.
abbrev pub IsInstanceRead : Format → (name tag text : List ℕ) → Result Line LineFault → Type 0
IsInstanceRead format name tag text (Ok (line.Instance row)) =
    IsInstanceText format name row.name × IsValueText format tag text row.value
IsInstanceRead format name tag text (Ok line.Nothing) = ⊥
IsInstanceRead format name tag text (Ok (line.Object numbers)) = ⊥
IsInstanceRead format name tag text (Err fault.Line) = ⊥
IsInstanceRead format name tag text (Err fault.Name) =
    (o : List ℕ) → IsInstanceText format name o → ⊥
IsInstanceRead format name tag text (Err fault.Value) =
    ((o : List ℕ) × IsInstanceText format name o)
    × ((v : Datum) → IsValueText format tag text v → ⊥)
IsInstanceRead format name tag text (Err fault.Memory) = Unit {0}

-- the fault says what is wrong with the line, whatever the other lines are; `Memory` says nothing
-- of the line
abbrev pub IsLineFault : Format → List ℕ → LineFault → Type 0
IsLineFault format l fault.Line = IsBadLine format l
IsLineFault format l fault.Name = IsBadName format l
IsLineFault format l fault.Value = IsBadValue format l
IsLineFault format l fault.Memory = Unit {0}

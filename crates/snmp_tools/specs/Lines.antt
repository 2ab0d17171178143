-- What a walk or a Get writes on an output.
use Rattle.std.specs.Prelude.{◌≡◌, ◌⊎◌, ◌++◌, ℕ, Bool, List, [], ◌∷◌, Result, Ok, Err, codes}
use Rattle.std.specs.Prelude.{Option, Some, None, decimal, if◌then◌else◌}
use Rattle.smi_value.specs.declared.letters.Letters.{Letters}
use Rattle.smi_show.specs.Line.{IsLine}
use Rattle.snmp_wire.specs.Message.{VarBind}
use Rattle.snmp_walk.specs.{declared.end.SinkFault.SinkFault, declared.end.WalkEnd.WalkEnd}
use Rattle.snmp_walk.specs.declared.end.SinkFault.TheVariants as fault
use Rattle.snmp_walk.specs.declared.end.WalkEnd.TheVariants as ending
use Rattle.snmp_io.specs.Output.{FailsWithin, Stream, stream_after}
use Rattle.snmp_tools.specs.{FaultText.Fault, FaultText.no_output, FaultText.out_of_memory}
use Rattle.smi_tree.specs.{Tree.Contents}

-- `text` is the lines of the bindings by the letters of -O, one after the other
abbrev pub AreLines : Contents → Letters → List VarBind → List ℕ → Type 0
AreLines mib letters [] text = text ≡ []
AreLines mib letters (binding ∷ more) text =
    (line : List ℕ) × (rest : List ℕ) × IsLine mib letters binding.name binding.value line
    × AreLines mib letters more rest × (text ≡ line ++ rest)

-- The lines of the rows were written whole. If the run ended because the output failed, a prefix
-- of the line of the refused row, if there is one, was written too.
abbrev pub IsPrintedUpTo : Contents → Letters → Stream → (rows refused : List VarBind) → WalkEnd
    → Stream → Type 0
IsPrintedUpTo mib letters before rows refused (ending.Sink fault.Output) after =
    (text : List ℕ) × (line : List ℕ) × AreLines mib letters rows text
    × AreLines mib letters refused line × FailsWithin (stream_after before text) line after
IsPrintedUpTo mib letters before rows refused _ after =
    (text : List ℕ) × AreLines mib letters rows text × (after ≡ stream_after before text)

-- printing `text` fails for the reason `fault`: memory ran out and nothing is printed, or a write
-- failed and a prefix of `text` is printed
abbrev pub StopsAtText : (before : Stream) → (text : List ℕ) → (after : Stream) → Option Fault
    → Type 0
StopsAtText before text after fault =
    ((after ≡ before) × (fault ≡ Some out_of_memory))
    ⊎ (FailsWithin before text after × (fault ≡ Some no_output))

-- `text` is printed, or printing it fails for the reason `fault`
abbrev pub IsTextPrinted : (before : Stream) → (text : List ℕ) → (after : Stream) → Option Fault
    → Type 0
IsTextPrinted before text after fault =
    ((after ≡ stream_after before text) × (fault ≡ None)) ⊎ StopsAtText before text after fault

-- the line of -Cp, which says how many bindings were found
abbrev pub count_line : ℕ → List ℕ
count_line count = codes "Variables found: " ++ decimal count ++ codes "\n"

-- the line of -Cp if it is asked for (`counts`), otherwise nothing
abbrev pub count_text : Bool → ℕ → List ℕ
count_text counts count = if counts then count_line count else []

-- ---- for private functions

-- what the output took of the line of `binding`, by the result: all of it (`Ok`); a prefix (`Err
-- Output`: a write failed); nothing (`Err Memory`: there was no memory for the line)
abbrev pub TakesLine : Contents → Letters → Stream → VarBind → Result (Unit {0}) SinkFault → Stream
    → Type 0
TakesLine mib letters before binding (Ok _) after = (line : List ℕ)
    × IsLine mib letters binding.name binding.value line × (after ≡ stream_after before line)
TakesLine mib letters before binding (Err fault.Output) after = (line : List ℕ)
    × IsLine mib letters binding.name binding.value line × FailsWithin before line after
TakesLine mib letters before binding (Err fault.Memory) after = after ≡ before

-- the lines of `rows` were printed until the run ended with `end`; `Facts` holds of `rows` and of
-- `refused`, which has the row that the sink refused, if there is one
pub record ArePrinted (mib : Contents) (letters : Letters) (before after : Stream) (end : WalkEnd)
    (Facts : (rows refused : List VarBind) → Type 0) : Type 0 where
  pub rows : List VarBind
  pub refused : List VarBind
  pub lines : IsPrintedUpTo mib letters before rows refused end after
  pub facts : Facts rows refused

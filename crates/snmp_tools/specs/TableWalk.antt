-- What `snmpwalk -On table:PATH ROOT` prints, without module files and with the root in numbers:
-- the rows of the table file that are below the root, in the order of their names. If there are
-- none, it prints what a Get of the root returns. This is the page to begin at.
--
-- `table.Text` (snmp_agent) says what the lines of the file define, `RowText` what the line of a
-- row is, and `Output` (snmp_io) what an output took.
use Rattle.std.specs.Prelude.{◌≡◌, ◌≢◌, ◌⊎◌, ◌↔◌, ◌++◌, ◌≤◌, ℕ, List, [], ◌∷◌, length, codes}
use Rattle.std.specs.Prelude.{AllPairs, Contains}
use Rattle.std.specs.{List.flat_map, Str.Lines.lines}
use Rattle.snmp_oid.specs.Identifier.{IsBelow, IsIdentifier, IsWire, Precedes}
use Rattle.snmp_oid.specs.Numeric.{numeric_text}
use Rattle.snmp_wire.specs.Message.{VarBind, no_such_object, no_such_instance}
use Rattle.snmp_agent.specs.table.Format.{IsMarked, first_format}
use Rattle.snmp_agent.specs.table.Text.{AreTable, HasPrefix, HasRow}
use Rattle.snmp_walk.specs.Room.{IsShort}
use Rattle.snmp_io.specs.{Count.HasIncreased, Files.Holdings, Files.Holds}
use Rattle.snmp_io.specs.Output.{IsWritten, Stream, TakesPrefix, stream_after}
use Rattle.snmp_tools.specs.RowText.{row_line}

-- ---- what is asked for

-- the arguments of the command line; the first is the program's name
abbrev pub table_walk : (path root : List ℕ) → List (List ℕ)
table_walk path root =
    codes "snmp" ∷ codes "snmpwalk" ∷ codes "-On" ∷ (codes "table:" ++ path) ∷ numeric_text root
    ∷ []

-- `path` isn't empty, and the file there is known to hold `text`. The lines of `text` define a
-- table, and don't begin with `#snmptab 2`, the mark of the second format of table files. `root`
-- is an identifier that can be sent: it has at least two numbers, the first is from 0 to 2, and
-- after 0 or 1 the second is below 40.
pub record HoldsTableFile (files : Holdings) (path root text : List ℕ) : Type 0 where
  pub named : path ≢ []
  pub held : Holds files path text
  pub unmarked : IsMarked (lines text) → ⊥
  pub table : AreTable first_format (lines text)
  pub identifier : IsIdentifier root
  pub sendable : IsWire root

-- ---- what is below the root

-- `rows` are all rows in `lines` that are below the root, and no others, by increasing names
pub record AreRowsBelow (lines : List (List ℕ)) (root : List ℕ) (rows : List VarBind) : Type 0 where
  pub ordered : AllPairs (λ row later. Precedes row.name later.name) rows
  pub exact : (row : VarBind)
      → Contains rows row ↔ (HasRow first_format lines row × IsBelow row.name root)

-- `got` is what a Get of the name `o` returns (RFC 3416, section 4.2.1): the row of that name. If
-- no row has that name, it is noSuchInstance if `o` begins with an object prefix in a line of the
-- file (`HasPrefix`), otherwise noSuchObject.
pub data IsGot (lines : List (List ℕ)) (o : List ℕ) (got : VarBind) : Type 0 where
  variable : got.name ≡ o → HasRow first_format lines got → IsGot lines o got
  unknown_object : ((row : VarBind) → HasRow first_format lines row → row.name ≢ o)
      → ((object rest : List ℕ) → HasPrefix first_format lines object → o ≢ object ++ rest)
      → got ≡ record { name = o; value = no_such_object } → IsGot lines o got
  unknown_instance : ((row : VarBind) → HasRow first_format lines row → row.name ≢ o)
      → (object rest : List ℕ) → HasPrefix first_format lines object → o ≡ object ++ rest
      → got ≡ record { name = o; value = no_such_instance } → IsGot lines o got

-- `rows` are the rows below the root or, if there are none, what a Get of the root returns
pub data AreWalked (lines : List (List ℕ)) (root : List ℕ) (rows : List VarBind) : Type 0 where
  below : rows ≢ [] → AreRowsBelow lines root rows → AreWalked lines root rows
  none_below : (got : VarBind) → AreRowsBelow lines root [] → IsGot lines root got → rows ≡ got ∷ []
      → AreWalked lines root rows

-- ---- what is printed

-- a prefix of the lines of the rows is printed; at status 0 all of them are
pub record PrintsRows (lines : List (List ℕ)) (root : List ℕ)
    (before after err_before err_after : Stream) (status : ℕ) : Type 0 where
  pub rows : List VarBind
  pub are_walked : AreWalked lines root rows
  -- whatever fails, a prefix of their lines is written, and nothing else
  pub prefix : TakesPrefix before (flat_map row_line rows) after
  -- at status 0 all of their lines are written
  pub all : status ≡ 0 → after ≡ stream_after before (flat_map row_line rows)
  -- If no string in the file has more than 700 octets, and there are at most 2147483644 rows to
  -- print, the status is 0, unless the output fails or memory runs out. The latter is reported,
  -- and nothing before it; if standard error fails, it takes a prefix of the report.
  pub ends : ((row : VarBind) → HasRow first_format lines row → IsShort row.value)
      → length rows ≤ 2147483644
      → (status ≡ 0)
      ⊎ ((status ≡ 1)
      × (HasIncreased before.faults after.faults ⊎ ((now : Stream) × IsWritten err_before [] now
      × IsWritten now (codes "Out of memory.\n") err_after)))

-- How many instances each column of a table has (RFC 2578, section 7.1.12).
use Rattle.std.specs.Prelude.{◌≡◌, ◌+◌, ℕ, List, [], ◌∷◌, ◌++◌, Result, Ok, Err, length, unwrap_or}
use Rattle.std.specs.{BTreeMap.get, Ordering.nat_cmp}
use Rattle.snmp_wire.specs.Message.{VarBind}
use Rattle.snmp_agent.specs.{table.Table.MibView, table.Listing.variables}
use Rattle.snmp_walk.specs.declared.end.SinkFault.{SinkFault}
use Rattle.snmp_walk.specs.declared.end.WalkEnd.{WalkEnd}
use Rattle.snmp_walk.specs.{Facts.IsDone, Walk.rows_below}
use Rattle.uses.specs.{Polled.IsBeginning, declared.columns.ColumnCounts.ColumnCounts}

-- the identifier of the table's entry
abbrev pub entry_of : ColumnCounts → List ℕ
entry_of counts = counts.entry

-- how many instances were counted of the column with this number
abbrev pub count_of : ColumnCounts → (number : ℕ) → ℕ
count_of counts number = unwrap_or (get nat_cmp counts.counts number) 0

-- the instances of the column with this number: the rows below the identifier that is the entry's
-- with the number appended
abbrev pub rows_of_column : (entry : List ℕ) → (number : ℕ) → List VarBind → List VarBind
rows_of_column entry number rows = rows_below (entry ++ number ∷ []) rows

-- in `counts`, the count of each column of `entry` is the number of its instances among `rows`
abbrev pub AreCountsOf : (entry : List ℕ) → (rows : List VarBind) → ColumnCounts → Type 0
AreCountsOf entry rows counts = (number : ℕ)
    → count_of counts number ≡ length (rows_of_column entry number rows)

-- `rows` were counted, which took the counts from `old` to `new`: the count of each column
-- increased by the number of its instances among `rows`
pub record HasCounted (old : ColumnCounts) (rows : List VarBind) (new : ColumnCounts)
    : Type 0 where
  pub entry : entry_of new ≡ entry_of old
  pub counts : (number : ℕ) → count_of new number
      ≡ count_of old number + length (rows_of_column (entry_of old) number rows)

-- the sink counts a row, or refuses it and counts nothing
abbrev pub CountsRow : ColumnCounts → VarBind → Result (Unit {0}) SinkFault → ColumnCounts → Type 0
CountsRow old row (Ok _) new = HasCounted old (row ∷ []) new
CountsRow old row (Err fault) new = HasCounted old [] new

-- The table's rows below the entry were counted: all of them if the poll is done, and otherwise
-- the first of them (perhaps none, perhaps all).
pub record AreCounted (view : MibView) (entry : List ℕ) (end : WalkEnd) (counts : ColumnCounts)
    : Type 0 where
  -- a prefix of the table's rows below the entry was counted,
  pub rows : List VarBind
  pub begins : IsBeginning view entry end rows
  pub counted : AreCountsOf entry rows counts
  -- and if the poll is done, the count of each column is the number of its instances in the table
  pub all : IsDone end → AreCountsOf entry (variables view) counts

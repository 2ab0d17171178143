-- How a table stores its rows: in pages, with names that increase over all of them.
use Rattle.std.specs.Prelude.{◌≡◌, ℕ, suc, Some, ◌≤◌, ◌<◌, T, Bool, true, is_some, List, [], ◌∷◌}
use Rattle.std.specs.Prelude.{◌++◌, map, length, take, drop, cond}
use Rattle.std.specs.{Ordering.nat_cmp, Ordering.is_le, Cmp.Lexicographic.slice_cmp}
use Rattle.std.specs.List.{slice_get, remove as remove_at}
use Rattle.std.specs.FinMap.{FinMap, find, get, is_sorted}
use Rattle.snmp_wire.specs.Message.{Datum, VarBind}
use Rattle.snmp_agent.specs.{declared.table.page.Page.Page, table.Table.MibView}
use Rattle.snmp_agent.specs.declared.table.page.TheConstants.{PAGE_ROWS}
use Rattle.snmp_agent.specs.table.Entries.{IsBeforeAll, IsBeforeNone, IsAfterAll, entry_of}

-- the rows as entries
abbrev pub entries_of : List VarBind → List (List ℕ × Datum)
entries_of rows = map entry_of rows

-- the rows of all pages as entries
abbrev pub entries_in : List Page → List (List ℕ × Datum)
entries_in [] = []
entries_in (page ∷ pages) = entries_of page.rows.items ++ entries_in pages

abbrev pub IsSorted : List (List ℕ × Datum) → Type 0
IsSorted es = T (is_sorted (slice_cmp nat_cmp) es)

-- the names of the rows increase over all pages
abbrev pub ArePages : List Page → Type 0
ArePages pages = IsSorted (entries_in pages)

-- `prefix`, followed by `back`, are the entries of the map `rows`, by increasing names. The names
-- in `prefix` aren't greater than `o`, and the names in `back` are.
pub record IsSplitAt (rows : FinMap (slice_cmp nat_cmp) Datum) (o : List ℕ) (prefix back : List
    (List ℕ × Datum)) : Type 0 where
  pub found : (q : List ℕ) → get rows q ≡ find (slice_cmp nat_cmp) q (prefix ++ back)
  pub rising : IsSorted (prefix ++ back)
  pub passed : IsBeforeNone o prefix
  pub ahead : IsBeforeAll o back

-- `back` has the variables of the view after the name `o`, by increasing names
abbrev pub AreAllAfter : MibView → List ℕ → List (List ℕ × Datum) → Type 0
AreAllAfter view o back = (prefix : List (List ℕ × Datum)) × IsSplitAt view.rows o prefix back

-- ---- for private functions

-- the names of the rows increase
abbrev pub IsIncreasing : List VarBind → Type 0
IsIncreasing rows = IsSorted (entries_of rows)

-- whether the name of the row isn't greater than `o`
abbrev pub is_up_to : List ℕ → VarBind → Bool
is_up_to o r = is_le (slice_cmp nat_cmp r.name o)

-- whether the name of the first row isn't greater than `o`, or there is no row
abbrev pub begins_up_to : List ℕ → List VarBind → Bool
begins_up_to o [] = true
begins_up_to o (row ∷ rows) = is_up_to o row

-- the rows from index `index` on have names greater than `o`, and the rows before that index don't
pub record IsIndexAfter (o : List ℕ) (rows : List VarBind) (index : ℕ) : Type 0 where
  pub bound : index ≤ length rows
  pub passed : IsBeforeNone o (entries_of (take index rows))
  pub ahead : IsBeforeAll o (entries_of (drop index rows))

-- the row at index `index` has the name `o`; the names of the rows before it are smaller, and those
-- of the rows after it are greater
pub record HasNameAt (o : List ℕ) (rows : List VarBind) (index : ℕ) : Type 0 where
  pub found : VarBind
  pub at : slice_get rows index ≡ Some found
  pub low : index < length rows
  pub name : found.name ≡ o
  pub passed : IsAfterAll o (entries_of (take index rows))
  pub ahead : IsBeforeAll o (entries_of (drop (suc index) rows))

-- no row has the name `o`: the rows before index `index` have smaller names, and the others
-- greater ones
pub record BelongsAt (o : List ℕ) (rows : List VarBind) (index : ℕ) : Type 0 where
  pub bound : index ≤ length rows
  pub passed : IsAfterAll o (entries_of (take index rows))
  pub ahead : IsBeforeAll o (entries_of (drop index rows))

-- whether an entry has the name `o`
abbrev pub has_name : List ℕ → List (List ℕ × Datum) → Bool
has_name o es = is_some (find (slice_cmp nat_cmp) o es)

-- only the page at index `index` can have a row of the name `o`
pub record IsPageOf (o : List ℕ) (pages : List Page) (index : ℕ) : Type 0 where
  pub bound : index ≤ length pages
  pub within : 1 ≤ length pages → index < length pages
  pub passed : IsAfterAll o (entries_in (take index pages))
  pub ahead : IsBeforeAll o (entries_in (drop (suc index) pages))

-- the page at index `index` has more than one row
abbrev pub IsLongPage : List Page → ℕ → Type 0
IsLongPage pages index = (page : Page) × (slice_get pages index ≡ Some page)
    × (1 < length page.rows.items)

-- the page at index `index` is the only one that can have a row of the name `o`, and has room for
-- one more row
pub record IsPageWithRoom (o : List ℕ) (pages : List Page) (index : ℕ) : Type 0 where
  pub page_of : IsPageOf o pages index
  pub page : Page
  pub at : slice_get pages index ≡ Some page
  pub room : length page.rows.items < PAGE_ROWS

-- the page at index `index` has a row at index `row`
abbrev pub IsRowIn : List Page → ℕ → ℕ → Type 0
IsRowIn pages index row = (page : Page) × (slice_get pages index ≡ Some page)
    × (row < length page.rows.items)

-- if there is a page at index `index`, then `es` are the entries of all pages without the row at
-- index `row` of that page
abbrev pub IsWithoutRow : List Page → ℕ → ℕ → List (List ℕ × Datum) → Type 0
IsWithoutRow pages index row es = (page : Page) → slice_get pages index ≡ Some page
    → es ≡ entries_in (take index pages) ++ (entries_of (remove_at page.rows.items row)
    ++ entries_in (drop (suc index) pages))

-- the entries whose names are greater than `o`; the list must be sorted by increasing names
abbrev pub entries_after : List ℕ → List (List ℕ × Datum) → List (List ℕ × Datum)
entries_after o [] = []
entries_after o (e ∷ es) = cond (is_le (slice_cmp nat_cmp e.0 o)) (entries_after o es) (e ∷ es)

-- If rows whose names are new are inserted into a table, then its rows are a permutation of the old
-- rows and the inserted ones.
use Rattle.std.proofs.Common.{arith, ◌≡◌, ℕ, Bool, true, false, List, [], ◌∷◌, ◌++◌, sym, ◌∙◌, ap, append_assoc, append-nil, is_some}
use Rattle.std.proofs.lemmas.Grind.{common_steps}
use Rattle.std.specs.{List.Sorted.IsPermutation, List.Contains, Ordering.nat_cmp, Cmp.Lexicographic.slice_cmp, Cmp.Lexicographic.nat_list_cmp_total}
use Rattle.std.proofs.lemmas.List.Sorted.{IsPermutation-trans, IsPermutation-append_left, IsPermutation-append_right, IsPermutation-middle}
use Rattle.std.proofs.lemmas.List.Sorted.{IsPermutation-append_comm, IsPermutation-to_front, Contains-permutation, IsPermutation-map}
use Rattle.std.proofs.lemmas.List.Sorted.{IsPermutation-sym}
use Rattle.std.specs.FinMap.{FinMap, contains_key, entries, entries-insert, find, get-entries, entries-from_sorted, entries_sorted, from_sorted}
use Rattle.std.specs.FinMap.{insert}
use Rattle.snmp_wire.specs.Message.{Datum, VarBind}
use Rattle.snmp_agent.specs.{declared.table.page.Page.Page, table.Entries.entry_of, private.table.TableBuilder.AreDistinct}
use Rattle.snmp_agent.specs.table.Pages.{IsSorted, entries_in, entries_of}
use Rattle.snmp_agent.proofs.{Partition.rows-append, SortedEntries.listed_from_find}
use Rattle.snmp_agent.proofs.TableDrafts.{distinct_moved, distinct_sorted, none_of, put_moves, some_of}

abbrev Entries : Type 0
Entries = List (List ℕ × Datum)

abbrev Rows : Type 0
Rows = FinMap (slice_cmp nat_cmp) Datum

-- a map that was made from the sorted entries `es` has the entries `es`
pub entries_are : (es : Entries) (m : Rows) → IsSorted es → from_sorted {R = slice_cmp nat_cmp} es ≡ m
    → entries m ≡ es
entries_are es m rising is = ap entries (sym is) ∙ entries-from_sorted (slice_cmp nat_cmp) es rising

-- ---- lists in another order

-- if the entry `e` is moved to the end of `xs`, then the whole list has the same entries in another order
to_first : (xs ys zs : Entries) (e : List ℕ × Datum) → IsPermutation (xs ++ (ys ++ e ∷ zs)) ((xs ++ e ∷ []) ++ (ys ++ zs))
to_first xs ys zs e = grind (arith, common_steps, append_assoc, IsPermutation-append_right, IsPermutation-middle)

-- if the start of a list, `a ++ b`, is replaced by a permutation of it, `c ++ d`, then `total` is still a permutation of the list
regathered : (total a b c d zs : Entries) → IsPermutation total (a ++ (b ++ zs)) → IsPermutation (a ++ b) (c ++ d) → IsPermutation total (c ++ (d ++ zs))
regathered total a b c d zs h moved =
    rw (← append_assoc c d zs) (IsPermutation-trans total ((a ++ b) ++ zs) ((c ++ d) ++ zs)
    (rw (append_assoc a b zs) h) (IsPermutation-append_left zs (a ++ b) (c ++ d) moved))

-- ---- one row

pub row_moves : (m n : Rows) (row : VarBind) (had : Bool) → n ≡ insert m row.name row.value
    → had ≡ contains_key m row.name → had ≡ false
    → IsPermutation (entries m ++ entry_of row ∷ []) (entries n)
row_moves m n row had put has hasnt =
    let absent = none_of (find (slice_cmp nat_cmp) row.name (entries m)) (ap is_some (sym (get-entries m row.name)) ∙ sym has ∙ hasnt) in
    rw (put, entries-insert nat_list_cmp_total m row.name row.value) (put_moves row.name row.value (entries m) absent)

-- if a row that isn't inserted yet has a new name and is inserted, then `total` is still a permutation of the inserted rows and those not inserted yet
taken : (total : Entries) (m n : Rows) (xs ys : Entries) (row : VarBind) (had : Bool)
    → IsPermutation total (entries m ++ (xs ++ entry_of row ∷ ys))
    → n ≡ insert m row.name row.value → had ≡ contains_key m row.name → had ≡ false
    → IsPermutation total (entries n ++ (xs ++ ys))
taken total m n xs ys row had h put has hasnt =
    IsPermutation-trans _ _ _ h (IsPermutation-trans _ _ _ (to_first (entries m) xs ys (entry_of row))
    (IsPermutation-append_left (xs ++ ys) _ _ (row_moves m n row had put has hasnt)))

-- if the last of the rows that aren't inserted yet has a new name and is inserted, then `total` is still a permutation of the inserted rows and the other rows
pub last_moves : (total : Entries) (m n : Rows) (rows rest : List VarBind) (row : VarBind) (had : Bool)
    → IsPermutation total (entries m ++ entries_of rows) → rows ≡ rest ++ row ∷ []
    → n ≡ insert m row.name row.value → had ≡ contains_key m row.name → had ≡ false
    → IsPermutation total (entries n ++ entries_of rest)
last_moves total m n rows rest row had h parts put has hasnt =
    rw (append-nil (entries_of rest)) at (taken total m n (entries_of rest) [] row had
    (rw (parts, rows-append rest (row ∷ [])) at h) put has hasnt)

-- if some of `others` are inserted, and then `row`, the first row of a page, under a new name, then `total` is still a permutation of the inserted rows, of
-- `left`, the others that are left, and of the rest of the page
pub page_row_moves : (total : Entries) (l m n : Rows) (others left : List VarBind) (row : VarBind)
    (rest : List VarBind) (had : Bool)
    → IsPermutation total (entries l ++ (entries_of others ++ entries_of (row ∷ rest)))
    → IsPermutation (entries l ++ entries_of others) (entries m ++ entries_of left)
    → n ≡ insert m row.name row.value → had ≡ contains_key m row.name → had ≡ false
    → IsPermutation total (entries n ++ (entries_of left ++ entries_of rest))
page_row_moves total l m n others left row rest had h before put has hasnt =
    taken total m n (entries_of left) (entries_of rest) row had
    (regathered total (entries l) (entries_of others) (entries m) (entries_of left) (entries_of (row ∷ rest)) h before) put has hasnt

-- ---- a page

pub page_moves : (total : Entries) (l m : Rows) (others left : List VarBind) (page : Page)
    (pages : List Page) → IsPermutation total (entries l ++ (entries_of others ++ entries_in (page ∷ pages)))
    → IsPermutation (entries l ++ (entries_of others ++ entries_of page.rows.items))
    (entries m ++ entries_of left)
    → IsPermutation total (entries m ++ (entries_of left ++ entries_in pages))
page_moves total l m others left page pages h merged = grind (arith, common_steps, regathered, append_assoc)

-- ---- all pages

pub merge_begins : (m n : Rows) (others : Entries) (pages : List Page) → entries n ≡ []
    → entries_in pages ≡ entries m
    → IsPermutation (entries m ++ others) (entries n ++ (others ++ entries_in pages))
merge_begins m n others pages none all = rw (none, all) (IsPermutation-append_comm (entries m) others)

pub merge_ends : (total new : Entries) (m : Rows) (others : List VarBind) (pages : List Page)
    → IsPermutation total (entries m ++ (entries_of others ++ entries_in pages)) → pages ≡ []
    → IsPermutation (entries m ++ entries_of others) new → IsPermutation total new
merge_ends total new m others pages h none put = grind (arith, common_steps, IsPermutation-trans, append-nil)

-- if `put`, the collected rows `late` in another order, were inserted, then the new entries are a permutation of the old ones and those of `late`
pub sorted_moves : (m : Rows) (new : Entries) (late put : List VarBind) → IsPermutation late put
    → IsPermutation (entries m ++ entries_of put) new
    → IsPermutation (entries m ++ entries_of late) new
sorted_moves m new late put sorted moved =
    IsPermutation-trans _ _ _ (IsPermutation-append_right (entries m) (entries_of late)
    (entries_of put) (IsPermutation-map entry_of late put sorted)) moved

-- if all collected rows are inserted into the table, then the entries of the table and of the collected rows together are the same as before, in another order
pub settled_moves : (m n : Rows) (late taken kept : List VarBind) → taken ≡ late
    → IsPermutation (entries m ++ entries_of taken) (entries n) → kept ≡ []
    → IsPermutation (entries m ++ entries_of late) (entries n ++ entries_of kept)
settled_moves m n late taken kept same moved none = rw (← same, none, append-nil (entries n)) moved

-- ---- a row that is added to a draft: inserted, appended or collected

-- if no collected row is left, and a row with a new name is inserted, then all entries are the earlier entries and that of the row, in another order
pub placed_moves : (old m n : Rows) (gathered late : List VarBind) (row : VarBind) (had : Bool)
    → IsPermutation (entries old ++ entries_of gathered) (entries m ++ entries_of late) → late ≡ []
    → n ≡ insert m row.name row.value → had ≡ contains_key m row.name → had ≡ false
    → IsPermutation ((entries old ++ entries_of gathered) ++ entry_of row ∷ [])
    (entries n ++ entries_of late)
placed_moves old m n gathered late row had h none put has hasnt =
    rw (none, append-nil (entries n)) (IsPermutation-trans _ _ _ (IsPermutation-append_left (entry_of row ∷ []) _ _
    (rw (none, append-nil (entries m)) at h)) (row_moves m n row had put has hasnt))

-- if a row is appended to the inserted entries `ms`, then all entries are the earlier entries and that of the row, in another order
pub appended_moves : (ms ns late : Entries) (row : VarBind) → ns ≡ ms ++ entry_of row ∷ []
    → IsPermutation ((ms ++ late) ++ entry_of row ∷ []) (ns ++ late)
appended_moves ms ns late row appended =
    let e = entry_of row in
    rw (appended, append_assoc ms late (e ∷ []), append_assoc ms (e ∷ []) late)
    (IsPermutation-append_right ms (late ++ e ∷ []) (e ∷ late) (IsPermutation-to_front late e))

-- if no row is left to insert and a row has the name `o`, then the names of `es` differ, and one of them is `o`
pub had_one : (es : Entries) (m : Rows) (late : List VarBind) (o : List ℕ) (had : Bool)
    → IsPermutation es (entries m ++ entries_of late) → late ≡ [] → had ≡ contains_key m o → had ≡ true
    → AreDistinct es × (v : Datum) × Contains es (o, v)
had_one es m late o had h none has is =
    let moved : IsPermutation es (entries m) = rw (none, append-nil (entries m)) at h in
    let found = some_of (find (slice_cmp nat_cmp) o (entries m))
    (ap is_some (sym (get-entries m o)) ∙ sym has ∙ is) in (
      distinct_moved es (entries m) moved (distinct_sorted (entries m) (entries_sorted m)),
      found.0,
      Contains-permutation (entries m) es (o, found.0) (IsPermutation-sym es (entries m) moved)
          (listed_from_find o found.0 (entries m) found.1),
    )

pub ruleset sorting = (common_steps, IsPermutation-trans)

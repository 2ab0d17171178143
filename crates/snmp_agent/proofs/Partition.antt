-- What a search finds: the index at which the rows after a name begin on a page (`index_found`), and the page that can have a row of a name (`page_before`).
use Rattle.std.proofs.lemmas.Grind.{common_steps}
use Rattle.std.proofs.Common.{◌≡◌, ℕ, zero, suc, ◌-◌, ◌≤◌, ◌<◌, true, false, List, [], ◌∷◌, ◌++◌, ◌∙◌, length, take, drop, slice_index_or, slice_set}
use Rattle.std.proofs.Common.{refl, ap, subst, arith, append_assoc, Some, Less}
use Rattle.std.specs.{Ordering.nat_cmp, Ordering.is_le, Cmp.Lexicographic.slice_cmp, List.AllWithin, List.slice_get, List.Sorted.IsPartitionedBy}
use Rattle.std.proofs.{lemmas.List.map-append, lemmas.List.set_split, lemmas.List.take-append-drop, lemmas.Option.slice_get-get_or}
use Rattle.snmp_wire.specs.Message.{Datum, VarBind}
use Rattle.snmp_agent.specs.{declared.table.page.Page.Page, private.table.BinarySearch.IsHalvedTo}
use Rattle.snmp_agent.specs.table.Entries.{IsAfterAll, IsBeforeNone, IsBeforeAll, entry_of}
use Rattle.snmp_agent.specs.table.Pages.{ArePages, IsPageOf, IsIndexAfter, IsIncreasing, IsSorted, begins_up_to, entries_in, entries_of, is_up_to}
use Rattle.snmp_agent.proofs.Lists.{all_back, around}
use Rattle.snmp_agent.proofs.SortedEntries.{after_up_to, before_all, before_from, before_up_to, first_of_both, is_after, none_before, rising_rest}
use Rattle.snmp_agent.proofs.SortedEntries.{second_of_both, turned}

-- ---- rows

before_at : (o : List ℕ) (rows : List VarBind) → IsBeforeAll o (entries_of rows) → (j : ℕ) (d : VarBind) → j < length rows
    → slice_cmp nat_cmp o (slice_index_or rows j d).name ≡ Less
before_at o [] h j d low = absurd (omega (arith, low))
before_at o (row ∷ rows) h zero d low = h.0
before_at o (row ∷ rows) h (suc j) d low = before_at o rows h.1 j d (omega (arith, low))

pub partitioned : (o : List ℕ) (rows : List VarBind) → IsIncreasing rows → IsPartitionedBy (is_up_to o) rows
partitioned o [] rising i j d order low h = absurd (omega (arith, low))
partitioned o (row ∷ rows) rising zero zero d order low h = h
partitioned o (row ∷ rows) rising zero (suc j) d order low h =
    ap is_le (before_up_to row.name _ o
    (before_at row.name rows (before_all row.name (entries_of rows) (first_of_both _ _ rising)) j d (omega (arith, low))) h)
partitioned o (row ∷ rows) rising (suc i) zero d order low h = absurd (omega (arith, order))
partitioned o (row ∷ rows) rising (suc i) (suc j) d order low h = partitioned o rows (second_of_both _ _ rising) i j d (omega (arith, order)) (omega
    (arith, low)) h

passed_prefix : (o : List ℕ) (rows : List VarBind) (index : ℕ) → AllWithin (λ row. is_up_to o row ≡ true) rows 0 index
    → IsBeforeNone o (entries_of (take index rows))
passed_prefix o [] zero h = tt
passed_prefix o [] (suc index) h = tt
passed_prefix o (row ∷ rows) zero h = tt
passed_prefix o (row ∷ rows) (suc index) h = (
  none_before o row.name (h 0 row (omega arith) (omega arith)),
  passed_prefix o rows index (λ k d from below. h (suc k) d (omega arith) (omega (arith, below))),
)

ahead_back : (o : List ℕ) (rows : List VarBind) (index : ℕ) → AllWithin (λ row. is_up_to o row ≡ false) rows index (length rows)
    → IsBeforeAll o (entries_of (drop index rows))
ahead_back o [] zero h = tt
ahead_back o [] (suc index) h = tt
ahead_back o (row ∷ rows) zero h = (
  is_after o row.name (h 0 row (omega arith) (omega arith)),
  ahead_back o rows zero (λ k d from below. h (suc k) d (omega arith) (omega (arith, below))),
)
ahead_back o (row ∷ rows) (suc index) h = ahead_back o rows index (λ k d from below. h (suc k) d (omega (arith, from)) (omega (arith, below)))

pub index_found : (o : List ℕ) (rows : List VarBind) (index : ℕ) → IsHalvedTo (is_up_to o) rows index index → IsIndexAfter o rows index
index_found o rows index h = record { bound = h.bound; passed = passed_prefix o rows index h.prefix; ahead = ahead_back o rows index h.back }

-- ---- the rows of all pages

pub rows-append : (xs ys : List VarBind) → entries_of (xs ++ ys) ≡ entries_of xs ++ entries_of ys
rows-append = map-append entry_of

pub pages-append : (xs ys : List Page) → entries_in (xs ++ ys) ≡ entries_in xs ++ entries_in ys
pages-append [] ys = refl
pages-append (page ∷ xs) ys = grind (arith, common_steps, pages-append xs ys, append_assoc)

-- `prefix` are the entries of the pages before index `index`, and `back` those of the pages after it; with the entries of the page at `index` between them,
-- they are all entries (`parts`)
module _ (pages : List Page) (index : ℕ) where
  abbrev pub prefix : List (List ℕ × Datum)
  prefix = entries_in (take index pages)

  abbrev pub back : List (List ℕ × Datum)
  back = entries_in (drop (suc index) pages)

  pub parts : (page : Page) → slice_get pages index ≡ Some page → entries_in pages ≡ prefix ++ (entries_of page.rows.items ++ back)
  parts page at = ap entries_in (around pages index page at) ∙ pages-append (take index pages) (page ∷ drop (suc index) pages)

  pub set-parts : (page : Page) → index < length pages → entries_in (slice_set pages index page) ≡ prefix ++ (entries_of page.rows.items ++ back)
  set-parts page low = ap entries_in (set_split pages index page low) ∙ pages-append (take index pages) (page ∷ drop (suc index) pages)

-- ---- pages

-- if the names increase, and the first of `rows` isn't greater than the name `o`, then `o` comes after all of `early`, the entries before `rows`
pub rows_passed : (o : List ℕ) (early : List (List ℕ × Datum)) (rows : List VarBind) (late : List (List ℕ × Datum)) → 1 ≤ length rows
    → IsSorted (early ++ (entries_of rows ++ late)) → begins_up_to o rows ≡ true → IsAfterAll o early
rows_passed o early rows late some rising begins = grind (arith, common_steps, after_up_to)

pages_passed : (o : List ℕ) (pages : List Page) → ArePages pages → (n : ℕ) (d : Page) → n < length pages
    → begins_up_to o (slice_index_or pages n d).rows.items ≡ true → IsAfterAll o (entries_in (take n pages))
pages_passed o pages rising n d low begins =
    let page : Page = slice_index_or pages n d in
    rows_passed o (prefix pages n) page.rows.items (back pages n) page.some
    (subst IsSorted (parts pages n page (slice_get-get_or pages n d low)) rising) begins

begins_passed : (o : List ℕ) (rows : List VarBind) (more : List (List ℕ × Datum)) → IsAfterAll o (entries_of rows ++ more) → begins_up_to o rows ≡ true
begins_passed o rows more h = grind (arith, common_steps, turned)

pub pages_partitioned : (o : List ℕ) (pages : List Page) → ArePages pages → IsPartitionedBy (λ page. begins_up_to o page.rows.items) pages
pages_partitioned o [] rising i j d order low h = absurd (omega (arith, low))
pages_partitioned o (page ∷ pages) rising zero zero d order low h = h
pages_partitioned o (page ∷ pages) rising zero (suc j) d order low h =
    begins_passed o page.rows.items (entries_in (take j pages)) (pages_passed o (page ∷ pages) rising (suc j) d low h)
pages_partitioned o (page ∷ pages) rising (suc i) zero d order low h = absurd (omega (arith, order))
pages_partitioned o (page ∷ pages) rising (suc i) (suc j) d order low h =
    pages_partitioned o pages (rising_rest (entries_of page.rows.items) (entries_in pages) rising) i j d (omega (arith, order)) (omega (arith, low)) h

-- if the name `o` comes before the first of `rows`, then `o` comes before all of `rows` and all of `more`, the entries after them
pub rows_ahead : (o : List ℕ) (rows : List VarBind) (more : List (List ℕ × Datum)) → IsSorted (entries_of rows ++ more) → begins_up_to o rows ≡ false
    → IsBeforeAll o (entries_of rows ++ more)
rows_ahead o rows more rising begins = grind (arith, common_steps, before_from)

pages_ahead : (o : List ℕ) (pages : List Page) (n : ℕ) → ArePages pages → AllWithin (λ page. begins_up_to o page.rows.items ≡ false) pages n (length pages)
    → IsBeforeAll o (entries_in (drop n pages))
pages_ahead o [] zero rising h = tt
pages_ahead o [] (suc n) rising h = tt
pages_ahead o (page ∷ pages) zero rising h = rows_ahead o page.rows.items (entries_in pages) rising (h 0 page (omega arith) (omega arith))
pages_ahead o (page ∷ pages) (suc n) rising h =
    pages_ahead o pages n (rising_rest (entries_of page.rows.items) (entries_in pages) rising)
    (λ k d from below. h (suc k) d (omega (arith, from)) (omega (arith, below)))

-- the last page whose first name isn't greater than `o`, or page 0 if there is none, is the only one that can have a row of `o`
pub page_before : (o : List ℕ) (pages : List Page) (n : ℕ) → ArePages pages → IsHalvedTo (λ page. begins_up_to o page.rows.items) pages n n
    → IsPageOf o pages (n - 1)
page_before o pages zero rising h = record {
  bound = omega arith;
  within = λ some. some;
  passed = tt;
  ahead = all_back _ (entries_in (take 1 pages)) (entries_in (drop 1 pages))
      (rw (← pages-append (take 1 pages) (drop 1 pages), take-append-drop 1 pages) (pages_ahead o pages zero rising h.back));
}
page_before o [] (suc n) rising h = absurd (omega (arith, h.bound))
page_before o (page ∷ pages) (suc n) rising h =
    let one_less : n ≡ suc n - 1 = omega arith in
    let low : n < length (page ∷ pages) = h.bound in
    subst (IsPageOf o (page ∷ pages)) one_less record {
      bound = omega (arith, low);
      within = λ _. low;
      passed = pages_passed o (page ∷ pages) rising n page low (h.prefix n page (omega arith) (omega arith));
      ahead = pages_ahead o (page ∷ pages) (suc n) rising h.back;
    }

-- If one page is changed, then only its part of the list of all rows changes (`spliced`); if a page is split in two, then the list stays the same
-- (`divided_rows`).
use Rattle.std.proofs.{lemmas.Grind.common_steps, lemmas.List.Edits.length-remove}
use Rattle.std.proofs.Common.{◌≡◌, ℕ, suc, ◌+◌, ◌-◌, ◌≤◌, ◌<◌, false, List, [], ◌∷◌, ◌++◌, length, take, drop, None, Some, slice_set, slice_index_or}
use Rattle.std.proofs.Common.{refl, sym, ◌∙◌, ap, subst, inl, inr, arith, append_assoc, length-append, add-one, true, is_some, Less}
use Rattle.std.specs.{Ordering.nat_cmp, Ordering.is_le, Cmp.tied_itself, Cmp.Lexicographic.slice_cmp, Cmp.Lexicographic.nat_list_cmp_total}
use Rattle.std.specs.{FinMap.find, FinMap.from_sorted, FinMap.get, FinMap.get-from_sorted, FinMap.Entries.put}
use Rattle.std.specs.List.{slice_get, insert as insert_at, remove as remove_at}
use Rattle.std.proofs.lemmas.List.Elements.{Contains-append_left, Contains-append_right}
use Rattle.std.proofs.lemmas.Option.{get_or_from_slice_get, slice_get_read, slice_get_within}
use Rattle.std.proofs.lemmas.List.{append-nil, drop-set-lt, drop_all, length-take-le, length_push, take_at, take_more_set}
use Rattle.snmp_wire.specs.Message.{Datum, VarBind}
use Rattle.snmp_agent.specs.{declared.table.page.Page.Page, declared.table.page.TheConstants.PAGE_ROWS, private.table.BinarySearch.SplitsAt}
use Rattle.snmp_agent.specs.table.Entries.{IsAfterAll, IsBeforeAll, IsBeforeNone, without_name, entry_of}
use Rattle.snmp_agent.specs.table.Pages.{ArePages, IsPageOf, IsPageWithRoom, IsIndexAfter, IsIncreasing, IsSorted, IsSplitAt, begins_up_to, entries_in}
use Rattle.snmp_agent.specs.table.Pages.{entries_of, has_name}
use Rattle.snmp_agent.proofs.{ChangedEntries.find_mid, ChangedEntries.halves, ChangedEntries.put_mid, ChangedEntries.without_mid, RowSearch.listed_at}
use Rattle.snmp_agent.proofs.Lists.{IsLast, all_both, last_in_prefix, last_of, nothing_left}
use Rattle.snmp_agent.proofs.Partition.{back, prefix, pages-append, parts, rows-append, rows_ahead, rows_passed, set-parts}
use Rattle.snmp_agent.proofs.SortedEntries.{after_last, after_none, after_up_to, before_later, find-listed, none_before, rising_first, rising_rest}

abbrev Entries : Type 0
Entries = List (List ℕ × Datum)

-- ---- one page among the others

module _ (pages : List Page) (index : ℕ) where
  -- if the page at `index` is replaced by one with the entries `es`, then all entries are the entries before it, `es`, and the entries after it
  spliced : (new : Page) (es : Entries) → index < length pages → entries_of new.rows.items ≡ es
      → entries_in (slice_set pages index new) ≡ prefix pages index ++ (es ++ back pages index)
  spliced new es low same = set-parts pages index new low ∙ ap (λ (fs : Entries). prefix pages index ++ (fs ++ back pages index)) same

  -- if `page` is at the index, then reading the list of pages at that index returns `page`
  pub page_read : (page found : Page) → slice_get pages index ≡ Some page → found ≡ slice_index_or pages index found → found ≡ page
  page_read page found at read = read ∙ get_or_from_slice_get pages index page found at

  -- replacing a page by one with the same rows doesn't change the entries of all pages
  pub same_rows : (found new : Page) → index < length pages → found ≡ slice_index_or pages index found → new.rows.items ≡ found.rows.items
      → entries_in (slice_set pages index new) ≡ entries_in pages
  same_rows found new low read same = grind (arith, common_steps, spliced, parts, slice_get_read)

  -- if the row at index `row` of a page is removed, then only the entry of this row is removed from the entries of all pages
  pub without_row_of : (page found new : Page) (row : ℕ) → slice_get pages index ≡ Some page → found ≡ slice_index_or pages index found
      → new.rows.items ≡ remove_at found.rows.items row
      → entries_in (slice_set pages index new) ≡ prefix pages index ++ (entries_of (remove_at page.rows.items row) ++ back pages index)
  without_row_of page found new row at read removed =
      spliced new _ (slice_get_within pages index page at)
      (ap entries_of (removed ∙ ap (λ (p : Page). remove_at p.rows.items row) (page_read page found at read)))

  -- if a page of one row is removed, then only the entry of this row is removed from the entries of all pages
  pub without_page : (page : Page) (row : ℕ) → row < length page.rows.items → length page.rows.items ≤ 1
      → entries_in (remove_at pages index) ≡ prefix pages index ++ (entries_of (remove_at page.rows.items row) ++ back pages index)
  without_page page row low one =
      pages-append (take index pages) (drop (suc index) pages) ∙ ap (λ (rows : List VarBind). prefix pages index ++ (entries_of rows ++ back pages index))
      (sym (nothing_left (remove_at page.rows.items row) (omega (arith, length-remove page.rows.items row low))))

  -- the names on each page increase
  pub page_rising : (page : Page) → slice_get pages index ≡ Some page → ArePages pages → IsIncreasing page.rows.items
  page_rising page at rising =
      rising_first (entries_of page.rows.items) (back pages index)
      (rising_rest (prefix pages index) (entries_of page.rows.items ++ back pages index) (subst IsSorted (parts pages index page at) rising))

pub get_in : (o : List ℕ) (pages : List Page) → ArePages pages
    → get (from_sorted {R = slice_cmp nat_cmp} (entries_in pages)) o ≡ find (slice_cmp nat_cmp) o (entries_in pages)
get_in o pages rising = get-from_sorted (slice_cmp nat_cmp) (entries_in pages) o rising

-- if the entries of all pages are `early ++ late`, the names in `early` aren't greater than `o` and the names in `late` are, then `o` splits the rows of the
-- pages into `early` and `late`
pub splits_apart : (o : List ℕ) (pages : List Page) (early late : List (List ℕ × Datum)) → ArePages pages → entries_in pages ≡ early ++ late
    → IsBeforeNone o early → IsBeforeAll o late → IsSplitAt (from_sorted (entries_in pages)) o early late
splits_apart o pages early late rising whole passed ahead = grind (arith, common_steps, get_in)

module _ (pages : List Page) (index : ℕ) (o : List ℕ) (h : IsPageOf o pages index) (page : Page) (at : slice_get pages index ≡ Some page) where
  pub put_in_page : (v : Datum) → prefix pages index ++ (put (slice_cmp nat_cmp) o v (entries_of page.rows.items) ++ back pages index)
      ≡ put (slice_cmp nat_cmp) o v (entries_in pages)
  put_in_page v =
      rw (parts pages index page at) (sym (put_mid o (prefix pages index) (entries_of page.rows.items) (back pages index) h.passed h.ahead v))

  pub without_in_page : (es : List (List ℕ × Datum)) → es ≡ without_name o (entries_of page.rows.items)
      → prefix pages index ++ (es ++ back pages index) ≡ without_name o (entries_in pages)
  without_in_page es same =
      rw (same, parts pages index page at) (sym (without_mid o (prefix pages index) (entries_of page.rows.items) (back pages index) h.passed h.ahead))

  pub find_in_page : find (slice_cmp nat_cmp) o (entries_in pages) ≡ find (slice_cmp nat_cmp) o (entries_of page.rows.items)
  find_in_page = rw (parts pages index page at) (find_mid o (prefix pages index) (entries_of page.rows.items) (back pages index) h.passed h.ahead)

  pub get_in_page : ArePages pages → get (from_sorted {R = slice_cmp nat_cmp} (entries_in pages)) o ≡ find (slice_cmp nat_cmp) o (entries_of page.rows.items)
  get_in_page rising = get_in o pages rising ∙ find_in_page

  -- if the rows after `o` begin at index `n` of the only page that can have a row of `o`, then `o` splits all rows at that index
  pub apart_in_page : ArePages pages → (n : ℕ) → IsIndexAfter o page.rows.items n → IsSplitAt (from_sorted (entries_in pages)) o
      (prefix pages index ++ entries_of (take n page.rows.items)) (entries_of (drop n page.rows.items) ++ back pages index)
  apart_in_page rising n there =
      let early : Entries = prefix pages index ++ entries_of (take n page.rows.items) in
      let late : Entries = entries_of (drop n page.rows.items) ++ back pages index in
      let whole : entries_in pages ≡ early ++ late = parts pages index page at ∙ rw (halves page.rows.items n) (simp append_assoc) in
      splits_apart o pages early late rising whole
      (all_both _ (prefix pages index) (entries_of (take n page.rows.items)) (after_none o (prefix pages index) h.passed) there.passed)
      (all_both _ (entries_of (drop n page.rows.items)) (back pages index) there.ahead h.ahead)

-- ---- a page between others

seam_drop : (xs ys : List Page) (y : Page) → drop (suc (length xs)) (xs ++ y ∷ ys) ≡ ys
seam_drop [] ys y = refl
seam_drop (x ∷ xs) ys y = seam_drop xs ys y

seam_at : (xs ys : List Page) (y : Page) → slice_get (xs ++ y ∷ ys) (length xs) ≡ Some y
seam_at [] ys y = refl
seam_at (x ∷ xs) ys y = seam_at xs ys y

page_between : (o : List ℕ) (xs ys : List Page) (page : Page) (index : ℕ) → length xs ≡ index → IsAfterAll o (entries_in xs) → IsBeforeAll o (entries_in ys)
    → length page.rows.items < PAGE_ROWS → IsPageWithRoom o (xs ++ page ∷ ys) index
page_between o xs ys page index there passed ahead room = subst (λ (k : ℕ). IsPageWithRoom o (xs ++ page ∷ ys) k) there record {
  page_of = record {
    bound = omega (arith, length-append xs (page ∷ ys));
    within = λ _. omega (arith, length-append xs (page ∷ ys));
    passed = subst (λ (zs : List Page). IsAfterAll o (entries_in zs)) (sym (take_at xs (page ∷ ys) (length xs) refl)) passed;
    ahead = subst (λ (zs : List Page). IsBeforeAll o (entries_in zs)) (sym (seam_drop xs ys page)) ahead;
  };
  page = page;
  at = seam_at xs ys page;
  room = room;
}

-- ---- two pages that replace one

-- the pages with `first` and `second` instead of the page at `index`
abbrev pub divided : List Page → ℕ → Page → Page → List Page
divided pages index first second = insert_at (slice_set pages index first) (index + 1) second

module _ (pages : List Page) (index : ℕ) (found first second : Page) (low : index < length pages) (read : found ≡ slice_index_or pages index found)
    (same : found.rows.items ≡ first.rows.items ++ second.rows.items) where
  as_list : divided pages index first second ≡ take index pages ++ first ∷ second ∷ drop (suc index) pages
  as_list =
      rw (take_more_set pages index first low, drop-set-lt (index + 1) pages index first (omega arith), add-one index)
      (append_assoc (take index pages) (first ∷ []) (second ∷ drop (suc index) pages))

  all_rows : entries_in pages ≡ prefix pages index ++ (entries_of first.rows.items ++ (entries_of second.rows.items ++ back pages index))
  all_rows =
      parts pages index found (slice_get_read pages (length pages) index found refl low read)
      ∙ rw (same, rows-append first.rows.items second.rows.items) (simp append_assoc)

  pub divided_rows : entries_in (divided pages index first second) ≡ entries_in pages
  divided_rows = ap entries_in as_list ∙ pages-append (take index pages) (first ∷ second ∷ drop (suc index) pages) ∙ sym all_rows

  module _ (o : List ℕ) (h : IsPageOf o pages index) (rising : ArePages pages) where
    rising_halves : IsSorted (entries_of first.rows.items ++ (entries_of second.rows.items ++ back pages index))
    rising_halves = rising_rest (prefix pages index) _ (subst IsSorted all_rows rising)

    long : length (take index pages) ≡ index
    long = length-take-le index pages (omega (arith, low))

    pub room_before : begins_up_to o second.rows.items ≡ false → IsPageWithRoom o (divided pages index first second) index
    room_before begins =
        let ahead = rows_ahead o second.rows.items (back pages index) (rising_rest (entries_of first.rows.items) _ rising_halves) begins in
        let room : length first.rows.items < PAGE_ROWS =
        omega (arith, found.most, second.some, ap length same, length-append first.rows.items second.rows.items) in
        rw as_list (page_between o (take index pages) (second ∷ drop (suc index) pages) first index long h.passed ahead room)

    pub room_after : begins_up_to o second.rows.items ≡ true → IsPageWithRoom o (divided pages index first second) (index + 1)
    room_after begins =
        let early : List Page = take index pages ++ first ∷ [] in
        let after = rows_passed o (entries_of first.rows.items) second.rows.items (back pages index) second.some rising_halves begins in
        let passed : IsAfterAll o (entries_in early) = subst (IsAfterAll o) (sym (pages-append (take index pages) (first ∷ [])))
        (all_both _ (prefix pages index) _ h.passed (all_both _ (entries_of first.rows.items) [] after tt)) in
        let room : length second.rows.items < PAGE_ROWS =
        omega (arith, found.most, first.some, ap length same, length-append first.rows.items second.rows.items) in
        rw (as_list, ← append_assoc (take index pages) (first ∷ []) (second ∷ drop (suc index) pages))
        (page_between o early (drop (suc index) pages) second (index + 1) (length_push (take index pages) first ∙ ap (λ k. k + 1) long) passed h.ahead room)

-- ---- no pages

pub no_pages : (o : List ℕ) (pages : List Page) (index : ℕ) → IsPageOf o pages index → length pages ≤ index → entries_in pages ≡ []
no_pages o pages index h past = grind (arith, common_steps)

pub get_none : (o : List ℕ) (pages : List Page) (index : ℕ) → ArePages pages → IsPageOf o pages index → length pages ≤ index
    → get (from_sorted {R = slice_cmp nat_cmp} (entries_in pages)) o ≡ None
get_none o pages index rising h past = get_in o pages rising ∙ ap (find (slice_cmp nat_cmp) o) (no_pages o pages index h past)

-- ---- a row after all others

-- a name that comes after the last row comes after all rows
pub after_all : (o : List ℕ) (pages : List Page) (page : Page) (row : VarBind) → ArePages pages → 0 < length pages → IsLast pages page
    → IsLast page.rows.items row → slice_cmp nat_cmp row.name o ≡ Less → IsAfterAll o (entries_in pages)
after_all o pages page row rising some last last_row less =
    let init : List VarBind = take (length page.rows.items - 1) page.rows.items in
    let early : Entries = entries_in (take (length pages - 1) pages) ++ entries_of init in
    let rows : entries_of page.rows.items ≡ entries_of init ++ entry_of row ∷ [] =
    ap entries_of (last_of page.rows.items row page.some last_row) ∙ rows-append init (row ∷ []) in
    let whole : entries_in pages ≡ early ++ entry_of row ∷ [] =
    ap entries_in (last_of pages page some last) ∙ pages-append (take (length pages - 1) pages) (page ∷ [])
    ∙ rw rows (simp (append_assoc, append-nil)) in
    subst (IsAfterAll o) (sym whole) (after_last o early (entry_of row) (subst IsSorted whole rising) less)

-- if a row is appended to the last page, then its entry is appended to the entries of all pages
pub appended : (pages : List Page) (index : ℕ) (found new : Page) (row : VarBind) → length pages ≡ index + 1 → found ≡ slice_index_or pages index found
    → new.rows.items ≡ found.rows.items ++ row ∷ [] → entries_in (slice_set pages index new) ≡ entries_in pages ++ entry_of row ∷ []
appended pages index found new row long read same =
    let low : index < length pages = omega (arith, long) in
    let none : drop (suc index) pages ≡ [] = drop_all (suc index) pages (omega (arith, long)) in
    spliced pages index new _ low (ap entries_of same ∙ rows-append found.rows.items (row ∷ []))
    ∙ rw (parts pages index found (slice_get_read pages (length pages) index found refl low read), none) (simp (append_assoc, append-nil))

-- if a page of one row is appended, then the entry of this row is appended to the entries of all pages
pub appended_page : (old new : List Page) (page : Page) (row : VarBind) → new ≡ old ++ page ∷ [] → page.rows.items ≡ row ∷ []
    → entries_in new ≡ entries_in old ++ entry_of row ∷ []
appended_page old new page row pushed rows = grind (arith, common_steps, pages-append)

-- ---- the rows after one

-- if the row before an index of a page has the name `o`, or `o` is between that row and the next one, then the rows of the page from that index on and the
-- pages after it are the rows after `o`
pub apart_between : (o : List ℕ) (pages : List Page) (index : ℕ) (page : Page) (k : ℕ) → ArePages pages → slice_get pages index ≡ Some page
    → SplitsAt o (take k page.rows.items) (drop k page.rows.items)
    → (early : List (List ℕ × Datum))
    × IsSplitAt (from_sorted (entries_in pages)) o early (entries_of (drop k page.rows.items) ++ entries_in (drop (suc index) pages))
apart_between o pages index page k rising at splits =
    let e : List ℕ × Datum = entry_of splits.row in
    let early : Entries = prefix pages index ++ entries_of splits.init in
    let late : Entries = entries_of (drop k page.rows.items) ++ back pages index in
    let whole : entries_in pages ≡ early ++ e ∷ late =
    parts pages index page at ∙ rw (halves page.rows.items k, splits.last, rows-append splits.init (splits.row ∷ [])) (simp append_assoc) in
    let sorted : IsSorted (early ++ e ∷ late) = subst IsSorted whole rising in
    let ahead : IsBeforeAll o late = elim splits.next [
      | inl name ↦ subst (λ (p : List ℕ). IsBeforeAll p late) name (before_later early late e sorted)
      | inr begins ↦ rows_ahead o (drop k page.rows.items) (back pages index) (rising_rest (e ∷ []) late (rising_rest early (e ∷ late) sorted)) begins
    ] in (
      early ++ e ∷ [],
      splits_apart o pages (early ++ e ∷ []) late rising (whole ∙ sym (append_assoc early (e ∷ []) late))
          (all_both _ early (e ∷ []) (after_none o early (after_up_to o early late e sorted splits.up_to)) (none_before o e.0 splits.up_to, tt)) ahead,
    )

-- if the k-th row of the n-th page has the name `o`, then the rows after `o` are the later rows of that page and the rows of the later pages
pub apart_after : (o : List ℕ) (pages : List Page) (n : ℕ) (page : Page) (k : ℕ) (row : VarBind) → ArePages pages → n ≤ length pages
    → 0 < length (take n pages) → IsLast (take n pages) page → 0 < length (take k page.rows.items) → IsLast (take k page.rows.items) row → row.name ≡ o
    → (early : List (List ℕ × Datum))
    × IsSplitAt (from_sorted (entries_in pages)) o early (entries_of (drop k page.rows.items) ++ entries_in (drop n pages))
apart_after o pages n page k row rising within some last row_some row_last name =
    let rows : List VarBind = take k page.rows.items in
    let one_less : suc (n - 1) ≡ n = omega (arith, some, length-take-le n pages within) in
    rw (← one_less) (apart_between o pages (n - 1) page k rising (last_in_prefix pages n page within last) record {
      init = take (length rows - 1) rows;
      row = row;
      last = last_of rows row row_some row_last;
      up_to = subst (λ (p : List ℕ). is_le (slice_cmp nat_cmp row.name p) ≡ true) name (ap is_le (tied_itself nat_list_cmp_total row.name));
      next = inl name;
    })

-- a row of a page is found by its name
pub found_in_page : (pages : List Page) (index : ℕ) (page : Page) (k : ℕ) (row : VarBind) → ArePages pages → slice_get pages index ≡ Some page
    → slice_get page.rows.items k ≡ Some row → find (slice_cmp nat_cmp) row.name (entries_in pages) ≡ Some (row.value)
found_in_page pages index page k row rising at row_at =
    let rows : Entries = entries_of page.rows.items in
    find-listed (entry_of row) (entries_in pages) rising
    (rw (parts pages index page at) (Contains-append_right (prefix pages index) (rows ++ back pages index) (entry_of row)
    (Contains-append_left rows (back pages index) (entry_of row) (listed_at page.rows.items k row row_at))))

-- ---- a row that is inserted into its page

module _ (o : List ℕ) (pages : List Page) (index : ℕ) (w : IsPageWithRoom o pages index) (found : Page) (read : found ≡ slice_index_or pages index found) where
  is_page : found ≡ w.page
  is_page = page_read pages index w.page found w.at read

  pub rising_found : ArePages pages → IsIncreasing found.rows.items
  rising_found rising = subst (λ (p : Page). IsIncreasing p.rows.items) (sym is_page) (page_rising pages index w.page w.at rising)

  pub room_found : length found.rows.items < PAGE_ROWS
  room_found = subst (λ (p : Page). length p.rows.items < PAGE_ROWS) (sym is_page) w.room

  pub put_found : (v : Datum) (new : Page) → entries_of new.rows.items ≡ put (slice_cmp nat_cmp) o v (entries_of found.rows.items)
      → entries_in (slice_set pages index new) ≡ put (slice_cmp nat_cmp) o v (entries_in pages)
  put_found v new same = grind (arith, common_steps, spliced, slice_get_within, is_page, put_in_page)

  pub kept_found : (new : Page) → new.rows.items ≡ found.rows.items → entries_in (slice_set pages index new) ≡ entries_in pages
  kept_found new same = same_rows pages index found new (slice_get_within pages index w.page w.at) read same

  pub named_found : has_name o (entries_of found.rows.items) ≡ has_name o (entries_in pages)
  named_found = grind (arith, common_steps, is_page, is_some, find_in_page)

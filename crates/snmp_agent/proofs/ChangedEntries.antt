-- If a row is inserted among others or removed, then the entries change as `put` and `without_name` say. A MIB view stays a MIB view if a variable with a
-- name and a value that an instance can have is put (`put_good`), or if an instance is removed (`removed_good`).
use Rattle.std.proofs.{lemmas.Grind.common_steps, lemmas.Option.slice_get-get_or, lemmas.Option.slice_get_within}
use Rattle.std.proofs.Common.{◌≡◌, ℕ, suc, ◌-◌, Bool, true, false, not, cond, is_some, List, [], ◌∷◌, ◌++◌, length, take, drop, Some, slice_index_or}
use Rattle.std.proofs.Common.{None, slice_set, refl, sym, ◌∙◌, ap, subst, arith, Ordering, Less, Result, Ok, Err, IfOk, IfErr}
use Rattle.std.specs.{declared.alloc.AllocError.AllocError, Ordering.nat_cmp, Ordering.is_eq, Ordering.eq_by_cmp, Cmp.tied_itself, Cmp.alike_right}
use Rattle.std.specs.{Cmp.eq_by_cmp_equiv, Cmp.Lexicographic.slice_cmp, Cmp.Lexicographic.nat_list_cmp_total}
use Rattle.std.specs.FinMap.{FinMap, get, find, from_sorted, insert, remove, contains_key, get-from_sorted, entries-from_sorted, entries-insert}
use Rattle.std.specs.FinMap.{get-insert, get-remove, same_map, same_entries_map, nat_cmp-IsAntisymmetric, slice_cmp-IsAntisymmetric}
use Rattle.std.specs.FinMap.Entries.{put, by_order, is_sorted-put, is_sorted-where_key, find-where_key}
use Rattle.std.specs.List.{slice_get, insert as insert_at, remove as remove_at}
use Rattle.std.proofs.lemmas.List.{append-nil, take-append-drop, map-append, set_split}
use Rattle.snmp_oid.specs.Identifier.{IsWire}
use Rattle.snmp_wire.specs.Message.{Datum, VarBind}
use Rattle.snmp_agent.specs.table.Table.{MibView, IsRow, IsInstanceName, IsInstanceValue, IsMibView, with_row, without_row}
use Rattle.snmp_agent.specs.table.Entries.{IsBeforeAll, IsBeforeNone, IsAfterAll, view_of, without_name, entry_of}
use Rattle.snmp_agent.specs.table.Pages.{IsIndexAfter, IsIncreasing, IsSorted, HasNameAt, BelongsAt, has_name, entries_of}
use Rattle.snmp_agent.proofs.Lists.{IsLast, all_back, around, last_in_prefix, last_of}
use Rattle.snmp_agent.proofs.SortedEntries.{after_earlier, after_last, before_later, rising_first, turned, same_name}

abbrev Entries : Type 0
Entries = List (List ℕ × Datum)

abbrev cmp : List ℕ → List ℕ → Ordering
cmp = slice_cmp nat_cmp

-- ---- lists of entries: those before a name, and those after it

pub put_past : (o : List ℕ) (v : Datum) (prefix es : Entries) → IsAfterAll o prefix → put cmp o v (prefix ++ es) ≡ prefix ++ put cmp o v es
put_past o v [] es h = refl
put_past o v (e ∷ prefix) es h = grind (arith, common_steps, put_past o v prefix es h.1)

pub put_in : (o : List ℕ) (v : Datum) (es back : Entries) → IsBeforeAll o back → put cmp o v (es ++ back) ≡ put cmp o v es ++ back
put_in o v [] [] h = refl
put_in o v [] (e ∷ back) h = ap (λ r. by_order r ((o, v) ∷ e ∷ back) ((e.0, v) ∷ back) (e ∷ put cmp o v back)) h.0
put_in o v (e ∷ es) back h = grind (arith, common_steps, put_in o v es back h)

keeps_after : (o : List ℕ) (es : Entries) → IsBeforeAll o es → without_name o es ≡ es
keeps_after o [] h = refl
keeps_after o (e ∷ es) h = grind (arith, common_steps, keeps_after o es h.1)

pub without_past : (o : List ℕ) (prefix es : Entries) → IsAfterAll o prefix → without_name o (prefix ++ es) ≡ prefix ++ without_name o es
without_past o [] es h = refl
without_past o (e ∷ prefix) es h = grind (arith, common_steps, without_past o prefix es h.1)

pub without_in : (o : List ℕ) (es back : Entries) → IsBeforeAll o back → without_name o (es ++ back) ≡ without_name o es ++ back
without_in o [] back h = keeps_after o back h
without_in o (e ∷ es) back h = grind (arith, common_steps, without_in o es back h)

none_after : (o : List ℕ) (es : Entries) → IsBeforeAll o es → find cmp o es ≡ None
none_after o [] h = refl
none_after o (e ∷ es) h = ap (λ r. cond (is_eq r) (Some e.1) (find cmp o es)) h.0 ∙ none_after o es h.1

pub past_prefix : (o : List ℕ) (prefix back : Entries) → IsAfterAll o prefix → find cmp o (prefix ++ back) ≡ find cmp o back
past_prefix o [] back h = refl
past_prefix o (e ∷ prefix) back h = ap (λ r. cond (is_eq r) (Some e.1) (find cmp o (prefix ++ back))) h.0 ∙ past_prefix o prefix back h.1

pub find_in : (o : List ℕ) (es back : Entries) → IsBeforeAll o back → find cmp o (es ++ back) ≡ find cmp o es
find_in o [] back h = none_after o back h
find_in o (e ∷ es) back h = grind (arith, common_steps, find_in o es back h)

-- `o` comes after all of `prefix` and before all of `back`: to put, to remove or to find `o` in `prefix ++ (es ++ back)` is to do it in `es`
module _ (o : List ℕ) (prefix es back : Entries) (passed : IsAfterAll o prefix) (ahead : IsBeforeAll o back) where
  pub put_mid : (v : Datum) → put cmp o v (prefix ++ (es ++ back)) ≡ prefix ++ (put cmp o v es ++ back)
  put_mid v = put_past o v prefix (es ++ back) passed ∙ ap (λ fs. prefix ++ fs) (put_in o v es back ahead)

  pub without_mid : without_name o (prefix ++ (es ++ back)) ≡ prefix ++ (without_name o es ++ back)
  without_mid = without_past o prefix (es ++ back) passed ∙ ap (λ fs. prefix ++ fs) (without_in o es back ahead)

  pub find_mid : find cmp o (prefix ++ (es ++ back)) ≡ find cmp o es
  find_mid = past_prefix o prefix (es ++ back) passed ∙ find_in o es back ahead

-- an entry inserted after all others is appended
pub put_after : (o : List ℕ) (v : Datum) (es : List (List ℕ × Datum)) → IsAfterAll o es → put cmp o v es ≡ es ++ (o, v) ∷ []
put_after o v es h = ap (put cmp o v) (sym (append-nil es)) ∙ put_past o v es [] h

pub nothing_after : (o : List ℕ) (es : List (List ℕ × Datum)) → IsAfterAll o es → false ≡ has_name o es
nothing_after o es h = ap is_some (sym (ap (find cmp o) (sym (append-nil es)) ∙ past_prefix o es [] h))

-- ---- rows

pub halves : (rows : List VarBind) (index : ℕ) → entries_of rows ≡ entries_of (take index rows) ++ entries_of (drop index rows)
halves rows index = ap entries_of (sym (take-append-drop index rows)) ∙ map-append entry_of (take index rows) (drop index rows)

-- if `row` is at index `index` of a list, then the entries of the list are the entries before it, its own entry, and the entries after it
pub entries_around : (rows : List VarBind) (index : ℕ) (row : VarBind) → entries_of (take index rows ++ row ∷ drop (suc index) rows)
    ≡ entries_of (take index rows) ++ entry_of row ∷ entries_of (drop (suc index) rows)
entries_around rows index row = map-append entry_of (take index rows) (row ∷ drop (suc index) rows)

-- if the last row whose name isn't greater than `o` has the name `o`, then it is the only row of the name `o`, at index `index - 1`
abbrev pub has_name_at : (rows : List VarBind) (index : ℕ) (o : List ℕ) (row : VarBind) → IsIncreasing rows → IsIndexAfter o rows index
    → IsLast (take index rows) row
    → row.name ≡ o → HasNameAt o rows (index - 1)
has_name_at rows index o row rising h last name =
    let k = index - 1 in
    let at : slice_get rows k ≡ Some row = last_in_prefix rows index row h.bound last in
    let sorted = subst IsSorted (ap entries_of (around rows k row at) ∙ entries_around rows k row) rising in
    record {
      found = row;
      at = at;
      low = slice_get_within rows k row at;
      name = name;
      passed = subst (λ (p : List ℕ). IsAfterAll p (entries_of (take k rows))) name (after_earlier (entries_of (take k rows)) _ (entry_of row) sorted);
      ahead = subst (λ (p : List ℕ). IsBeforeAll p (entries_of (drop (suc k) rows))) name (before_later (entries_of (take k rows)) _ (entry_of row) sorted);
    }

neither : (o p : List ℕ) → (cmp o p ≡ Less → ⊥) → (p ≡ o → ⊥) → cmp p o ≡ Less
neither o p before same = grind (arith, common_steps, same_name, turned)

-- if the names of rows increase, then a name that comes before none of them, and isn't the name of the last one, comes after all
after_prefix : (o : List ℕ) (rows : List VarBind) → IsIncreasing rows → IsBeforeNone o (entries_of rows) → ((row : VarBind) → IsLast rows row → row.name ≡ o
    → ⊥)
    → IsAfterAll o (entries_of rows)
after_prefix o [] rising passed other = tt
after_prefix o (first ∷ rows) rising passed other =
    let all : List VarBind = first ∷ rows in
    let row : VarBind = slice_index_or all (length all - 1) first in
    let at : IsLast all row = slice_get-get_or all (length all - 1) first (omega arith) in
    let init = entries_of (take (length all - 1) all) in
    let parts : entries_of all ≡ init ++ entry_of row ∷ [] =
    ap entries_of (last_of all row (omega arith) at) ∙ map-append entry_of (take (length all - 1) all) (row ∷ []) in
    let none = all_back _ init (entry_of row ∷ []) (subst (IsBeforeNone o) parts passed) in
    subst (IsAfterAll o) (sym parts) (after_last o init (entry_of row) (subst IsSorted parts rising) (neither o row.name none.0 (other row at)))

pub belongs_at : (rows : List VarBind) (index : ℕ) (o : List ℕ) → IsIncreasing rows → IsIndexAfter o rows index
    → ((row : VarBind) → IsLast (take index rows) row → row.name ≡ o → ⊥) → BelongsAt o rows index
belongs_at rows index o rising h other =
    let prefix = rising_first (entries_of (take index rows)) (entries_of (drop index rows)) (subst IsSorted (halves rows index) rising) in
    record { bound = h.bound; passed = after_prefix o (take index rows) prefix h.passed other; ahead = h.ahead }

module _ (o : List ℕ) (rows : List VarBind) (index : ℕ) where
  abbrev prefix : Entries
  prefix = entries_of (take index rows)

  abbrev back : Entries
  back = entries_of (drop (suc index) rows)

  -- if a row has the name `o`, then all entries are the entries before it, its own entry, and the entries after it
  with_it : (h : HasNameAt o rows index)
      → entries_of rows ≡ prefix ++ (o, h.found.value) ∷ back
  with_it h =
      ap entries_of (around rows index h.found h.at) ∙ entries_around rows index h.found
      ∙ ap (λ (p : List ℕ). prefix ++ (p, h.found.value) ∷ back) h.name

  pub row_replaced : (new : VarBind) → HasNameAt o rows index → new.name ≡ o
      → entries_of (slice_set rows index new) ≡ put cmp o (new.value) (entries_of rows)
  row_replaced new h name =
      rw (set_split rows index new h.low, entries_around rows index new, name, with_it h)
      (sym (put_mid o prefix ((o, h.found.value) ∷ []) back h.passed h.ahead new.value
      ∙ ap (λ r. prefix
      ++ (by_order r ((o, new.value) ∷ (o, h.found.value) ∷ []) ((o, new.value) ∷ []) ((o, h.found.value) ∷ (o, new.value) ∷ []) ++ back))
      (tied_itself nat_list_cmp_total o)))

  pub row_inserted : (new : VarBind) → BelongsAt o rows index → new.name ≡ o
      → entries_of (insert_at rows index new) ≡ put cmp o (new.value) (entries_of rows)
  row_inserted new h name =
      rw (map-append entry_of (take index rows) (new ∷ drop index rows), name, halves rows index)
      (sym (put_mid o prefix [] (entries_of (drop index rows)) h.passed h.ahead new.value))

  pub row_removed : HasNameAt o rows index → entries_of (remove_at rows index) ≡ without_name o (entries_of rows)
  row_removed h =
      rw (map-append entry_of (take index rows) (drop (suc index) rows), with_it h)
      (sym (without_mid o prefix ((o, h.found.value) ∷ []) back h.passed h.ahead
      ∙ ap (λ r. prefix ++ (cond (not (is_eq r)) ((o, h.found.value) ∷ []) [] ++ back)) (tied_itself nat_list_cmp_total o)))

  pub name_found : (h : HasNameAt o rows index) → find cmp o (entries_of rows) ≡ Some h.found.value
  name_found h =
      rw (with_it h) (find_mid o prefix ((o, h.found.value) ∷ []) back h.passed h.ahead
      ∙ ap (λ r. cond (is_eq r) (Some h.found.value) None) (tied_itself nat_list_cmp_total o))

  pub no_name : BelongsAt o rows index → find cmp o (entries_of rows) ≡ None
  no_name h = rw (halves rows index) (find_mid o prefix [] (entries_of (drop index rows)) h.passed h.ahead)

-- ---- maps

turned_cond : {A : Type 0} (b : Bool) (x y : A) → cond (not b) x y ≡ cond b y x
turned_cond b x y = grind (arith, common_steps)

module _ (o : List ℕ) (es fs : Entries) (rising : IsSorted es) where
  pub sorted_put : (v : Datum) → fs ≡ put cmp o v es → IsSorted fs
  sorted_put v same = subst IsSorted (sym same) (is_sorted-put cmp nat_list_cmp_total o v es rising)

  pub map_put : (v : Datum) → fs ≡ put cmp o v es → from_sorted {R = cmp} fs ≡ insert (from_sorted {R = cmp} es) o v
  map_put v same =
      let m : FinMap cmp Datum = from_sorted es in
      let left = entries-from_sorted cmp fs (sorted_put v same) in
      let right = entries-insert nat_list_cmp_total m o v ∙ ap (put cmp o v) (entries-from_sorted cmp es rising) in
      same_entries_map (from_sorted fs) (insert m o v) (left ∙ same ∙ sym right)

  pub sorted_without : fs ≡ without_name o es → IsSorted fs
  sorted_without same = subst IsSorted (sym same) (is_sorted-where_key cmp (λ p. not (eq_by_cmp cmp o p)) es rising)

  pub map_removed : fs ≡ without_name o es → from_sorted {R = cmp} fs ≡ remove (from_sorted {R = cmp} es) o
  map_removed same =
      let m : FinMap cmp Datum = from_sorted es in
      let each : (q : List ℕ) → get (from_sorted {R = cmp} fs) q ≡ get (remove m o) q = λ q.
      get-from_sorted cmp fs q (sorted_without same)
      ∙ ap (find cmp q) same
      ∙ find-where_key cmp (λ p. not (eq_by_cmp cmp o p)) q (λ x t. ap (λ r. not (is_eq r)) (sym (alike_right nat_list_cmp_total q x o t))) es
      ∙ turned_cond (eq_by_cmp cmp o q) (find cmp q es) None
      ∙ ap (λ b. cond b None (find cmp q es)) ((eq_by_cmp_equiv nat_list_cmp_total).symm o q)
      ∙ ap (cond (eq_by_cmp cmp q o) None) (sym (get-from_sorted cmp es q rising))
      ∙ sym (get-remove nat_list_cmp_total m o q) in
      same_map nat_list_cmp_total (slice_cmp-IsAntisymmetric nat_cmp-IsAntisymmetric) (from_sorted fs) (remove m o) each

  pub had_name : has_name o es ≡ contains_key (from_sorted {R = cmp} es) o
  had_name = ap is_some (sym (get-from_sorted cmp es o rising))

pub tied : (o p : List ℕ) (b : Bool) → eq_by_cmp cmp o p ≡ b → b ≡ true → o ≡ p
tied o p b is yes_it = grind (arith, common_steps, same_name)

-- `b` is the result of a test whether a row's name equals `o`: the row has the name `o` if `b` is true (`same_named`), and only then (`other_named`)
module _ (o : List ℕ) {row name : List ℕ} {r : Ordering} {b : Bool} (is : name ≡ row) (compared : r ≡ cmp name o) (test : b ≡ is_eq r) where
  tie : b ≡ eq_by_cmp cmp row o
  tie = test ∙ ap is_eq (compared ∙ ap (λ (p : List ℕ). cmp p o) is)

  pub same_named : b ≡ true → row ≡ o
  same_named yes_it = tied row o b (sym tie) yes_it

  pub other_named : b ≡ false → row ≡ o → ⊥
  other_named no_it same =
      let ties : eq_by_cmp cmp row o ≡ true = ap is_eq (ap (λ (p : List ℕ). cmp p o) same ∙ tied_itself nat_list_cmp_total o) in
      let e : b ≡ eq_by_cmp cmp row o = tie in cc

-- removing a name that no entry has changes nothing
pub nothing_removed : (m : FinMap cmp Datum) (o : List ℕ) → None ≡ get m o → m ≡ remove m o
nothing_removed m o none =
    same_map nat_list_cmp_total (slice_cmp-IsAntisymmetric nat_cmp-IsAntisymmetric) m (remove m o)
    (λ q. elim (eq_by_cmp cmp q o) as (λ b. eq_by_cmp cmp q o ≡ b → get m q ≡ cond b None (get m q)) [
      | true ↦ λ is. ap (get m) (tied q o true is refl) ∙ sym none
      | false ↦ λ _. refl
    ] refl ∙ sym (get-remove nat_list_cmp_total m o q))

-- ---- views

module _ (view : MibView) (good : IsMibView view) (o : List ℕ) where
  -- each variable of the changed view has a name and a value of an instance, since it is the one that was put, or was there before
  module _ (v : Datum) (name : IsInstanceName o) (value : IsInstanceValue v) where
    put_variable : (p : VarBind) → IsRow (with_row view o v) p → IsInstanceName p.name × IsInstanceValue p.value
    put_variable p row =
        elim (eq_by_cmp cmp p.name o) as (λ b. eq_by_cmp cmp p.name o ≡ b → cond b (Some v) (get view.rows p.name) ≡ Some p.value
        → IsInstanceName p.name × IsInstanceValue p.value) [
          | true ↦ λ is here. let held : p.value ≡ v = cc in (rw (tied p.name o true is refl) name, rw held value)
          | false ↦ λ _ old. (good.names p old, good.values p old)
        ] refl (sym (get-insert nat_list_cmp_total view.rows o v p.name) ∙ row)

    pub put_good : IsMibView (with_row view o v)
    put_good = record { names = λ p row. (put_variable p row).0; values = λ p row. (put_variable p row).1; objects = good.objects }

  left_variable : (p : VarBind) → IsRow (without_row view o) p → IsRow view p
  left_variable p row = grind (arith, common_steps, get-remove nat_list_cmp_total view.rows o p.name)

  pub removed_good : IsMibView (without_row view o)
  removed_good = record {
    names = λ p row. good.names p (left_variable p row);
    values = λ p row. good.values p (left_variable p row);
    objects = good.objects;
  }

-- no row of a MIB view has a name without an encoding
pub unnamed : (view : MibView) → IsMibView view → (o : List ℕ) → (IsWire o → ⊥) → None ≡ get view.rows o
unnamed view good o never =
    elim (get view.rows o) as (λ found. get view.rows o ≡ found → None ≡ found) [
      | None ↦ λ _. refl
      | Some v ↦ λ is. absurd (never (good.names (record { name = o; value = v }) is).wire)
    ] refl

-- a table stays a MIB view if a row with a name and a value of an instance is put, or if an error leaves it unchanged
pub put_either : (result : Result Bool AllocError) (old new : FinMap cmp Datum) (objects : List (List ℕ)) (o : List ℕ) (v : Datum)
    → IfOk result (λ _. new ≡ insert old o v) → IfErr result (λ _. new ≡ old) → IsInstanceName o → IsInstanceValue v → IsMibView (view_of old objects)
    → IsMibView (view_of new objects)
put_either (Ok b) old new objects o v put_it kept name value good = rw put_it (put_good (view_of old objects) good o v name value)
put_either (Err e) old new objects o v put_it kept name value good = rw kept good

-- what always holds also holds after an error
pub if_err : {A E : Type 0} (r : Result A E) (P : Type 0) → P → IfErr r (λ _. P)
if_err r P p = grind (arith, common_steps)

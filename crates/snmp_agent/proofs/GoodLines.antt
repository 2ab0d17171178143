-- If lines are good, and no two of them are rows of the same name, then they define a table (`table_of_lines`).
use Rattle.std.proofs.Common.{◌≡◌, ℕ, List, [], ◌∷◌, ◌++◌, Some, None, refl, T, append_assoc, append-nil}
use Rattle.std.specs.{List.Sorted.IsPermutation, Ordering.nat_cmp, FinMap.find, FinMap.is_sorted, FinMap.put, FinMap.Entries.is_sorted-put}
use Rattle.std.proofs.lemmas.List.Sorted.{IsPermutation-append_left, IsPermutation-refl, IsPermutation-trans}
use Rattle.std.specs.Cmp.Lexicographic.{slice_cmp, nat_list_cmp_total}
use Rattle.snmp_oid.specs.Numeric.{IsNumericName}
use Rattle.snmp_wire.specs.Message.{Datum, VarBind}
use Rattle.snmp_agent.specs.{private.table.TableBuilder.HoldsLines, private.table.TableBuilder.HoldsTable, table.Format.Format, table.Format.Names}
use Rattle.snmp_agent.specs.{table.Entries.entry_of, table.Stated.AreTableBy, table.Stated.IsTableOf, table.Table.IsMibView, table.Table.MibView}
use Rattle.snmp_agent.specs.table.Form.{Statement, nothing, object_prefix, instance}
use Rattle.snmp_agent.specs.table.Text.{AreTable, HasRow, IsGoodLine, IsRowLine, a_blank, a_prefix, a_row}
use Rattle.snmp_agent.proofs.{Faultless.earlier_differs, Faultless.line_good, ValidRows.is_view, ValidRows.table_of, ValidRows.view_from}
use Rattle.snmp_agent.proofs.OneStatement.{StatesOnly, states_only}
use Rattle.snmp_agent.proofs.TableDrafts.{holds_instance, holds_no_lines, holds_nothing, holds_object, put_moves, whole}

-- there are entries `es` and object prefixes that the lines define, and `fs` are these entries by increasing names
abbrev HasDraft : Format → List (List ℕ) → Type 0
HasDraft format lines = (es : List (List ℕ × Datum)) × (fs : List (List ℕ × Datum))
    × (objects : List (List ℕ)) × HoldsLines format lines es objects × IsPermutation es fs
    × T (is_sorted (slice_cmp nat_cmp) fs)

holds_table : (format : Format) (lines : List (List ℕ)) (h : HasDraft format lines)
    → HoldsTable format lines h.1 h.2
holds_table format lines h = whole format lines h.0 h.1 h.2 h.3 h.4 h.5

-- if the lines `done` have a draft (`HasDraft`), and `line` is the next line of a table, then `done` with `line` appended has a draft too (`one_more`)
module _ (format : Format) (done : List (List ℕ)) (line : List ℕ) (rest : List (List ℕ))
    (good : AreTable format (done ++ line ∷ rest)) (h : HasDraft format done) where
  no_row : (p : VarBind) → IsRowLine format line p → find (slice_cmp nat_cmp) p.name h.1 ≡ None
  no_row p row =
      elim (find (slice_cmp nat_cmp) p.name h.1) as (λ r. find (slice_cmp nat_cmp) p.name h.1 ≡ r → r ≡ None) [
        | None ↦ λ _. refl
        | Some v ↦ λ is.
            let q : VarBind = record { name = p.name; value = v } in
            let earlier : HasRow format done q = ((holds_table format done h).rows q).0 is in
            absurd (earlier_differs format done line rest earlier.0 good.differ earlier.1 q p earlier.2 row refl)
      ] refl

  one_more : (s : Statement) → StatesOnly format line s → HasDraft format (done ++ line ∷ [])
  one_more nothing only =
      (h.0, h.1, h.2, holds_nothing format done line h.0 h.2 h.3 only, h.4, h.5)
  one_more (object_prefix object) only =
      (h.0, h.1, object ∷ h.2, holds_object format done line h.0 h.2 h.3 object (object ∷ h.2) only (λ o. refl), h.4, h.5)
  one_more (instance p) only =
      let es = h.0 ++ entry_of p ∷ [] in
      let fs = put (slice_cmp nat_cmp) p.name p.value h.1 in
      let moved = IsPermutation-trans es (h.1 ++ entry_of p ∷ []) fs
      (IsPermutation-append_left (entry_of p ∷ []) h.0 h.1 h.4)
      (put_moves p.name p.value h.1 (no_row p only.0)) in
      let rising =
      is_sorted-put (slice_cmp nat_cmp) nat_list_cmp_total p.name p.value h.1 h.5 in
      (es, fs, h.2, holds_instance format done line h.0 h.2 h.3 p only, moved, rising)

module _ (one_name : (text o p : List ℕ) → IsNumericName text o → IsNumericName text p → o ≡ p) where
  only_statement : (format : Format) (line : List ℕ) → IsGoodLine format line → (s : Statement) × StatesOnly format line s
  only_statement format line (a_blank h) = (nothing, states_only one_name format line nothing h)
  only_statement format line (a_prefix object h) = (object_prefix object, states_only one_name format line (object_prefix object) h)
  only_statement format line (a_row row h) = (instance row, states_only one_name format line (instance row) h)

  all_held : (format : Format) (rest done : List (List ℕ)) → HasDraft format done → AreTable format (done ++ rest) → HasDraft format (done ++ rest)
  all_held format [] done h good = rw (append-nil done) h
  all_held format (line ∷ rest) done h good =
      let only = only_statement format line (line_good format done line rest good.each) in
      rw (← append_assoc done (line ∷ []) rest) (all_held format rest (done ++ line ∷ [])
      (one_more format done line rest good h only.0 only.1) (rw (append_assoc done (line ∷ []) rest) good))

  pub table_of_lines : (names : Names) (lines : List (List ℕ)) → AreTableBy names lines
      → (view : MibView) × IsTableOf names lines view × IsMibView view
  table_of_lines names lines h =
      let format = h.0 in
      let none : HasDraft format [] =
      ([], [], [], holds_no_lines format [] [] refl refl, IsPermutation-refl [], tt) in
      let held = all_held format lines [] none h.2 in
      let table = holds_table format lines held in
      let stated = table_of format lines held.1 held.2 table in
      (view_from held.1 held.2, (format, h.1, stated), is_view format lines held.1 held.2 table)

-- What a draft, a `TableBuilder`, stores while the text of a table is read.
use Rattle.std.specs.Prelude.{◌≡◌, ℕ, ◌↔◌, ◌≤◌, ◌++◌, T, Bool, true, false, List, map, Some, cond}
use Rattle.std.specs.Prelude.{All, AllPairs, Contains}
use Rattle.std.specs.{List.list_any, List.sum_by, List.Sorted.IsPermutation, Ordering.nat_cmp}
use Rattle.std.specs.{Ordering.eq_by_cmp, Cmp.Lexicographic.slice_cmp}
use Rattle.std.specs.FinMap.{entries, find, is_sorted}
use Rattle.snmp_wire.specs.Message.{Datum, VarBind}
use Rattle.snmp_agent.specs.declared.table.builder.TableBuilder.{TableBuilder}
use Rattle.snmp_agent.specs.declared.table.error.TableError.{TableError}
use Rattle.snmp_agent.specs.declared.table.error.TableError.TheVariants as error
use Rattle.snmp_agent.specs.{table.Format.Format, table.Entries.entry_of, table.Pages.entries_of}
use Rattle.snmp_agent.specs.table.Text.{AreTable, DifferInName, HasPrefix, HasRow, IsGoodLine}
use Rattle.snmp_agent.specs.table.Stated.{IsFirstFaultIn, IsWrong, number_of}
use Rattle.snmp_agent.specs.declared.table.builder.Halt.{Halt}
use Rattle.snmp_agent.specs.declared.table.builder.Halt.TheVariants as halt

abbrev pub draft_objects : TableBuilder → List (List ℕ)
draft_objects draft = map (λ object. object.items) draft.objects.keys

-- the lines define a table; `es` are its entries, by increasing names, and `objects` are its object
-- prefixes
pub record HoldsTable (format : Format) (lines : List (List ℕ)) (es : List (List ℕ × Datum))
    (objects : List (List ℕ)) : Type 0 where
  pub good : AreTable format lines
  pub rising : T (is_sorted (slice_cmp nat_cmp) es)
  pub rows : (p : VarBind)
      → (find (slice_cmp nat_cmp) p.name es ≡ Some p.value) ↔ HasRow format lines p
  pub prefixes : (object : List ℕ)
      → (list_any (eq_by_cmp (slice_cmp nat_cmp) object) objects ≡ true)
      ↔ HasPrefix format lines object

-- 1 if the entry has the name `o`, otherwise 0
abbrev pub has_key : List ℕ → List ℕ × Datum → ℕ
has_key o e = cond (eq_by_cmp (slice_cmp nat_cmp) o e.0) 1 0

-- no two entries have the same name
abbrev pub AreDistinct : List (List ℕ × Datum) → Type 0
AreDistinct es = (o : List ℕ) → sum_by (has_key o) es ≤ 1

-- each line is good, but a name may occur more than once; `es` has the entries of the lines' rows,
-- in any order, and no others, and `objects` has the lines' object prefixes and no others. If no
-- two of `es` have the same name, then no two lines are rows of the same name.
pub record HoldsLines (format : Format) (lines : List (List ℕ)) (es : List (List ℕ × Datum))
    (objects : List (List ℕ)) : Type 0 where
  pub each : All (IsGoodLine format) lines
  pub rows : (p : VarBind) → Contains es (entry_of p) ↔ HasRow format lines p
  pub differ : AreDistinct es → AllPairs (DifferInName format) lines
  pub prefixes : (object : List ℕ)
      → (list_any (eq_by_cmp (slice_cmp nat_cmp) object) objects ≡ true)
      ↔ HasPrefix format lines object

-- the entries of all rows of the draft: of the rows already inserted (`rows`), and then of the rows
-- collected for a later insertion (`late`)
abbrev pub draft_entries : TableBuilder → List (List ℕ × Datum)
draft_entries draft = entries draft.rows ++ entries_of draft.late.items

-- each line is good, and the draft stores the rows and the object prefixes of the lines
abbrev pub IsDraft : Format → List (List ℕ) → TableBuilder → Type 0
IsDraft format lines draft = (es : List (List ℕ × Datum))
    × HoldsLines format lines es (draft_objects draft) × IsPermutation es (draft_entries draft)

-- the error has this line number and says what is wrong with `line`, which comes after the lines
-- `before`; the error `Memory` has no number and says nothing of `line`
abbrev pub IsFaultAfter : Format → List (List ℕ) → List ℕ → ℕ → TableError → Type 0
IsFaultAfter format before line number error.Memory = Unit {0}
IsFaultAfter format before line number fault =
    (number_of fault ≡ number) × IsWrong format before line fault

-- the reading stops for this reason: it found a fault that satisfies `P`; or memory ran out, which
-- requires `exact`; or the text must be read again, which requires that `exact` is `false`. `exact`
-- says that the reading inserts each row at once, without collecting rows.
abbrev pub HaltsBy : (TableError → Type 0) → (exact : Bool) → Halt → Type 0
HaltsBy P exact (halt.Fault fault) = P fault
HaltsBy P exact halt.Memory = exact ≡ true
HaltsBy P exact halt.Again = exact ≡ false

-- the reading stops without a fault: memory ran out if `exact`, otherwise the text must be read
-- again
abbrev pub IsFull : (exact : Bool) → Halt → Type 0
IsFull exact = HaltsBy (λ _. ⊥) exact

-- the reading stops with the fault `wrong`, and no two of `es`, the entries of the earlier lines,
-- have the same name; or the reading stops without a fault
abbrev pub IsStop : List (List ℕ × Datum) → (exact : Bool) → TableError → Halt → Type 0
IsStop es exact wrong = HaltsBy (λ fault. (fault ≡ wrong) × AreDistinct es) exact

-- the reading stops with the fault `Double` of this line number: one of `es`, the entries of the
-- earlier lines, has the name `o`, and no two of `es` have the same name; or the reading stops
-- without a fault
abbrev pub IsHaltAt : List ℕ → List (List ℕ × Datum) → ℕ → (exact : Bool) → Halt → Type 0
IsHaltAt o es number exact = HaltsBy (λ fault. (fault ≡ error.Double number)
    × AreDistinct es × (v : Datum) × Contains es (o, v)) exact

-- the reading stops with the fault of `line`, which has this number, and the earlier lines
-- (`before`) define a table; or the reading stops without a fault. The fault `Memory` says nothing
-- of `line`.
abbrev pub IsHalt : Format → List (List ℕ) → List ℕ → ℕ → (exact : Bool) → Halt → Type 0
IsHalt format before line number exact =
    HaltsBy (λ fault. AreTable format before × IsFaultAfter format before line number fault) exact

-- the reading stops at the first faulty line, or without a fault; the fault `Memory` says nothing
-- of the lines
abbrev pub IsFirstHalt : Format → List (List ℕ) → (exact : Bool) → Halt → Type 0
IsFirstHalt format lines exact = HaltsBy (IsFirstFaultIn format lines) exact

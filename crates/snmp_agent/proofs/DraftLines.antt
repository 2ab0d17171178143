-- If a draft stores what some lines define, then it also stores what the next line defines (`row_added`), or the reading stops at that line (`row_halted`,
-- `stopped`).
use Rattle.std.proofs.lemmas.Grind.{common_steps}
use Rattle.std.proofs.Common.{◌≡◌, ℕ, List, [], ◌∷◌, ◌++◌, refl, sym, ap, subst, Result, IfOk, IfErr, MatchResult, append-nil, ◌∙◌, Bool}
use Rattle.std.proofs.Common.{◌+◌, ◌<◌, ◌≤◌, append_assoc, arith, length, length-append}
use Rattle.std.specs.{Str.Lines.lines, List.Contains, List.Sorted.IsPermutation, FinMap.entries, FinMap.entries_sorted}
use Rattle.std.proofs.lemmas.List.Sorted.{Contains-permutation, IsPermutation-append_left, IsPermutation-sym, IsPermutation-trans}
use Rattle.snmp_wire.specs.Message.{Datum, VarBind}
use Rattle.snmp_agent.specs.{declared.table.builder.TableBuilder.TableBuilder, declared.table.builder.Halt.Halt, declared.table.error.TableError.TableError}
use Rattle.snmp_agent.specs.{table.Form.States, table.Form.instance, table.Format.Format, table.Entries.entry_of, table.Text.AreTable}
use Rattle.snmp_agent.specs.declared.table.error.TableError.TheVariants as error
use Rattle.snmp_agent.specs.table.Stated.{IsAfterGoodLines, IsFirstFaultIn, number_of}
use Rattle.snmp_agent.specs.private.table.TableBuilder.{AreDistinct, HaltsBy, HoldsTable, IsDraft, IsFaultAfter, IsFirstHalt, IsFull, IsHalt, IsHaltAt}
use Rattle.snmp_agent.specs.private.table.TableBuilder.{IsStop, draft_entries, draft_objects}
use Rattle.snmp_agent.proofs.OneStatement.{StatesOnly}
use Rattle.snmp_agent.proofs.TableDrafts.{distinct_moved, distinct_sorted, double, good_lines, holds_instance, whole}

pub either : {A B : Type 0} {P P' : A → Type 0} {Q Q' : B → Type 0} (r : Result A B) → IfOk r P
    → IfErr r Q → ((a : A) → P a → P' a) → ((b : B) → Q b → Q' b) → MatchResult r P' Q'
either r p q f g = grind (arith, common_steps)

-- if each fault that satisfies `P` satisfies `Q`, and a reading stops by `HaltsBy P`, then it stops by `HaltsBy Q`
halts_weaker : (P Q : TableError → Type 0) (exact : Bool)
    → ((fault : TableError) → P fault → Q fault) → (e : Halt) → HaltsBy P exact e
    → HaltsBy Q exact e
halts_weaker P Q exact f e k = grind (arith, common_steps)

-- if the reading stops without a fault, then it stops by `HaltsBy P` for any `P`
pub full : (P : TableError → Type 0) (exact : Bool) (e : Halt) → IsFull exact e
    → HaltsBy P exact e
full P exact = halts_weaker (λ _. ⊥) P exact (λ fault none. absurd none)

module _ (format : Format) (before : List (List ℕ)) (line : List ℕ) (number : ℕ) (old : TableBuilder)
    (h : IsDraft format before old) where
  -- if `line` contains a row, and that row is added to the draft, then the draft stores what the lines `before` and `line` define
  pub row_added : (row : VarBind) → StatesOnly format line (instance row) → (new : TableBuilder)
      → IsPermutation (draft_entries old ++ entry_of row ∷ []) (draft_entries new)
      → new.objects ≡ old.objects → IsDraft format (before ++ line ∷ []) new
  row_added row only new moved same = (
    h.0 ++ entry_of row ∷ [],
    rw same (holds_instance format before line h.0 (draft_objects old) h.1 row only),
    IsPermutation-trans _ _ _
        (IsPermutation-append_left (entry_of row ∷ []) h.0 (draft_entries old) h.2) moved,
  )

  -- if no two entries of the draft have the same name, then the lines `before` define a table
  table_before : AreDistinct (draft_entries old) → AreTable format before
  table_before distinct = good_lines format before h.0 (draft_objects old) h.1
      (distinct_moved h.0 (draft_entries old) h.2 distinct)

  abbrev Here : TableError → Type 0
  Here fault = AreTable format before × IsFaultAfter format before line number fault

  -- if the reading stops since an entry of the draft has the name of the row on `line` (`IsHaltAt`), then it stops since `line` is faulty (`IsHalt`)
  pub row_halted : (row : VarBind) → States format line (instance row) → (e : Halt)
      → IsHaltAt row.name (draft_entries old) number old.exact e
      → IsHalt format before line number old.exact e
  row_halted row states = halts_weaker (λ fault. (fault ≡ error.Double number)
      × AreDistinct (draft_entries old) × (v : Datum) × Contains (draft_entries old) (row.name, v))
      Here old.exact (λ fault k.
      let there : Contains h.0 (row.name, k.2) = Contains-permutation (draft_entries old) h.0
      (row.name, k.2) (IsPermutation-sym h.0 (draft_entries old) h.2) k.3 in (
        table_before k.1,
        subst (λ (f : TableError). IsFaultAfter format before line number f) (sym k.0)
            (refl, double format before line h.0 (draft_objects old) h.1 row k.2 states there),
      ))

  -- if the reading stops with the fault `wrong` (`IsStop`), and `wrong` says what is wrong with `line`, then the reading stops since `line` is faulty
  -- (`IsHalt`)
  pub stopped : (wrong : TableError) → IsFaultAfter format before line number wrong → (e : Halt)
      → IsStop (draft_entries old) old.exact wrong e
      → IsHalt format before line number old.exact e
  stopped wrong faulty = halts_weaker (λ fault. (fault ≡ wrong) × AreDistinct (draft_entries old))
      Here old.exact (λ fault k. (table_before k.1, rw k.0 faulty))

-- if all collected rows of the draft `old` were inserted, which resulted in `new`, then no two rows of `old` have the same name
pub settled_distinct : (old new : TableBuilder) → IsPermutation (draft_entries old) (draft_entries new)
    → new.late.items ≡ [] → AreDistinct (draft_entries old)
settled_distinct old new moved none =
    let es = entries new.rows in
    distinct_moved (draft_entries old) es (rw (none, append-nil es) at moved) (distinct_sorted es (entries_sorted new.rows))

-- ---- the lines of a text

-- the draft stores what the first `number` lines of the text define, `rest` has the other lines, and the first ones take at least `number` octets
pub record IsReadTo (format : Format) (text rest : List ℕ) (draft : TableBuilder) (number : ℕ)
    : Type 0 where
  pub done : List (List ℕ)
  pub parts : lines text ≡ done ++ lines rest
  pub holds : IsDraft format done draft
  pub index : number ≡ length done
  pub few : number + length rest ≤ length text

pub read_nothing : (format : Format) (text : List ℕ) (draft : TableBuilder) → IsDraft format [] draft
    → IsReadTo format text text draft 0
read_nothing format text draft holds =
    record { done = []; parts = refl; holds = holds; index = refl; few = omega arith }

module _ (format : Format) (text rest line after : List ℕ) (old : TableBuilder) (number : ℕ)
    (h : IsReadTo format text rest old number) (e : lines rest ≡ line ∷ lines after) where
  -- if the draft `more` stores what the lines up to `line`, the next one, define, and `new` stores the same as `more`, then the text is read up to the end of
  -- `line`
  pub read_more : (more new : TableBuilder) → length after < length rest
      → IsDraft format (h.done ++ line ∷ []) more
      → IsPermutation (draft_entries more) (draft_entries new) → new.objects ≡ more.objects
      → IsReadTo format text after new (number + 1)
  read_more more new shorter holds moved same = record {
    done = h.done ++ line ∷ [];
    parts = h.parts ∙ ap (λ (ls : List (List ℕ)). h.done ++ ls) e
        ∙ sym (append_assoc h.done (line ∷ []) (lines after));
    holds = (
      holds.0,
      rw same holds.1,
      IsPermutation-trans _ _ _ holds.2 moved,
    );
    index = let now : number ≡ length h.done = h.index in
        omega (arith, length-append h.done (line ∷ []));
    few = let before : number + length rest ≤ length text = h.few in omega arith;
  }

  -- if the reading stops at the next line, then it stops at the first faulty line of the text, or without a fault
  pub halted_at : (stop : Halt)
      → IsHalt format h.done line (number + 1) old.exact stop
      → IsFirstHalt format (lines text) old.exact stop
  halted_at = halts_weaker
      (λ fault. AreTable format h.done × IsFaultAfter format h.done line (number + 1) fault)
      (IsFirstFaultIn format (lines text)) old.exact (λ fault k. cases k.0 fault k.1) where
        after_good : AreTable format h.done → (at : ℕ) → at ≡ number + 1
            → IsAfterGoodLines format (lines text) at h.done line
        after_good good at same = record {
          back = lines after;
          parts = h.parts ∙ ap (λ (ls : List (List ℕ)). h.done ++ ls) e;
          line_number = let now : number ≡ length h.done = h.index in omega arith;
          good = good;
        }

        cases : AreTable format h.done → (f : TableError)
            → IsFaultAfter format h.done line (number + 1) f → IsFirstFaultIn format (lines text) f
        cases good error.Memory j = tt
        cases good fault j = (h.done, line, after_good good (number_of fault) j.0, j.1)

-- if all lines were read and all collected rows inserted, then the draft has the rows and the object prefixes of the table that the text defines
pub all_read : (format : Format) (text : List ℕ) (old new : TableBuilder) (number : ℕ)
    → IsReadTo format text [] old number → IsPermutation (draft_entries old) (draft_entries new)
    → new.late.items ≡ [] → new.objects ≡ old.objects
    → HoldsTable format (lines text) (entries new.rows) (draft_objects new)
all_read format text old new number h moved none same =
    let es = entries new.rows in
    let all : lines text ≡ h.done = h.parts ∙ append-nil h.done in
    let sorted : IsPermutation h.holds.0 es = rw (none, append-nil es) at (IsPermutation-trans _ _ _ h.holds.2 moved) in
    rw (all, same) (whole format h.done h.holds.0 es (draft_objects old) h.holds.1 sorted (entries_sorted new.rows))

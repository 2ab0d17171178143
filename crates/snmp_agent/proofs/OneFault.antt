-- Lines have at most one first fault, apart from a lack of memory.
use Rattle.std.proofs.{lemmas.Grind.common_steps, lemmas.List.append_cancel_left}
use Rattle.std.proofs.Common.{arith, ◌≡◌, ◌≢◌, inl, inr, ℕ, List, ◌∷◌, ◌++◌, refl, sym, ◌∙◌, ap, length, ◌<◌}
use Rattle.snmp_agent.specs.{declared.table.error.TableError.TableError, table.Text.IsGoodLine, table.Text.a_row, table.Format.Format}
use Rattle.snmp_agent.specs.{table.Format.Names, table.Form.IsBadLine, table.Form.IsBadName, table.Form.IsBadValue}
use Rattle.snmp_agent.specs.declared.table.error.TableError.TheVariants as error
use Rattle.snmp_agent.specs.table.Stated.{IsAfterGoodLines, IsDouble, IsFirstFault, IsFirstFaultIn, IsWrong, number_of}
use Rattle.snmp_agent.proofs.Faultless.{good_line, good_name, good_value, no_fault_in}
use Rattle.snmp_agent.proofs.{Lists.inside, Lists.same_prefix, Statements.same_rows, Unique.one_format}

-- ---- what is wrong with one line

module _ (format : Format) (line : List ℕ) where
  formed_name : IsBadName format line → IsBadLine format line → ⊥
  formed_name h bad = grind (arith, common_steps)

  formed_value : IsBadValue format line → IsBadLine format line → ⊥
  formed_value value bad = bad.no_row value.0 value.1 value.2 value.3

  named_value : IsBadValue format line → IsBadName format line → ⊥
  named_value value (inl name) = value.3.no_object name.0 name.1
  named_value value (inr name) =
      let same = same_rows format line name.0 name.1 name.2 value.0 value.1 value.2 name.3 value.3 in
      name.4 value.4.0 (rw (← same.0) value.4.1)

  module _ (prefix : List (List ℕ)) where
    stated : IsDouble format prefix line → IsGoodLine format line
    stated double = a_row double.0 double.2

    -- at most one thing is wrong with a line: two errors that say what is wrong with it, and have the same number, are the same
    one_wrong : (fault other : TableError) → number_of fault ≡ number_of other
        → IsWrong format prefix line fault → IsWrong format prefix line other → fault ≡ other
    one_wrong (error.BadLine n) (error.BadLine m) e h k = ap error.BadLine e
    one_wrong (error.BadName n) (error.BadName m) e h k = ap error.BadName e
    one_wrong (error.BadValue n) (error.BadValue m) e h k = ap error.BadValue e
    one_wrong (error.Double n) (error.Double m) e h k = ap error.Double e
    one_wrong error.Memory _ e h k = absurd h
    one_wrong _ error.Memory e h k = absurd k
    one_wrong _ _ e h k = absurd (search (formed_name, formed_value, named_value, good_line, good_name, good_value, stated))

-- ---- which line is faulty

-- the fault says what is wrong with a line of `lines`, and the lines before that line define a table
abbrev IsFaulty : Format → List (List ℕ) → TableError → Type 0
IsFaulty format lines fault = (prefix : List (List ℕ)) × (line : List ℕ)
    × IsAfterGoodLines format lines (number_of fault) prefix line × IsWrong format prefix line fault

faulty : (format : Format) (lines : List (List ℕ)) (fault : TableError)
    → IsFirstFaultIn format lines fault → fault ≢ error.Memory → IsFaulty format lines fault
faulty format lines error.Memory h other = absurd (other refl)
faulty format lines _ h other = h

first : (format : Format) (lines : List (List ℕ)) (fault : TableError)
    → IsFaulty format lines fault → IsFirstFaultIn format lines fault
first format lines fault h = grind (arith, common_steps)

module _ (format : Format) (lines : List (List ℕ)) where
  -- the faulty line of `fault` isn't before the faulty line of `other`, since all lines before that of `other` define a table
  not_before : (fault other : TableError) (h : IsFaulty format lines fault) (k : IsFaulty format lines other)
      → fault ≢ error.Memory → length h.0 < length k.0 → ⊥
  not_before fault other h k known low =
      let there = inside h.0 h.1 h.2.back k.0 (k.1 ∷ k.2.back) (sym h.2.parts ∙ k.2.parts) low in
      let after : IsAfterGoodLines format k.0 (number_of fault) h.0 h.1 =
      record { back = there.0; parts = there.1; line_number = h.2.line_number; good = h.2.good } in
      known (no_fault_in format k.0 fault k.2.good (first format k.0 fault (h.0, h.1, after, h.3)))

  same_fault : (fault other : TableError) → IsFaulty format lines fault → IsFaulty format lines other
      → fault ≢ error.Memory → other ≢ error.Memory → fault ≡ other
  same_fault fault other h k one two =
      let early = not_before fault other h k one in
      let late = not_before other fault k h two in
      let long : length h.0 ≡ length k.0 = omega (arith, early, late) in
      let parts : h.0 ++ h.1 ∷ h.2.back ≡ k.0 ++ k.1 ∷ k.2.back = sym h.2.parts ∙ k.2.parts in
      let prefix : h.0 ≡ k.0 = same_prefix h.0 k.0 (h.1 ∷ h.2.back) (k.1 ∷ k.2.back) parts long in
      let back : h.1 ∷ h.2.back ≡ k.1 ∷ k.2.back = append_cancel_left k.0 _ _ (rw prefix at parts) in
      let line : h.1 ≡ k.1 = cc in
      one_wrong format h.1 h.0 fault other (omega (arith, h.2.line_number, k.2.line_number, long)) h.3 (rw (prefix, line) k.3)

pub one_fault : (names : Names) (lines : List (List ℕ)) (fault other : TableError)
    → IsFirstFault names lines fault → IsFirstFault names lines other
    → fault ≢ error.Memory → other ≢ error.Memory → fault ≡ other
one_fault names lines fault other h k one two =
    let here : IsFirstFaultIn h.0 lines other = rw (← one_format names lines h.0 k.0 h.1 k.1) k.2 in
    same_fault h.0 lines fault other (faulty h.0 lines fault h.2 one) (faulty h.0 lines other here two) one two

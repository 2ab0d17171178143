-- Lines that define a table have no fault: reading them fails only if memory runs out.
use Rattle.std.proofs.{lemmas.Grind.common_steps, Math.ListN.get_or-append, Math.Seq.get_or-append_seam}
use Rattle.std.proofs.Common.{◌≡◌, inl, inr, ℕ, List, ◌∷◌, ◌++◌, length, length-append, ◌<◌, refl, subst, arith}
use Rattle.std.specs.List.{All, AllPairs, Contains}
use Rattle.std.proofs.lemmas.List.Elements.{All-contains, Contains-append_right}
use Rattle.snmp_agent.specs.{declared.table.error.TableError.TableError, table.Format.Format, table.Format.Names, table.Table.MibView}
use Rattle.snmp_agent.specs.declared.table.error.TableError.TheVariants as error
use Rattle.snmp_agent.specs.table.Form.{IsObjectText, IsInstanceText, IsBadLine, IsBadName, IsBadValue}
use Rattle.snmp_agent.specs.table.Text.{AreTable, DifferInName, IsGoodLine, IsValueText, a_blank, a_prefix, a_row}
use Rattle.snmp_agent.specs.table.Stated.{IsFirstFault, IsFirstFaultIn, IsTableOf}
use Rattle.snmp_agent.proofs.{Unique.one_format, Statements.blank_no_object, Statements.row_form, Statements.same_object, Statements.same_rows}

pub good_line : (format : Format) (line : List ℕ) → IsGoodLine format line → IsBadLine format line → ⊥
good_line format line (a_blank h) bad = bad.not_blank h
good_line format line (a_prefix object h) bad = bad.no_object h.0 h.1
good_line format line (a_row p h) bad = bad.no_row h.name h.tag h.text (row_form format line p h)

pub good_name : (format : Format) (line : List ℕ) → IsGoodLine format line → IsBadName format line → ⊥
good_name format line (a_blank h) (inl bad) = blank_no_object line bad.0 h bad.1
good_name format line (a_blank h) (inr bad) = bad.3.not_blank h
good_name format line (a_prefix o h) (inl bad) = bad.2 o (subst (λ (t : List ℕ). IsObjectText format t o) (same_object line h.0 bad.0 h.1 bad.1) (h.2, h.3))
good_name format line (a_prefix o h) (inr bad) = bad.3.no_object h.0 h.1
good_name format line (a_row p h) (inl bad) = (row_form format line p h).no_object bad.0 bad.1
good_name format line (a_row p h) (inr bad) =
    let same = same_rows format line bad.0 bad.1 bad.2 h.name h.tag h.text bad.3 (row_form format line p h) in
    bad.4 p.name (subst (λ (n : List ℕ). IsInstanceText format n p.name) same.0 (h.named, h.instance_name))

pub good_value : (format : Format) (line : List ℕ) → IsGoodLine format line → IsBadValue format line → ⊥
good_value format line (a_blank h) bad = bad.3.not_blank h
good_value format line (a_prefix o h) bad = bad.3.no_object h.0 h.1
good_value format line (a_row p h) bad =
    let same = same_rows format line bad.0 bad.1 bad.2 h.name h.tag h.text bad.3 (row_form format line p h) in
    bad.5 p.value (subst (λ (t : List ℕ). IsValueText format bad.1 t p.value) same.2
    (subst (λ (t : List ℕ). IsValueText format t h.text p.value) same.1 h.valued))

pub line_good : (format : Format) (prefix : List (List ℕ)) (line : List ℕ) (back : List (List ℕ))
    → All (IsGoodLine format) (prefix ++ line ∷ back) → IsGoodLine format line
line_good format prefix line back h =
    All-contains (IsGoodLine format) (prefix ++ line ∷ back) line h (Contains-append_right prefix (line ∷ back) line (0, omega arith, refl))

-- if no two of the lines contain rows of the same name, then neither do `line` and `other`, one of the lines before `line`
pub earlier_differs : (format : Format) (prefix : List (List ℕ)) (line : List ℕ) (back : List (List ℕ)) (other : List ℕ)
    → AllPairs (DifferInName format) (prefix ++ line ∷ back)
    → Contains prefix other → DifferInName format other line
earlier_differs format prefix line back other h at =
    let low : length prefix < length (prefix ++ line ∷ back) = omega (arith, length-append prefix (line ∷ back)) in
    let here = h at.0 (length prefix) other at.1 low in
    rw (get_or-append prefix (line ∷ back) other at.0 at.1, at.2, get_or-append_seam prefix line back other) at here

pub no_fault_in : (format : Format) (lines : List (List ℕ)) (fault : TableError) → AreTable format lines
    → IsFirstFaultIn format lines fault → fault ≡ error.Memory
no_fault_in format lines (error.BadLine n) good h =
    absurd (good_line format h.1 (line_good format h.0 h.1 h.2.back (subst (λ ls. All (IsGoodLine format) ls) h.2.parts good.each)) h.3)
no_fault_in format lines (error.BadName n) good h =
    absurd (good_name format h.1 (line_good format h.0 h.1 h.2.back (subst (λ ls. All (IsGoodLine format) ls) h.2.parts good.each)) h.3)
no_fault_in format lines (error.BadValue n) good h =
    absurd (good_value format h.1 (line_good format h.0 h.1 h.2.back (subst (λ ls. All (IsGoodLine format) ls) h.2.parts good.each)) h.3)
no_fault_in format lines (error.Double n) good h =
    let pairs = subst (λ ls. AllPairs (DifferInName format) ls) h.2.parts good.differ in
    let double = h.3 in
    let earlier = double.3 in
    absurd (earlier_differs format h.0 h.1 h.2.back earlier.0 pairs earlier.1 double.1 double.0 earlier.2 double.2 double.4)
no_fault_in format lines error.Memory good h = refl

pub no_fault : (names : Names) (lines : List (List ℕ)) (view : MibView) (fault : TableError) → IsTableOf names lines view → IsFirstFault names lines fault
    → fault ≡ error.Memory
no_fault names lines view fault table first = grind (arith, common_steps, no_fault_in, one_format)

-- What the code reads from a line is what the line contains (`object_states`, `row_states`), or says why it isn't good (`row_faults`).
use Rattle.std.proofs.{lemmas.Grind.common_steps, lemmas.List.append_cancel_left, lemmas.Map.Views.Contains-from_any}
use Rattle.std.proofs.lemmas.List.Elements.{All-nil, All-cons}
use Rattle.std.proofs.Common.{◌≡◌, ◌≢◌, ℕ, ◌^◌, ◌<◌, inl, inr, List, [], ◌∷◌, ◌++◌, Result, IfErr, IfOk, refl, sym, ◌∙◌, append_assoc, arith, codes}
use Rattle.std.proofs.Common.{true}
use Rattle.std.specs.{List.All, List.list_any, Ordering.nat_cmp, Ordering.eq_by_cmp, Cmp.Lexicographic.slice_cmp}
use Rattle.snmp_oid.specs.Numeric.{IsDotted, IsNumericName}
use Rattle.snmp_wire.specs.Message.{Datum, VarBind}
use Rattle.snmp_wire.specs.Message.Datum.{octet_string, null_value, no_such_object, no_such_instance, end_of_mib_view}
use Rattle.snmp_agent.specs.{declared.table.value.Tag.Tag, declared.table.line.Line.Line, declared.table.line.LineFault.LineFault}
use Rattle.snmp_agent.specs.{private.table.Row.tag_text, table.Form.States, table.Form.IsTag, table.Form.IsRowForm}
use Rattle.snmp_agent.specs.declared.table.value.Tag.TheVariants as tag
use Rattle.snmp_agent.specs.table.Format.{Format, EndsAtBar, HasNoEnd, bar}
use Rattle.snmp_agent.specs.table.Text.{IsBlank, IsRowLine, IsValueText}
use Rattle.snmp_agent.specs.private.table.Line.{statement_of, IsInstanceRead, IsLineFault, IsObjectRead}
use Rattle.snmp_agent.proofs.{ChangedEntries.tied, Cuts.HasNoBar, Cuts.no_cut, Cuts.same_cut, Cuts.same_end}

-- ---- first octets

-- the first octet, or 0 if there is none
abbrev first_of : List ℕ → ℕ
first_of [] = 0
first_of (octet ∷ more) = octet

pub blank_no_object : (l text : List ℕ) → IsBlank l → l ≢ codes "object " ++ text
blank_no_object l text h f = grind (arith, common_steps)

-- ---- names

dotted_numbers : (text o : List ℕ) → IsDotted text o → All (λ n. n < 2 ^ 32) o
dotted_numbers text [] h = absurd h
dotted_numbers text (n ∷ []) h = All-cons (λ n. n < 2 ^ 32) n [] h.fits (All-nil (λ n. n < 2 ^ 32))
dotted_numbers text (n ∷ m ∷ o) h = All-cons (λ n. n < 2 ^ 32) n (m ∷ o) h.3.fits (dotted_numbers h.1 (m ∷ o) h.4)

pub name_numbers : (text o : List ℕ) → IsNumericName text o → All (λ n. n < 2 ^ 32) o
name_numbers text o h = grind (arith, common_steps, All-nil, dotted_numbers)

-- ---- lines of rows

-- the known tags
abbrev tags : List (List ℕ)
tags = codes "2" ∷ codes "4" ∷ codes "4x" ∷ codes "6" ∷ codes "64" ∷ codes "65" ∷ codes "66" ∷ codes "67" ∷ codes "68x" ∷ codes "70" ∷ []

-- a tag that is found among the known ones is one of them
found : (t : List ℕ) → list_any (eq_by_cmp (slice_cmp nat_cmp) t) tags ≡ true → IsTag t
found t is = Contains-from_any (λ x y e. tied x y true e refl) t tags is

pub tag_known : (t : Tag) → IsTag (tag_text t)
tag_known tag.Integer = found _ refl
tag_known _ = found _ refl

tag_stated : (format : Format) (t text : List ℕ) (v : Datum) → IsValueText format t text v → IsTag t
tag_stated format t text (octet_string octets) h = elim h.0 [ inl here ↦ rw here.0 (found _ refl) | inr here ↦ rw here.0 (found _ refl) ]
tag_stated format t text null_value h = absurd h
tag_stated format t text no_such_object h = absurd h
tag_stated format t text no_such_instance h = absurd h
tag_stated format t text end_of_mib_view h = absurd h
tag_stated format t text _ h = rw h.0 (found _ refl)

-- a line with a row has the form of one
pub row_form : (format : Format) (l : List ℕ) (p : VarBind) (h : IsRowLine format l p) → IsRowForm format l h.name h.tag h.text
row_form format l p h = grind (arith, common_steps, tag_stated)

-- a line with the form of a row is its name, a bar, and the text after that bar: the tag, a bar and the text of the value
first_cut : (format : Format) (l name tag text : List ℕ) → IsRowForm format l name tag text → l ≡ name ++ bar ∷ (tag ++ bar ∷ text)
first_cut format l name tag text h = h.parts ∙ append_assoc name (bar ∷ tag) (bar ∷ text)

pub no_row_without_bar : (format : Format) (l name tag text : List ℕ) → HasNoEnd format l → IsRowForm format l name tag text → ⊥
no_row_without_bar format l name tag text none h = none name (tag ++ bar ∷ text) (first_cut format l name tag text h) h.name_ends

-- if a line with the form of a row is split at a bar that ends a name, then the row's name is before that bar, and its tag, a bar and its text are after it
cursor_past_first : (format : Format) (l prefix after name tag text : List ℕ) → l ≡ prefix ++ bar ∷ after → EndsAtBar format prefix
    → IsRowForm format l name tag text
    → (name ≡ prefix) × (tag ++ bar ∷ text ≡ after)
cursor_past_first format l prefix after name tag text e ends h = grind (arith, common_steps, same_end, first_cut)

pub no_row_with_one_bar : (format : Format) (l prefix after name tag text : List ℕ) → l ≡ prefix ++ bar ∷ after → EndsAtBar format prefix → HasNoBar after
    → IsRowForm format l name tag text → ⊥
no_row_with_one_bar format l prefix after name tag text e ends nothing_after h =
    no_cut after tag text nothing_after (sym (cursor_past_first format l prefix after name tag text e ends h).1)

-- if the code splits a line that has the form of a row at two bars, then the parts are the name, the tag and the text of the row
pub same_parts : (format : Format) (l prefix after middle back name tag text : List ℕ) → l ≡ prefix ++ bar ∷ after → EndsAtBar format prefix
    → after ≡ middle ++ bar ∷ back
    → HasNoBar middle → IsRowForm format l name tag text
    → (name ≡ prefix) × (tag ≡ middle) × (text ≡ back)
same_parts format l prefix after middle back name tag text e none f none_middle h =
    let first = cursor_past_first format l prefix after name tag text e none h in
    let second = same_cut tag text middle back h.tag_ends none_middle (first.1 ∙ f) in
    (first.0, second.0, second.1)

pub same_rows : (format : Format) (l name tag text name2 tag2 text2 : List ℕ) → IsRowForm format l name tag text → IsRowForm format l name2 tag2 text2
    → (name2 ≡ name) × (tag2 ≡ tag) × (text2 ≡ text)
same_rows format l name tag text name2 tag2 text2 h k = same_parts format l name (tag ++ bar ∷ text) tag text name2 tag2 text2
    (first_cut format l name tag text h) h.name_ends refl h.tag_ends k

-- a line is put together from the parts that the code split it into
pub row_parts : (l prefix after middle back tag : List ℕ) → l ≡ prefix ++ bar ∷ after → after ≡ middle ++ bar ∷ back → middle ≡ tag
    → l ≡ (prefix ++ bar ∷ tag) ++ bar ∷ back
row_parts l prefix after middle back tag e f g = grind (arith, common_steps, append_assoc)

-- ---- what a line contains

pub object_states : (format : Format) (l text : List ℕ) → l ≡ codes "object " ++ text → (r : Result Line LineFault) → IsObjectRead format text r
    → IfOk r (λ stated. States format l (statement_of stated))
object_states format l text e r h = grind (arith, common_steps)

pub row_states : (format : Format) (l name tag text : List ℕ) → IsRowForm format l name tag text → (r : Result Line LineFault)
    → IsInstanceRead format name tag text r → IfOk r (λ stated. States format l (statement_of stated))
row_states format l name tag text e r h = grind (arith, common_steps)

pub row_faults : (format : Format) (l name tag text : List ℕ) → IsRowForm format l name tag text → (r : Result Line LineFault)
    → IsInstanceRead format name tag text r → IfErr r (IsLineFault format l)
row_faults format l name tag text e r h = grind (arith, common_steps)

pub same_object : (l a b : List ℕ) → l ≡ codes "object " ++ a → l ≡ codes "object " ++ b → a ≡ b
same_object l a b e f = append_cancel_left (codes "object ") a b (sym e ∙ f)

-- A search for an octet splits a string where this octet occurs first (`cut`); the first line of a text ends at the first LF (`lines_first`).
use Rattle.std.proofs.{lemmas.Grind.common_steps, lemmas.List.get_or-take, lemmas.List.get_or_default, lemmas.List.length-take-le}
use Rattle.std.proofs.{lemmas.List.Splits.length-slice_split, lemmas.List.Splits.slice_split_at, lemmas.List.Splits.slice_split_none}
use Rattle.std.proofs.{lemmas.Option.slice_get-get_or, Common.eqb-true, Common.false, Common.eqb, Common.[], Common.refl}
use Rattle.std.proofs.Common.{◌≡◌, ◌≢◌, ℕ, suc, ◌<◌, List, ◌∷◌, ◌++◌, length, get_or, take, drop, Some, ap, sym, ◌∙◌, arith}
use Rattle.std.specs.{List.All, List.slice_split, Str.Lines.lines, Str.Lines.lines_of_parts, Str.Lines.strip_carriage_return}
use Rattle.snmp_agent.proofs.Lists.{around}

-- if no octet of the string equals `octet`, the string doesn't contain it
pub others : (octet : ℕ) (text : List ℕ) → ((k : ℕ) → k < length text → get_or text k 0 ≡ octet → ⊥) → All (λ o. o ≢ octet) text
others octet text none = λ k d low same. none k low (get_or_default text k 0 d low ∙ same)

-- `index` is the index of the first `octet` in `text`, and splits `text` there
pub record Cut (octet : ℕ) (text : List ℕ) (index : ℕ) : Type 0 where
  pub parts : text ≡ take index text ++ octet ∷ drop (suc index) text
  pub prefix : All (λ o. o ≢ octet) (take index text)

pub cut : (octet : ℕ) (text : List ℕ) (index : ℕ) → index < length text → get_or text index 0 ≡ octet
    → ((k : ℕ) → k < index → get_or text k 0 ≡ octet → ⊥) → Cut octet text index
cut octet text index low at none = record {
  parts = around text index octet (slice_get-get_or text index 0 low ∙ ap Some at);
  prefix = others octet (take index text) (λ k below same.
      let here : k < index = omega (arith, below, length-take-le index text (omega (arith, low))) in
      none k here (sym (get_or-take index text k 0 here) ∙ same));
}

-- ---- lines

is_other : (octet : ℕ) → octet ≢ 10 → eqb octet 10 ≡ false
is_other octet other = grind (arith, common_steps, eqb-true)

-- if a text has two or more parts between newlines, then its first line is the first part without a CR at its end; its other lines come from the other parts
line_before : (line : List ℕ) (parts : List (List ℕ)) → 0 < length parts
    → lines_of_parts (line ∷ parts) ≡ strip_carriage_return line ∷ lines_of_parts parts
line_before line parts some = grind (arith, common_steps)

pub lines_first : (line rest : List ℕ) → All (λ octet. octet ≢ 10) line → lines (line ++ 10 ∷ rest) ≡ strip_carriage_return line ∷ lines rest
lines_first line rest none =
    ap lines_of_parts (slice_split_at (λ b. eqb b 10) line 10 rest (λ k d low. is_other _ (none k d low)) refl)
    ∙ line_before line (slice_split (λ b. eqb b 10) rest) (omega (arith, length-slice_split (λ b. eqb b 10) rest))

refl_false : (n : ℕ) → eqb (suc n) 0 ≡ false
refl_false n = grind (arith, common_steps, eqb-true)

pub lines_last : (text : List ℕ) → All (λ octet. octet ≢ 10) text → 0 < length text → lines text ≡ text ∷ []
lines_last text none some = grind (arith, common_steps, slice_split_none, is_other, refl_false)

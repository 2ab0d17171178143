-- The longest prefix of a text that is a part (a lexeme or a gap) decides which items `items_at` computes for the text.
use Rattle.std.proofs.{lemmas.Grind.common_steps, lemmas.Bool.cases_lt, lemmas.List.drop-drop, lemmas.List.Sums.sum_by-append}
use Rattle.std.proofs.Common.{◌≡◌, ℕ, zero, suc, ◌+◌, ◌<◌, ◌≤◌, cond, Option, Some, None, Ok, Err, List, [], ◌∷◌, length, take, drop, refl, sym, ap}
use Rattle.std.proofs.Common.{◌∙◌, inl, inr, arith, zero-add, add-zero, length-take-le}
use Rattle.smi_text.specs.{declared.lexer.token.TokenKind.TokenKind, lexer.Lexes.fault_on}
use Rattle.smi_text.specs.lexer.Lexeme.{Part, gap, lexeme, is_newline}
use Rattle.smi_text.specs.lexer.LongestMatch.{HasNoGap, HasNoLexeme, IsPartPrefix, Skips, part_of, longest_prefix, prefix_items, prefix_rest_len, part_items}
use Rattle.smi_text.specs.lexer.LongestMatch.{items_at, newlines}
use Rattle.smi_text.proofs.Parts.{none_some}

-- ---- the longest prefix

pub longest_is : (n : ℕ) (text : List ℕ) (part : Part) (k : ℕ) → IsPartPrefix part_of text part k → 0 < k → k ≤ n → n ≤ length text
    → longest_prefix n text ≡ Some (part, k)
longest_is zero text part k prefix some above within = absurd (omega arith)
longest_is (suc n) text part k prefix some above within =
    elim (cases_lt n k) [
      | inl here ↦ let same : suc n ≡ k = omega arith in rw (same, prefix.reads) refl
      | inr shorter ↦ rw (prefix.longest (suc n) (omega arith) within) (longest_is n text part k prefix some shorter (omega arith))
    ]

pub longest_none : (n : ℕ) (text : List ℕ) → ((m : ℕ) → part_of (take m text) ≡ None) → longest_prefix n text ≡ None
longest_none zero text none = refl
longest_none (suc n) text none = rw (none (suc n)) (longest_none n text none)

-- no part is empty
pub prefix_some : (text : List ℕ) (part : Part) (k : ℕ) → IsPartPrefix part_of text part k → 0 < k
unfolding part_of
prefix_some text part zero prefix = absurd (none_some part prefix.reads)
prefix_some text part (suc k) prefix = omega arith

-- ---- offsets and lines

pub newlines-cons : (c : ℕ) (s : List ℕ) → newlines (c ∷ s) ≡ newlines (c ∷ []) + newlines s
newlines-cons c s = sum_by-append (λ d. cond (is_newline d) 1 0) (c ∷ []) s

pub newlines-one : (c : ℕ) → newlines (c ∷ []) ≡ cond (is_newline c) 1 0
newlines-one c = zero-add (cond (is_newline c) 1 0)

-- the first `k` octets, if they are read already, add no item: they only count as octets, and their newlines as lines
pub items-skipped : (k at before : ℕ) (text : List ℕ) → items_at k at before text ≡ items_at 0 (at + k) (before + newlines (take k text)) (drop k text)
unfolding items_at
items-skipped zero at before text = simp add-zero
items-skipped (suc k) at before [] = refl
items-skipped (suc k) at before (c ∷ cs) = grind (arith, common_steps, items-skipped k (at + 1) (before + newlines (c ∷ [])) cs, newlines-cons)

-- if `k` octets are the longest prefix that is a part, then the items of the text are the items of this part, followed by the items of the remaining text
pub items-prefix : (text : List ℕ) (part : Part) (k at before : ℕ) → IsPartPrefix part_of text part k
    → items_at 0 at before text ≡ part_items at before part (take k text) (items_at 0 (at + k) (before + newlines (take k text)) (drop k text))
unfolding items_at part_of
items-prefix text part zero at before prefix = absurd (none_some part prefix.reads)
items-prefix [] part (suc k) at before prefix = absurd (none_some part prefix.reads)
items-prefix (c ∷ cs) part (suc k) at before prefix =
    let found : longest_prefix (length (c ∷ cs)) (c ∷ cs) ≡ Some (part, suc k) = longest_is (length (c ∷ cs)) (c ∷ cs) part (suc k) prefix
    (omega arith) prefix.within (omega arith) in
    ap (λ f. prefix_items at before (c ∷ cs) f (items_at (prefix_rest_len f) (at + 1) (before + newlines (c ∷ [])) cs)) found
    ∙ ap (part_items at before part (c ∷ take k cs)) (items-skipped (suc k) at before (c ∷ cs))

-- if no part begins a text that isn't empty, then the fault is the only item
pub items-none : (c : ℕ) (cs : List ℕ) (at before : ℕ) → ((m : ℕ) → part_of (take m (c ∷ cs)) ≡ None)
    → items_at 0 at before (c ∷ cs) ≡ Err (fault_on (before + 1) (c ∷ cs)) ∷ []
unfolding items_at
items-none c cs at before none =
    ap (λ f. prefix_items at before (c ∷ cs) f (items_at (prefix_rest_len f) (at + 1) (before + newlines (c ∷ [])) cs))
    (longest_none (length (c ∷ cs)) (c ∷ cs) none)

pub items-nothing : (at before : ℕ) → items_at 0 at before [] ≡ []
unfolding items_at
items-nothing at before = refl

-- ---- gaps: blank octets and comments

pub skips_gap : (text : List ℕ) (n lines k more : ℕ) → IsPartPrefix part_of (drop n text) gap k → newlines (take k (drop n text)) ≡ more
    → Skips text n lines → Skips text (n + k) (lines + more)
skips_gap text n lines k more prefix ended skips at before =
    let offset : (at + n) + k ≡ at + (n + k) = omega arith in
    let line : (before + lines) + newlines (take k (drop n text)) ≡ before + (lines + more) = omega (arith, ended) in
    cc (skips at before, items-prefix (drop n text) gap k (at + n) (before + lines) prefix, drop-drop k n text)

-- ---- one call of `next`

neither : (r : Option Part) → (r ≡ Some gap → ⊥) → ((kind : TokenKind) → r ≡ Some (lexeme kind) → ⊥) → r ≡ None
neither r gaps lexemes = grind (arith, common_steps)

-- if neither a gap nor a lexeme begins a text that isn't empty, its only item is the fault
pub items-fault : (c : ℕ) (cs : List ℕ) (at before : ℕ) → HasNoGap (c ∷ cs) → HasNoLexeme part_of (c ∷ cs)
    → items_at 0 at before (c ∷ cs) ≡ Err (fault_on (before + 1) (c ∷ cs)) ∷ []
items-fault c cs at before gaps lexemes = items-none c cs at before (λ m. neither (part_of (take m (c ∷ cs))) (gaps m) (λ kind. lexemes kind m))

pub items-empty : (at before : ℕ) (text : List ℕ) → length text ≡ 0 → items_at 0 at before text ≡ []
items-empty at before text empty = grind (arith, common_steps, items-nothing)

-- `text` is what follows the first `n` of the octets `unread`, which add no item
module _ (unread text : List ℕ) (at before n ended : ℕ) (skips : Skips unread n ended) (is_rest : text ≡ drop n unread) where
  after_gaps : items_at 0 at before unread ≡ items_at 0 (at + n) (before + ended) text
  after_gaps = skips at before ∙ ap (items_at 0 (at + n) (before + ended)) (sym is_rest)

  pub next_ends : length text ≡ 0 → items_at 0 at before unread ≡ []
  next_ends empty = after_gaps ∙ items-empty (at + n) (before + ended) text empty

  pub next_faults : (length text ≡ 0 → ⊥) → HasNoGap (drop n unread) → HasNoLexeme part_of text
      → items_at 0 at before unread ≡ Err (fault_on ((before + ended) + 1) text) ∷ []
  next_faults some gaps lexemes = grind (arith, common_steps, after_gaps, items-fault)

  pub next_gives_token : (kind : TokenKind) (k : ℕ) → IsPartPrefix part_of text (lexeme kind) k
      → items_at 0 at before unread
      ≡ Ok (record { kind = kind; span = record { start = at + n; «end» = (at + n) + k }; text = take k text; line = (before + ended) + 1 })
      ∷ items_at 0 ((at + n) + k) ((before + ended) + newlines (take k text)) (drop k text)
  next_gives_token kind k prefix =
      let len : length (take k text) ≡ k = length-take-le k text prefix.within in
      cc (after_gaps, items-prefix text (lexeme kind) k (at + n) (before + ended) prefix)

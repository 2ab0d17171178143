-- The tokens of a text.
use Rattle.std.specs.Prelude.{ℕ, ◌+◌, ◌<◌, ◌≤◌, List, [], ◌∷◌, ◌++◌, length, take, drop, Ok, Err}
use Rattle.std.specs.Prelude.{count_by, slice_range, ◌≡◌, if◌then◌else◌}
use Rattle.smi_text.specs.declared.lexer.token.TokenKind.{TokenKind}
use Rattle.smi_text.specs.declared.lexer.token.LexError.{LexError}
use Rattle.smi_text.specs.declared.lexer.token.LexError.TheVariants.{BadByte, OpenString}
use Rattle.smi_text.specs.lexer.Token.{Lexeme, Item}
use Rattle.smi_text.specs.lexer.Lexeme.{Part, gap, lexeme, IsPart, is_newline, is_open_string}

-- the number of the line on which the text after `before` begins; lines are counted from 1
abbrev pub line_after : List ℕ → ℕ
line_after before = count_by is_newline before + 1

-- the lexeme of kind `kind` with the octets `text`, which come after the octets `before`
abbrev pub lexeme_after : List ℕ → TokenKind → List ℕ → Lexeme
lexeme_after before kind text = record {
  kind = kind;
  span = record { start = length before; «end» = length before + length text };
  text = text;
  line = line_after before;
}

-- the fault if neither a lexeme nor a gap (a blank octet or a comment) begins at the start of
-- `text`, which is on line `line`
abbrev pub fault_on : ℕ → List ℕ → LexError
fault_on line text = if is_open_string text then OpenString line else BadByte line

-- the first n octets of the text are a gap or a lexeme, as `part` says, and no longer prefix is a
-- gap or a lexeme
pub record IsLongest (part : Part) (n : ℕ) (text : List ℕ) : Type 0 where
  pub within : n ≤ length text
  pub is_one : IsPart part (take n text)
  pub longest : (other : Part) (m : ℕ) → n < m → m ≤ length text → IsPart other (take m text) → ⊥

-- The text, which follows the octets `before`, is read as lexemes and gaps (blank octets and
-- comments), each as long as possible. Reading ends at the end of the text, or at an octet at which
-- neither begins. The items are the lexemes, and then the fault at that octet, if there is one.
pub data Lexes : List ℕ → List ℕ → List Item → Type 0 where
  ends : {before : List ℕ} → Lexes before [] []
  passes : {before text : List ℕ} {items : List Item} (n : ℕ) → IsLongest gap n text
      → Lexes (before ++ take n text) (drop n text) items
      → Lexes before text items
  gives : {before text : List ℕ} {items : List Item} (kind : TokenKind) (n : ℕ)
      → IsLongest (lexeme kind) n text
      → Lexes (before ++ take n text) (drop n text) items
      → Lexes before text (Ok (lexeme_after before kind (take n text)) ∷ items)
  breaks : {before : List ℕ} (c : ℕ) (cs : List ℕ) → ((part : Part) (m : ℕ)
      → IsPart part (take m (c ∷ cs)) → ⊥)
      → Lexes before (c ∷ cs) (Err (fault_on (line_after before) (c ∷ cs)) ∷ [])

-- The tokens are at or after offset `from`, in order and without overlap. None is empty, and the
-- text of each is the octets of `source` in its span.
abbrev pub AreInOrder : List ℕ → ℕ → List Lexeme → Type 0
AreInOrder source from [] = Unit {0}
AreInOrder source from (t ∷ ts) = (from ≤ t.span.start) × (t.span.start < t.span.end)
    × (t.span.end ≤ length source) × (t.text ≡ slice_range source t.span.start t.span.end)
    × AreInOrder source t.span.end ts

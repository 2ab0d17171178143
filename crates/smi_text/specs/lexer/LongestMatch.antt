-- The tokens of a text, computed in the plain, slow way: every prefix of the unread text is tried,
-- the longest first. A part is a prefix that is a lexeme or a gap (a blank octet or a comment).
-- Contracts see a `Lexer` as the list of its items. The proof that these are the items of `Lexes`
-- is in proofs/.
use Rattle.std.specs.Prelude.{◌≡◌, ℕ, zero, suc, pred, ◌+◌, ◌<◌, ◌≤◌, ◌⊎◌, not, get_or, Bool, true}
use Rattle.std.specs.Prelude.{false, if◌then◌else◌, ◌&&◌, ◌||◌, ◌==◌, Option, Some, None, Ok, Err}
use Rattle.std.specs.Prelude.{List, [], ◌∷◌, length, take, drop, count_by}
use Rattle.std.specs.{List.list_all, Int.w64, Int.trailing_zeros, Bool.then_some}
use Rattle.std.specs.Char.{is_ascii_lowercase, is_ascii_uppercase, is_ascii_digit}
use Rattle.std.specs.Char.{is_ascii_hexdigit}
use Rattle.smi_text.specs.declared.lexer.class.Class.{Class}
use Rattle.smi_text.specs.declared.lexer.class.Class.TheVariants as C
use Rattle.smi_text.specs.declared.lexer.token.TokenKind.{TokenKind}
use Rattle.smi_text.specs.declared.lexer.token.TokenKind.TheVariants as K
use Rattle.smi_text.specs.{lexer.Token.Lexeme, lexer.Token.Item, lexer.Lexes.fault_on}
use Rattle.smi_text.specs.lexer.Lexeme.{Part, gap, lexeme, is_blank, is_hyphen, is_newline}
use Rattle.smi_text.specs.lexer.Lexeme.{is_binary_digit, begins, is_word_rest}

-- ---- what a piece of a text is, by its first octet

-- the symbols of one octet
abbrev pub symbols : List (ℕ × TokenKind)
symbols =
    (123, K.OpenBrace) ∷ (125, K.CloseBrace) ∷ (40, K.OpenParen) ∷ (41, K.CloseParen)
    ∷ (91, K.OpenBracket) ∷ (93, K.CloseBracket) ∷ (60, K.Less) ∷ (62, K.Greater) ∷ (44, K.Comma)
    ∷ (59, K.Semicolon) ∷ (58, K.Colon) ∷ (124, K.Bar) ∷ (46, K.Dot) ∷ (61, K.Equals) ∷ []

abbrev pub symbol_among : List (ℕ × TokenKind) → ℕ → Class
symbol_among [] c = C.Other
symbol_among (symbol ∷ others) c =
    if c == symbol.0 then C.Symbol symbol.1 else symbol_among others c

-- the class of an octet: what can begin with it
abbrev pub class_of : ℕ → Class
class_of c =
    if is_blank c then C.Blank
    else (if is_ascii_lowercase c then C.Lowercase
    else (if is_ascii_uppercase c then C.Uppercase
    else (if is_ascii_digit c then C.Digit
    else (if c == 45 then C.Hyphen
    else (if c == 34 then C.Quote
    else (if c == 39 then C.Apostrophe
    else symbol_among symbols c))))))

abbrev pub is_nothing : List ℕ → Bool
is_nothing [] = true
is_nothing (c ∷ cs) = false

-- whether the list is a single octet, and this octet passes the test
abbrev pub is_sole : (ℕ → Bool) → List ℕ → Bool
is_sole test [] = false
is_sole test (c ∷ cs) = test c && is_nothing cs

-- whether the octets are the rest of a comment, after the run of hyphens that begins the comment
abbrev pub is_remark_rest : List ℕ → Bool
is_remark_rest [] = true
is_remark_rest (c ∷ cs) = if is_newline c then false else
    (if is_hyphen c && begins is_hyphen cs then list_all is_hyphen cs else is_remark_rest cs)

-- whether the octets are the rest of a comment, after its first two hyphens
abbrev pub is_comment_rest : List ℕ → Bool
is_comment_rest [] = true
is_comment_rest (c ∷ cs) = if is_hyphen c then is_comment_rest cs else is_remark_rest (c ∷ cs)

-- whether the octets are the rest of a string, after its first `"`
abbrev pub is_string_rest : List ℕ → Bool
is_string_rest [] = false
is_string_rest (c ∷ cs) = if c == 34 then is_nothing cs else is_string_rest cs

-- whether the octets are the rest of a literal, after its first `'`
abbrev pub is_literal_rest : (ℕ → Bool) → (ℕ → Bool) → List ℕ → Bool
is_literal_rest is_digit is_letter [] = false
is_literal_rest is_digit is_letter
    (c ∷ cs) = if c == 39 then is_sole is_letter cs else is_digit c && is_literal_rest is_digit
    is_letter cs

abbrev pub is_hex_letter : ℕ → Bool
is_hex_letter c = c == 72 || c == 104

abbrev pub is_binary_letter : ℕ → Bool
is_binary_letter c = c == 66 || c == 98

abbrev pub string_part : List ℕ → Option Part
string_part cs = then_some (is_string_rest cs) (lexeme K.Text)

abbrev pub literal_part : List ℕ → Option Part
literal_part cs =
    if is_literal_rest is_ascii_hexdigit is_hex_letter cs then Some (lexeme K.Hex)
    else then_some (is_literal_rest is_binary_digit is_binary_letter cs) (lexeme K.Binary)

abbrev pub hyphen_part : List ℕ → Option Part
hyphen_part [] = None
hyphen_part (c ∷ cs) = if is_hyphen c then then_some (is_comment_rest cs) gap else then_some
    (list_all is_ascii_digit (c ∷ cs)) (lexeme K.Number)

abbrev pub symbol_part : TokenKind → List ℕ → Option Part
symbol_part kind [] = Some (lexeme kind)
symbol_part K.Colon (c ∷ cs) = then_some (c == 58 && is_sole (λ d. d == 61) cs) (lexeme K.Assign)
symbol_part K.Dot (c ∷ cs) = then_some (c == 46 && is_nothing cs) (lexeme K.Range)
symbol_part _ (c ∷ cs) = None

-- the part that an octet of this class followed by the octets `cs` forms; None if it forms none
abbrev pub part_in : Class → List ℕ → Option Part
part_in C.Blank cs = then_some (is_nothing cs) gap
part_in C.Lowercase cs = then_some (is_word_rest cs) (lexeme K.Lower)
part_in C.Uppercase cs = then_some (is_word_rest cs) (lexeme K.Upper)
part_in C.Digit cs = then_some (list_all is_ascii_digit cs) (lexeme K.Number)
part_in C.Hyphen cs = hyphen_part cs
part_in C.Quote cs = string_part cs
part_in C.Apostrophe cs = literal_part cs
part_in (C.Symbol kind) cs = symbol_part kind cs
part_in C.Other cs = None

unfoldable pub part_of : List ℕ → Option Part
part_of [] = None
part_of (c ∷ cs) = part_in (class_of c) cs

-- ---- the longest prefix

-- the part and the length `n`, if a part is passed; `shorter` if None is passed
abbrev pub part_or_shorter : ℕ → Option Part → Option (Part × ℕ) → Option (Part × ℕ)
part_or_shorter n None shorter = shorter
part_or_shorter n (Some part) shorter = Some (part, n)

-- For a text of n octets or more: the part and the length of its longest prefix of at most n octets
-- that is a part. None if no such prefix is a part.
abbrev pub longest_prefix : ℕ → List ℕ → Option (Part × ℕ)
longest_prefix zero text = None
longest_prefix (suc n) text = part_or_shorter (suc n) (part_of (take (suc n) text))
    (longest_prefix n text)

-- ---- the items

abbrev pub newlines : List ℕ → ℕ
newlines text = count_by is_newline text

abbrev pub lexeme_at : ℕ → ℕ → TokenKind → List ℕ → Lexeme
lexeme_at at lines kind text = record {
  kind = kind;
  span = record { start = at; «end» = at + length text };
  text = text;
  line = lines + 1;
}

-- the items of a part (one for a lexeme, none for a gap), followed by the items `rest`
abbrev pub part_items : ℕ → ℕ → Part → List ℕ → List Item → List Item
part_items at lines gap octets rest = rest
part_items at lines (lexeme kind) octets rest = Ok (lexeme_at at lines kind octets) ∷ rest

-- The items of a text, computed from its longest prefix that is a part, and the items `rest` after
-- this prefix. If the prefix is a lexeme, they are this lexeme and then `rest`. If it is a gap,
-- they are `rest`. If no prefix is a part, the only item is the fault.
abbrev pub prefix_items : ℕ → ℕ → List ℕ → Option (Part × ℕ) → List Item → List Item
prefix_items at lines text None rest = Err (fault_on (lines + 1) text) ∷ []
prefix_items at lines text (Some prefix) rest =
    part_items at lines prefix.0 (take prefix.1 text) rest

-- the number of octets of the prefix after its first octet; 0 for `None`
abbrev pub prefix_rest_len : Option (Part × ℕ) → ℕ
prefix_rest_len None = 0
prefix_rest_len (Some prefix) = pred prefix.1

-- the items of a text without its first `skipped` octets, which are read already; the text comes
-- after `at` octets, and `lines` of these are newlines
unfoldable pub items_at : ℕ → ℕ → ℕ → List ℕ → List Item
items_at skipped at lines [] = []
items_at (suc skipped) at lines (c ∷ cs) = items_at skipped (at + 1) (lines + newlines (c ∷ [])) cs
items_at zero at lines (c ∷ cs) =
    prefix_items at lines (c ∷ cs) (longest_prefix (length (c ∷ cs)) (c ∷ cs))
    (items_at (prefix_rest_len (longest_prefix (length (c ∷ cs)) (c ∷ cs))) (at + 1)
    (lines + newlines
    (c ∷ [])) cs)

-- ---- for private functions

-- the literal with these digits and this last letter, as a part; None if they make no literal
abbrev pub literal_of : List ℕ → ℕ → Option Part
literal_of digits letter =
    if list_all is_ascii_hexdigit digits && is_hex_letter letter then Some (lexeme K.Hex)
    else then_some (list_all is_binary_digit digits && is_binary_letter letter) (lexeme K.Binary)

-- n is the length of the longest prefix of the text that passes the test
pub record IsLongestPassing (test : List ℕ → Bool) (text : List ℕ) (n : ℕ) : Type 0 where
  pub within : n ≤ length text
  pub passes : test (take n text) ≡ true
  pub longest : (m : ℕ) → n < m → m ≤ length text → test (take m text) ≡ false

-- `reading` reads the first n octets of the text as `part`, and reads no longer prefix as a part
pub record IsPartPrefix (reading : List ℕ
    → Option Part) (text : List ℕ) (part : Part) (n : ℕ) : Type 0 where
  pub within : n ≤ length text
  pub reads : reading (take n text) ≡ Some part
  pub longest : (m : ℕ) → n < m → m ≤ length text → reading (take m text) ≡ None

-- `reading` reads no prefix of the text as a lexeme; `HasNoGap` says that no prefix is a gap
abbrev pub HasNoLexeme : (List ℕ → Option Part) → List ℕ → Type 0
HasNoLexeme reading text = (kind : TokenKind) (m : ℕ)
    → reading (take m text) ≡ Some (lexeme kind) → ⊥

abbrev pub HasNoGap : List ℕ → Type 0
HasNoGap text = (m : ℕ) → part_of (take m text) ≡ Some gap → ⊥

-- The result is None, and `reading` reads no prefix as a lexeme. Or the result is the kind and the
-- length of the longest prefix that `reading` reads as a part, and this part is a lexeme.
abbrev pub IsLexemePrefix : (List ℕ → Option Part) → List ℕ → Option (TokenKind × ℕ) → Type 0
IsLexemePrefix reading text None = HasNoLexeme reading text
IsLexemePrefix reading text (Some prefix) = IsPartPrefix reading text (lexeme prefix.0) prefix.1

-- the first n octets of the text add no item: they only count as n octets and `lines` newlines
-- before the remaining text
abbrev pub Skips : List ℕ → ℕ → ℕ → Type 0
Skips text n lines = (at before : ℕ)
    → items_at 0 at before text ≡ items_at 0 (at + n) (before + lines) (drop n text)

-- a prefix of n or more octets passes the test if and only if its octets after the first n pass it
pub record GoesOn (test : List ℕ → Bool) (text : List ℕ) (n : ℕ) : Type 0 where
  pub within : n ≤ length text
  pub same : (k : ℕ) → test (take (n + k) text) ≡ test (take k (drop n text))

-- the text is empty, or begins with a newline or two hyphens
abbrev pub IsRemarkEnd : List ℕ → Type 0
IsRemarkEnd [] = Unit {0}
IsRemarkEnd (c ∷ []) = c ≡ 10
IsRemarkEnd (c ∷ d ∷ cs) = (c ≡ 10) ⊎ ((c ≡ 45) × (d ≡ 45))

abbrev pub is_space_or_tab : ℕ → Bool
is_space_or_tab c = c == 32 || c == 9

-- the index of the lowest bit that is set in `mask`; if none is, 16, the number of octets in a
-- vector load
abbrev pub first_set : ℕ → ℕ
first_set mask = if mask == 0 then 16 else trailing_zeros w64 mask

-- of the 16 octets from offset `at` on, the first `run` pass the test, and the next one, if there
-- is one, fails it
pub record IsRunIn (test : ℕ → Bool) (text : List ℕ) (at run : ℕ) : Type 0 where
  pub within : run ≤ 16
  pub passes : (k : ℕ) → at ≤ k → k < at + run → test (get_or text k 0) ≡ true
  pub stops : run < 16 → test (get_or text (at + run) 0) ≡ false

-- each octet at an offset `k` with `from ≤ k < to` passes the test
pub record ArePassedBetween (test : ℕ → Bool) (text : List ℕ) (from to : ℕ) : Type 0 where
  pub ordered : from ≤ to
  pub within : to ≤ length text
  pub passes : (k : ℕ) → from ≤ k → k < to → test (get_or text k 0) ≡ true

-- each octet at an offset `k` with `from ≤ k < to` passes the test, and the octet at `to`, if there
-- is one, fails it
pub record IsRunBetween (test : ℕ → Bool) (text : List ℕ) (from to : ℕ) : Type 0 where
  pub ordered : from ≤ to
  pub within : to ≤ length text
  pub passes : (k : ℕ) → from ≤ k → k < to → test (get_or text k 0) ≡ true
  pub stops : to < length text → test (get_or text to 0) ≡ false

-- whether an octet differs from `octet`
abbrev pub is_other : ℕ → ℕ → Bool
is_other octet c = not (c == octet)

-- the result is the offset of the first `octet` in the text, or None if it doesn't occur
abbrev pub IsFirstIndex : ℕ → List ℕ → Option ℕ → Type 0
IsFirstIndex octet text None = list_all (is_other octet) text ≡ true
IsFirstIndex octet text (Some i) = (i < length text) × (get_or text i 0 ≡ octet)
    × (list_all (is_other octet) (take i text) ≡ true)

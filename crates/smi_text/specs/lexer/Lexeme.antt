-- The lexemes of a module text and what can be between them, each as a relation on octets. SMIv2
-- takes them from ASN.1 (RFC 2578, section 3; X.208, section 8). This lexer accepts more, as texts
-- in use need it: among others `_` in words, a hyphen before digits as part of the number, and
-- lower-case digits and letters in literals.
use Rattle.std.specs.Prelude.{◌≡◌, ◌≢◌, ℕ, ◌≤◌, Bool, true, false, not, ◌&&◌, ◌||◌, ◌⊎◌, List, []}
use Rattle.std.specs.Prelude.{◌∷◌, ◌++◌, length, IsTrue, ◌==◌}
use Rattle.std.specs.List.{list_all}
use Rattle.std.specs.Char.{is_ascii_lowercase, is_ascii_uppercase, is_ascii_digit}
use Rattle.std.specs.Char.{is_ascii_hexdigit, is_ascii_alphanumeric}
use Rattle.smi_text.specs.declared.lexer.token.TokenKind.{TokenKind}
use Rattle.smi_text.specs.declared.lexer.token.TokenKind.TheVariants as K
use lib.Chars.{codes}

-- ---- octets

abbrev pub is_newline : ℕ → Bool
is_newline c = c == 10

abbrev pub is_hyphen : ℕ → Bool
is_hyphen c = c == 45

-- tab, LF, VT, FF, CR and space
abbrev pub is_blank : ℕ → Bool
is_blank c = c == 9 || c == 10 || c == 11 || c == 12 || c == 13 || c == 32

-- a letter, a digit or `_`
abbrev pub is_word_octet : ℕ → Bool
is_word_octet c = is_ascii_alphanumeric c || c == 95

abbrev pub is_binary_digit : ℕ → Bool
is_binary_digit c = c == 48 || c == 49

-- whether there is a first octet, and it passes the test
abbrev pub begins : (ℕ → Bool) → List ℕ → Bool
begins test [] = false
begins test (c ∷ cs) = test c

-- ---- lexemes

-- whether each octet is a letter, a digit, `_`, or a hyphen directly before one of these three
abbrev pub is_word_rest : List ℕ → Bool
is_word_rest [] = true
is_word_rest (c ∷ cs) = (is_word_octet c ||
    (is_hyphen c && begins is_word_octet cs)) && is_word_rest cs

-- `text` is a word: an octet that passes `is_first`, followed by octets that `is_word_rest` accepts
abbrev pub IsWord : (ℕ → Bool) → List ℕ → Type 0
IsWord is_first text = (c : ℕ) × (rest : List ℕ) × (text ≡ c ∷ rest) × IsTrue (is_first c)
    × IsTrue (is_word_rest rest)

-- digits, with or without a hyphen directly before them
abbrev pub IsNumber : List ℕ → Type 0
IsNumber text = (sign digits : List ℕ) × (text ≡ sign ++ digits)
    × ((sign ≡ []) ⊎ (sign ≡ codes "-")) × (digits ≢ []) × IsTrue (list_all is_ascii_digit digits)

-- octets other than `"` between two `"`
abbrev pub IsString : List ℕ → Type 0
IsString text = (body : List ℕ) × (text ≡ codes "\"" ++ body ++ codes "\"")
    × IsTrue (list_all (λ c. not (c == 34)) body)

-- `text` is octets that pass `is_digit`, perhaps none, between two `'`, followed by the letter
-- `upper` or `lower`
abbrev pub IsLiteral : (ℕ → Bool) → ℕ → ℕ → List ℕ → Type 0
IsLiteral is_digit upper lower text = (digits : List ℕ) × (letter : ℕ)
    × (text ≡ codes "'" ++ digits ++ codes "'" ++ letter ∷ [])
    × IsTrue (list_all is_digit digits) × ((letter ≡ upper) ⊎ (letter ≡ lower))

-- the only text that tokens of this kind have, such as `::=` for `Assign`; empty for the kinds that
-- have more than one text: words, numbers, strings and literals
abbrev pub sign_text : TokenKind → List ℕ
sign_text K.Assign = codes "::="
sign_text K.Range = codes ".."
sign_text K.OpenBrace = codes "{"
sign_text K.CloseBrace = codes "}"
sign_text K.OpenParen = codes "("
sign_text K.CloseParen = codes ")"
sign_text K.OpenBracket = codes "["
sign_text K.CloseBracket = codes "]"
sign_text K.Less = codes "<"
sign_text K.Greater = codes ">"
sign_text K.Comma = codes ","
sign_text K.Semicolon = codes ";"
sign_text K.Colon = codes ":"
sign_text K.Bar = codes "|"
sign_text K.Dot = codes "."
sign_text K.Equals = codes "="
sign_text _ = []

-- the text is a lexeme of this kind
abbrev pub IsLexeme : TokenKind → List ℕ → Type 0
IsLexeme K.Lower text = IsWord is_ascii_lowercase text
IsLexeme K.Upper text = IsWord is_ascii_uppercase text
IsLexeme K.Number text = IsNumber text
IsLexeme K.Text text = IsString text
IsLexeme K.Hex text = IsLiteral is_ascii_hexdigit 72 104 text
IsLexeme K.Binary text = IsLiteral is_binary_digit 66 98 text
IsLexeme kind text = text ≡ sign_text kind

-- ---- gaps: blank octets and comments

-- two or more hyphens
abbrev pub IsRunOfHyphens : List ℕ → Type 0
IsRunOfHyphens octets = (2 ≤ length octets) × IsTrue (list_all is_hyphen octets)

-- whether the octets contain no newline and no two hyphens in a row
abbrev pub is_remark : List ℕ → Bool
is_remark [] = true
is_remark (c ∷ cs) = not (is_newline c) && not (is_hyphen c && begins is_hyphen cs) && is_remark cs

-- `text` is a run of hyphens, a remark (no newline, no two hyphens in a row), and another run of
-- hyphens or nothing. If no other run follows on the line, the longest comment ends before the
-- newline, or at the end of the text.
abbrev pub IsComment : List ℕ → Type 0
IsComment text = (opening remark closing : List ℕ) × (text ≡ opening ++ remark ++ closing)
    × IsRunOfHyphens opening × IsTrue (is_remark remark) × ((closing ≡ []) ⊎ IsRunOfHyphens closing)

-- a blank octet, or a comment
abbrev pub IsGap : List ℕ → Type 0
IsGap text = ((c : ℕ) × (text ≡ c ∷ []) × IsTrue (is_blank c)) ⊎ IsComment text

-- ---- lexemes and gaps

-- what a piece of the text is: a gap, or a lexeme of some kind
pub data Part : Type 0 where
  gap : Part
  lexeme : TokenKind → Part

abbrev pub IsPart : Part → List ℕ → Type 0
IsPart gap text = IsGap text
IsPart (lexeme kind) text = IsLexeme kind text

-- whether the text begins with a `"` or `'`, and doesn't contain the same quote again
abbrev pub is_open_string : List ℕ → Bool
is_open_string [] = false
is_open_string (c ∷ cs) = (c == 34 || c == 39) && list_all (λ d. not (d == c)) cs

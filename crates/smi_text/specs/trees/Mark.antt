-- Marks: each describes one token, by its kind, its text and perhaps its line. A module tree is
-- spelled by a list of marks.
use denote.Enum.Bare.{sameb}
use Rattle.std.specs.Prelude.{◌≡◌, ℕ, Bool, true, List, [], ◌∷◌}
use Rattle.std.specs.Str.{bytes_eq}
use Rattle.smi_text.specs.contracts.lexer.token.TokenKind.{the_type}
use Rattle.smi_text.specs.{declared.lexer.token.TokenKind.TokenKind, lexer.Token.Lexeme}
use Rattle.smi_text.specs.lexer.Lexeme.{sign_text}

-- whether two kinds are the same
abbrev pub same_kind : TokenKind → TokenKind → Bool
same_kind = sameb the_type

-- whether two texts have the same octets
abbrev pub same_text : List ℕ → List ℕ → Bool
same_text = bytes_eq

-- the description of one token of a module tree
pub data Mark : Type 0 where
  -- a token of this kind and text, if the flag is true; otherwise no token
  spelled : TokenKind → List ℕ → Bool → Mark
  -- the token of this mark, on this line
  on_line : ℕ → Mark → Mark

-- the mark of a sign: a token whose kind, such as `Comma`, has only one text
abbrev pub sign : TokenKind → Mark
sign k = spelled k (sign_text k) true

-- token `t` is as the mark describes it
abbrev pub MarksToken : Mark → Lexeme → Type 0
MarksToken (spelled k x ok) t = (t.kind ≡ k) × (t.text ≡ x) × (ok ≡ true)
MarksToken (on_line n m) t = MarksToken m t × (t.line ≡ n)

-- the tokens are one for each mark, as that mark describes it, followed by `rest`
abbrev pub TokensMatch : List Mark → List Lexeme → List Lexeme → Type 0
TokensMatch [] ts rest = ts ≡ rest
TokensMatch (m ∷ ms) [] rest = ⊥
TokensMatch (m ∷ ms) (t ∷ ts) rest = MarksToken m t × TokensMatch ms ts rest

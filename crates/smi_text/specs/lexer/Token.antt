-- Tokens as contracts see them: with their octets, and not the address of these in memory.
use Rattle.std.specs.Prelude.{ℕ, List, [], ◌∷◌, Option, Some, None, Result, Ok, Err}
use Rattle.smi_text.specs.{declared.lexer.token.TokenKind.TokenKind, declared.lexer.token.Span.Span}
use Rattle.smi_text.specs.{declared.lexer.token.Token.Token, declared.lexer.token.LexError.LexError}

-- a token: its kind, its position in the source, its octets, and the line of the first of them
pub record Lexeme : Type 0 where
  pub kind : TokenKind
  pub span : Span
  pub text : List ℕ
  pub line : ℕ

-- the lexeme of a token
abbrev pub lexeme_of : Token → Lexeme
lexeme_of t = record { kind = t.kind; span = t.span; text = t.text.now; line = t.line }

-- an item that the lexer returns: a token, or the fault if the lexer can't read a token
abbrev pub Item : Type 0
Item = Result Lexeme LexError

abbrev pub item_of : Result Token LexError → Item
item_of (Ok token) = Ok (lexeme_of token)
item_of (Err fault) = Err fault

-- the tokens before the first fault, or all of them if there is none
abbrev pub tokens_of : List Item → List Lexeme
tokens_of [] = []
tokens_of (Ok token ∷ items) = token ∷ tokens_of items
tokens_of (Err fault ∷ items) = []

-- the first fault, if there is one
abbrev pub first_fault : List Item → Option LexError
first_fault [] = None
first_fault (Ok token ∷ items) = first_fault items
first_fault (Err fault ∷ items) = Some fault

-- Kinds of tokens: words, and signs, which have one text each.
use Rattle.std.specs.Prelude.{Bool, true, false, not}
use Rattle.smi_text.specs.{lexer.Lexeme.sign_text, lexer.LongestMatch.is_nothing}
use Rattle.smi_text.specs.declared.lexer.token.TokenKind.{TokenKind}
use Rattle.smi_text.specs.declared.lexer.token.TokenKind.TheVariants.{Lower, Upper}

abbrev pub is_word_kind : TokenKind → Bool
is_word_kind Lower = true
is_word_kind Upper = true
is_word_kind _ = false

abbrev pub is_sign_kind : TokenKind → Bool
is_sign_kind k = not (is_nothing (sign_text k))

-- Words: what the names of a module text are (RFC 2578, section 3.1).
use Rattle.std.specs.Prelude.{ℕ, Bool, false, ◌&&◌, ◌||◌, List, [], ◌∷◌}
use Rattle.std.specs.Char.{is_ascii_lowercase, is_ascii_uppercase}
use Rattle.smi_text.specs.lexer.Lexeme.{is_word_rest}

-- whether the first octet is a letter, and each other octet is a letter, a digit, `_`, or a hyphen
-- directly before one of these three
abbrev pub is_word : List ℕ → Bool
is_word [] = false
is_word (c ∷ cs) = (is_ascii_lowercase c || is_ascii_uppercase c) && is_word_rest cs

-- The tokens of a type in a module text, and the text that they make.
use Rattle.std.specs.Prelude.{ℕ, List, [], ◌∷◌, ◌++◌, codes}
use Rattle.std.specs.List.{flat_map}
use Rattle.smi_text.specs.{lexer.Token.Lexeme, trees.Mark.TokensMatch, trees.Spelling.of_syntax}
use Rattle.smi_text.specs.declared.trees.tree.Syntax.{Syntax}

-- `tokens` spell the type `syntax` and nothing more
abbrev pub AreTokensOf : Syntax → List Lexeme → Type 0
AreTokensOf syntax tokens = TokensMatch (of_syntax syntax) tokens []

-- the texts of the tokens, with a blank between each two
abbrev pub joined_by_blanks : List Lexeme → List ℕ
joined_by_blanks [] = []
joined_by_blanks (first ∷ rest) = first.text ++ flat_map (λ token. codes " " ++ token.text) rest

-- What a module text says, and why a text is refused.
use Rattle.std.specs.Prelude.{◌≡◌, ℕ, true, List, [], ◌++◌, Option, Some, None}
use Rattle.std.specs.List.{flat_map, list_any, list_all}
use Rattle.smi_text.specs.lexer.Token.{Lexeme, Item, tokens_of, first_fault}
use Rattle.smi_text.specs.{lexer.Lexes.Lexes, declared.error.ParseError.ParseError}
use Rattle.smi_text.specs.{declared.trees.tree.Module.Module, declared.trees.tree.Part.Part}
use Rattle.smi_text.specs.{declared.trees.tree.Import.Import, declared.trees.tree.Def.Def}
use Rattle.smi_text.specs.{trees.Mark.TokensMatch, trees.Mark.same_text, trees.Lookup.labels}
use Rattle.smi_text.specs.{trees.Lookup.are_distinct, declared.trees.names.Name.Name}
use Rattle.smi_text.specs.declared.lexer.token.LexError.{LexError}
use Rattle.smi_text.specs.declared.error.ParseError.TheVariants as E
use Rattle.smi_text.specs.trees.Spelling.{spelling, of_head, of_def}

-- the lexer reads the text to its end, and the tokens are the spelling of the modules `ms`
pub record AreSpelledBy (ms : List Module) (text : List ℕ) : Type 0 where
  pub items : List Item
  pub lexed : Lexes [] text items
  pub whole : first_fault items ≡ None
  pub spelled : TokensMatch (spelling ms) (tokens_of items) []

-- no module defines a name twice
abbrev pub HasNoDoubles : List Module → Type 0
HasNoDoubles ms = list_all (λ m. are_distinct (labels m.defs)) ms ≡ true

-- the lexer stops before the end of the text, with this fault
pub record BreaksOff (fault : LexError) (text : List ℕ) : Type 0 where
  pub items : List Item
  pub lexed : Lexes [] text items
  pub at : first_fault items ≡ Some fault

-- the tokens begin with definitions; the last of these is on line `line`, and is the first to
-- define a name a second time
pub record HasSecond (line : ℕ) (tokens : List Lexeme) : Type 0 where
  pub before : List Def
  pub once : are_distinct (labels before) ≡ true
  pub second : Def
  pub rest : List Lexeme
  pub matched : TokensMatch (flat_map of_def before ++ of_def second) tokens rest
  pub defined : list_any (same_text second.label.octets) (labels before) ≡ true
  pub on_line : second.line ≡ line

-- The tokens begin with modules that each define no name twice. The next module has a definition on
-- line `line` that is its first to define a name a second time.
pub record DefinesAgain (line : ℕ) (tokens : List Lexeme) : Type 0 where
  pub modules : List Module
  pub once : HasNoDoubles modules
  pub name : Name
  pub heading : Option (List Part)
  pub imports : Option (List Import)
  pub body : List Lexeme
  pub matched : TokensMatch (spelling modules ++ of_head name heading imports) tokens body
  pub twice : HasSecond line body

-- in the text, the first definition to define a name a second time in its module is on line `line`
pub record HasDouble (line : ℕ) (text : List ℕ) : Type 0 where
  pub items : List Item
  pub lexed : Lexes [] text items
  pub again : DefinesAgain line (tokens_of items)

-- The text has the fault that the error reports. For `Syntax` with any line, no list of modules
-- spells the text. For `Memory`, nothing is said of the text.
abbrev pub IsCause : ParseError → List ℕ → Type 0
IsCause (E.Lex fault) text = BreaksOff fault text
IsCause (E.Syntax line) text = (ms : List Module) → AreSpelledBy ms text → ⊥
IsCause (E.DoubleName line) text = HasDouble line text
IsCause E.Memory text = Unit {0}

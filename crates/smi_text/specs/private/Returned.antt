-- What the steps of the parser return, compared with what the grammar reads from the same tokens.
use Rattle.std.specs.Prelude.{◌≡◌, ℕ, Bool, true, false, List, [], ◌∷◌, ◌++◌, Option, Some, None}
use Rattle.std.specs.Prelude.{Result, Ok, Err, option_map, unwrap_or}
use Rattle.std.specs.Borrow.{Bor}
use Rattle.smi_text.specs.{lexer.Token.Lexeme, lexer.Token.Item, lexer.Token.tokens_of}
use Rattle.smi_text.specs.{declared.error.Stop.Stop, declared.error.ParseError.ParseError}
use Rattle.smi_text.specs.{trees.Mark.TokensMatch, trees.Spelling.of_head, trees.Lookup.labels}
use Rattle.smi_text.specs.{trees.Lookup.are_distinct, declared.trees.names.Name.Name}
use Rattle.smi_text.specs.{declared.trees.tree.Module.Module, declared.trees.tree.Part.Part}
use Rattle.smi_text.specs.{declared.trees.tree.Import.Import, declared.trees.tree.Def.Def}
use Rattle.smi_text.specs.declared.error.Stop.TheVariants.{Syntax, Lex, Memory}
use Rattle.smi_text.specs.declared.error.ParseError.TheVariants as E
use Rattle.smi_text.specs.private.Format.{Parsed, token_ahead, begins, many}
use Rattle.smi_text.specs.private.Grammar.{definition, module_text, file}
use Rattle.smi_text.specs.Text.{HasNoDoubles, BreaksOff, HasSecond, DefinesAgain}

-- whether the step stopped because memory ran out
abbrev pub is_memory : Stop → Bool
is_memory Memory = true
is_memory _ = false

-- `r` is what the grammar reads from the tokens. If a step of the parser returns a value, then `r`
-- is this value with the items `rest` that the step leaves. If the step stops, then `r` is None,
-- unless memory ran out.
abbrev pub ReturnsReading : {A : Type 0} → Result A Stop → List Item → Parsed A → Type 0
ReturnsReading (Ok x) rest r = r ≡ Some (x, rest)
ReturnsReading (Err e) rest r = is_memory e ≡ false → r ≡ None

-- the error that a stop of the parser is reported as
abbrev pub error_of : Stop → ParseError
error_of (Syntax line) = E.Syntax line
error_of (Lex fault) = E.Lex fault
error_of Memory = E.Memory

-- ---- reading a whole module, step by step

-- the text of the token ahead; empty if no token is ahead
abbrev pub text_ahead : List Item → List ℕ
text_ahead items = unwrap_or (option_map (λ t. t.text) (token_ahead items)) []

-- the result is the text of the token ahead if a definition can begin with it, otherwise None
abbrev pub IsLabelAhead : Option (Bor (List ℕ)) → List Item → Type 0
IsLabelAhead None tokens = begins definition.first tokens ≡ false
IsLabelAhead (Some x) tokens = (begins definition.first tokens ≡ true) × (x.now ≡ text_ahead tokens)

pub record ReadsDefinitions (defs : List Def) (tokens rest : List Item) : Type 0 where
  pub read : (many definition).read tokens ≡ Some (defs, rest)
  pub distinct : are_distinct (labels defs) ≡ true

-- a definition is read from `tokens`, and `rest` is left; `after` is `before` followed by this
-- definition
pub record AppendsDefinition (before after : List Def) (tokens rest : List Item) : Type 0 where
  pub def : Def
  pub read : definition.read tokens ≡ Some (def, rest)
  pub appended : after ≡ before ++ def ∷ []

-- a definition can be read from `tokens`, and it is on line `line`
pub record IsDefinitionOn (line : ℕ) (tokens : List Item) : Type 0 where
  pub def : Def
  pub rest : List Item
  pub read : definition.read tokens ≡ Some (def, rest)
  pub on_line : def.line ≡ line

-- The error of a step that reads a new definition. For `DoubleName`, a definition on this line can
-- be read, and `defined` is true: its name is defined already. For `Memory`, nothing is said. For
-- any other error, no definition can be read.
abbrev pub NewDefinitionFault : ParseError → (defined : Bool) → List Item → Type 0
NewDefinitionFault (E.DoubleName line) defined tokens =
    (defined ≡ true) × IsDefinitionOn line tokens
NewDefinitionFault E.Memory defined tokens = Unit {0}
NewDefinitionFault _ defined tokens = definition.read tokens ≡ None

abbrev pub DefinitionsFault : ParseError → List Item → Type 0
DefinitionsFault (E.DoubleName line) tokens = HasSecond line (tokens_of tokens)
DefinitionsFault E.Memory tokens = Unit {0}
DefinitionsFault _ tokens = (many definition).read tokens ≡ None

pub record ReadsModule (m : Module) (tokens rest : List Item) : Type 0 where
  pub read : module_text.read tokens ≡ Some (m, rest)
  pub distinct : are_distinct (labels m.defs) ≡ true

-- The tokens begin with the head of a module and definitions. The last of these is on line `line`,
-- and is the first to define a name a second time.
pub record OpensTwice (line : ℕ) (tokens : List Lexeme) : Type 0 where
  pub name : Name
  pub heading : Option (List Part)
  pub imports : Option (List Import)
  pub body : List Lexeme
  pub matched : TokensMatch (of_head name heading imports) tokens body
  pub twice : HasSecond line body

abbrev pub ModuleFault : ParseError → List Item → Type 0
ModuleFault (E.DoubleName line) tokens = OpensTwice line (tokens_of tokens)
ModuleFault E.Memory tokens = Unit {0}
ModuleFault _ tokens = module_text.read tokens ≡ None

pub record ReadsModules (ms : List Module) (tokens : List Item) : Type 0 where
  pub read : file.read tokens ≡ Some (ms, [])
  pub distinct : HasNoDoubles ms

abbrev pub ModulesFault : ParseError → List Item → Type 0
ModulesFault (E.DoubleName line) tokens = DefinesAgain line (tokens_of tokens)
ModulesFault E.Memory tokens = Unit {0}
ModulesFault _ tokens = (ms : List Module) → file.read tokens ≡ Some (ms, []) → ⊥

-- an error that may be reported if the parser stopped at a fault of the lexer: the fault with which
-- the lexer stops in the text, or any syntax error
abbrev pub IsLexFault : ParseError → List ℕ → Type 0
IsLexFault (E.Lex fault) text = BreaksOff fault text
IsLexFault (E.Syntax line) text = Unit {0}
IsLexFault _ text = ⊥

-- `error` may be reported if the parser stopped with `stop`: if `stop` is a fault of the lexer, an
-- error that `IsLexFault` allows; otherwise only `stop` itself
abbrev pub IsCauseOf : ParseError → ParseError → List ℕ → Type 0
IsCauseOf (E.Lex fault) error text = IsLexFault error text
IsCauseOf stop error text = error ≡ stop

-- What is reported of module files that can't be loaded.
use Rattle.std.specs.Prelude.{ℕ, List, ◌++◌, codes, decimal}
use Rattle.smi_text.specs.declared.lexer.token.LexError.TheVariants as lex
use Rattle.smi_text.specs.declared.error.ParseError.{ParseError}
use Rattle.smi_text.specs.declared.error.ParseError.TheVariants as parse
use Rattle.snmp_tools.specs.declared.load.error.FilesError.{FilesError}
use Rattle.snmp_tools.specs.declared.load.error.FilesError.TheVariants as error
use Rattle.snmp_tools.specs.load.Files.{Refusal, faulty, no_memory, unreadable}

-- why module files can't be loaded, by the error that the code returns
abbrev pub refusal_of : FilesError → Refusal
refusal_of (error.Unreadable path) = unreadable path.now
refusal_of (error.Text path fault) = faulty path.now fault
refusal_of error.Memory = no_memory

-- the message that something is wrong in a line of the file at `path`
abbrev pub at_line : (path : List ℕ) → (line : ℕ) → List ℕ → List ℕ
at_line path line what = path ++ codes ":" ++ decimal line ++ codes ": " ++ what

-- the message about a fault in the text of the file at `path`, or that memory ran out
abbrev pub fault_text : (path : List ℕ) → ParseError → List ℕ
fault_text path (parse.Lex (lex.BadByte line)) = at_line path line (codes "bad character")
fault_text path (parse.Lex (lex.OpenString line)) = at_line path line (codes "open string")
fault_text path (parse.Syntax line) = at_line path line (codes "syntax")
fault_text path (parse.DoubleName line) = at_line path line (codes "double name")
fault_text path parse.Memory = codes "Out of memory."

-- the message on standard error, without its newline
abbrev pub refusal_text : Refusal → List ℕ
refusal_text (unreadable path) = path ++ codes ": cannot be read"
refusal_text (faulty path fault) = fault_text path fault
refusal_text no_memory = codes "Out of memory."

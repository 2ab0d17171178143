-- The values of the code's types for parts and scopes as values of the definitions' types, for
-- contracts of private functions.
use Rattle.std.specs.Prelude.{Result, Ok, Err}
use Rattle.smi_show.specs.index.Pieces as pieces
use Rattle.smi_show.specs.{name.Word.Word, name.Word.a_piece, name.Word.a_label}
use Rattle.smi_show.specs.{declared.name.error.NameError.NameError, declared.name.part.Part.Part}
use Rattle.smi_show.specs.{declared.name.part.Piece.Piece, declared.name.meaning.Scope.Scope}
use Rattle.smi_show.specs.name.Meant as meant
use Rattle.smi_show.specs.declared.name.part.Part.TheVariants as part
use Rattle.smi_show.specs.declared.name.part.Piece.TheVariants.{Number, Counted, Plain}
use Rattle.smi_show.specs.declared.name.meaning.Scope.TheVariants.{Module, Anywhere, Root}

abbrev pub piece_in : Piece → pieces.Piece
piece_in (Number n) = pieces.plain_number n
piece_in (Counted octets) = pieces.counted_text octets.now
piece_in (Plain octets) = pieces.plain_text octets.now

abbrev pub word_in : Part → Word
word_in (part.Piece piece) = a_piece (piece_in piece)
word_in (part.Label label) = a_label label.now

abbrev pub outcome_in : Result Part NameError → Result Word NameError
outcome_in (Ok part) = Ok (word_in part)
outcome_in (Err fault) = Err fault

abbrev pub scope_in : Scope → meant.Scope
scope_in (Module home) = meant.in_module home.now
scope_in Anywhere = meant.anywhere
scope_in Root = meant.among_roots

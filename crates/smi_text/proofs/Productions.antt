-- Names for what proofs unfold: the formats, and for each source file the productions that it reads.
use Rattle.std.proofs.Common.{ℕ}
use Rattle.smi_text.specs.{trees.Number.is_symbol, trees.Reserved.is_reserved}
use Rattle.smi_text.specs.private.Format.{begins, maybe, preceded, lower, word, token, text, text_where, name, pair, before, either, shaped, some_of}
use Rattle.smi_text.specs.private.Format.{separated, lined, many}
use Rattle.smi_text.specs.private.Grammar.{arc, assigned, balanced_tokens, base, before_assign, before_end, bound, braced, choice, clause, default_value}
use Rattle.smi_text.specs.private.Grammar.{definition, field, group, head, heading, identifier, import_clause, imported_symbol, imports, index}
use Rattle.smi_text.specs.private.Grammar.{index_names, later_part, lower_definition, macro_definition, macro_name, module_identity}
use Rattle.smi_text.specs.private.Grammar.{module_text, named_number, names, notification_type, object_identifier, object_identifier_words}
use Rattle.smi_text.specs.private.Grammar.{object_identity, object_type, objects, octet_string_words, of_row, opening, parenthesized, part, range}
use Rattle.smi_text.specs.private.Grammar.{ranges, raw_definition, refinement, revision, simple_type, size, status, syntax_clause}
use Rattle.smi_text.specs.private.Grammar.{syntax_type, tag, textual_convention, upper_definition, value, file, read_index, with_names}

-- what both `formats` and `of_parser` unfold
unfoldable pub tokens : ℕ
unfolding begins maybe shaped pair preceded lower word token text text_where name
tokens = 0

unfoldable pub formats : ℕ
unfolding tokens before either some_of separated lined
formats = 0

unfoldable pub of_parser : ℕ
unfolding tokens clause
of_parser = 0

unfoldable pub of_types : ℕ
unfolding formats braced parenthesized arc part later_part identifier value bound range ranges named_number size refinement object_identifier_words
    octet_string_words base simple_type of_row syntax_type field
of_types = 0

unfoldable pub of_clauses : ℕ
unfolding formats clause braced names status index_names index before_assign before_end balanced_tokens default_value revision objects
of_clauses = 0

unfoldable pub of_definitions : ℕ
unfolding formats braced module_identity object_identity object_type notification_type group raw_definition object_identifier textual_convention syntax_clause
    lower_definition tag choice assigned macro_definition upper_definition macro_name definition objects object_identifier_words
    default_value
of_definitions = 0

-- what proofs about `module_identity` and `textual_convention` unfold: no more than they need, since both have many parts
unfoldable pub of_many : ℕ
unfolding shaped pair preceded module_identity textual_convention
of_many = 0

-- what a proof about the loop over the names of an INDEX clause unfolds
unfoldable pub of_index : ℕ
unfolding read_index with_names shaped pair preceded lower
of_index = 0

unfoldable pub of_modules : ℕ
unfolding formats braced imported_symbol import_clause imports heading opening head module_text is_symbol
of_modules = 0

-- what proofs about all formats and productions unfold
unfoldable pub all : ℕ
unfolding of_types of_clauses of_definitions of_modules file many is_reserved
all = 0

-- The reserved words: the words of the grammar. A name can't be one of them, unless it names a
-- macro.
use Rattle.std.specs.Prelude.{ℕ, Bool, List, [], ◌∷◌, codes}
use Rattle.std.specs.List.{list_any}
use Rattle.smi_text.specs.trees.Mark.{same_text}

-- the words that name a macro (RFC 2578, section 3)
abbrev pub macros : List (List ℕ)
macros =
    codes "MODULE-IDENTITY" ∷ codes "OBJECT-IDENTITY" ∷ codes "OBJECT-TYPE" ∷ codes
    "NOTIFICATION-TYPE" ∷
    codes "TEXTUAL-CONVENTION" ∷ codes "OBJECT-GROUP" ∷ codes "NOTIFICATION-GROUP" ∷ codes
    "MODULE-COMPLIANCE" ∷
    codes "AGENT-CAPABILITIES" ∷ []

abbrev pub reserved_words : List (List ℕ)
reserved_words =
    codes "DEFINITIONS" ∷ codes "BEGIN" ∷ codes "END" ∷ codes "IMPORTS" ∷ codes "FROM" ∷
    codes "OBJECT" ∷ codes "IDENTIFIER" ∷ codes "MODULE-IDENTITY" ∷ codes "LAST-UPDATED" ∷ codes
    "ORGANIZATION" ∷
    codes "CONTACT-INFO" ∷ codes "DESCRIPTION" ∷ codes "REVISION" ∷ codes "OBJECT-IDENTITY" ∷ codes
    "OBJECT-TYPE" ∷
    codes "SYNTAX" ∷ codes "UNITS" ∷ codes "MAX-ACCESS" ∷ codes "DEFVAL" ∷ codes
    "NOTIFICATION-TYPE" ∷
    codes "OBJECTS" ∷ codes "OBJECT-GROUP" ∷ codes "NOTIFICATION-GROUP" ∷ codes "NOTIFICATIONS" ∷
    codes "MODULE-COMPLIANCE" ∷
    codes "AGENT-CAPABILITIES" ∷ codes "TEXTUAL-CONVENTION" ∷ codes "DISPLAY-HINT" ∷ codes
    "APPLICATION" ∷ codes "IMPLICIT" ∷
    codes "SEQUENCE" ∷ codes "CHOICE" ∷ codes "MACRO" ∷ codes "STATUS" ∷ codes "REFERENCE" ∷
    codes "INDEX" ∷ codes "IMPLIED" ∷ codes "AUGMENTS" ∷ codes "OF" ∷ codes "INTEGER" ∷
    codes "OCTET" ∷ codes "STRING" ∷ codes "BITS" ∷ codes "SIZE" ∷ []

-- whether the text is a reserved word
unfoldable pub is_reserved : List ℕ → Bool
is_reserved x = list_any (same_text x) reserved_words

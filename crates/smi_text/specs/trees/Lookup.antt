-- What a module defines and imports, and what a definition says of the name that it defines.
use Rattle.std.specs.Prelude.{ℕ, Bool, true, ◌&&◌, not, List, [], ◌∷◌, Option, Some, None, codes}
use Rattle.std.specs.Prelude.{map, unwrap_or}
use Rattle.std.specs.List.{list_any, find}
use Rattle.smi_text.specs.{trees.Mark.same_text, declared.trees.tree.Module.Module}
use Rattle.smi_text.specs.{declared.trees.tree.Import.Import, declared.trees.tree.Def.Def}
use Rattle.smi_text.specs.{declared.trees.tree.Part.Part, trees.Number.arc_in}
use Rattle.smi_text.specs.declared.trees.tree.DefKind.{DefKind}
use Rattle.smi_text.specs.declared.trees.tree.DefKind.TheVariants as D
use Rattle.smi_text.specs.declared.trees.tree.Part.TheVariants as P

-- whether definition `d` defines `name`
abbrev pub defines : List ℕ → Def → Bool
defines name d = same_text d.label.octets name

-- whether `name` is one of the symbols of clause `i`
abbrev pub is_imported_by : List ℕ → Import → Bool
is_imported_by name i = list_any (λ s. same_text s.text name) i.symbols

-- the FROM clauses of a module; none if it has no IMPORTS
abbrev pub import_clauses : Module → List Import
import_clauses m = unwrap_or m.imports []

-- the first of the definitions `ds` that defines `name`, if one does; `first_import` is the first
-- of the clauses `is` that imports `name`, if one does
abbrev pub first_definition : List ℕ → List Def → Option Def
first_definition name ds = find (defines name) ds

abbrev pub first_import : List ℕ → List Import → Option Import
first_import name is = find (is_imported_by name) is

-- the first definition of `name` in the text of module `m`, if the module has one
abbrev pub definition_of : Module → List ℕ → Option Def
definition_of m name = first_definition name m.defs

-- the first FROM clause in the text of module `m` that imports `name`, if one does
abbrev pub import_of : Module → List ℕ → Option Import
import_of m name = first_import name (import_clauses m)

-- the labels of definitions, in the order of the text
abbrev pub labels : List Def → List (List ℕ)
labels ds = map (λ d. d.label.octets) ds

-- whether no label occurs twice
abbrev pub are_distinct : List (List ℕ) → Bool
are_distinct [] = true
are_distinct (x ∷ xs) = not (list_any (same_text x) xs) && are_distinct xs

-- the identifier value of a definition (RFC 2578, section 3.6); types and macros have none
abbrev pub identifier_value_of : DefKind → Option (List Part)
identifier_value_of (D.ObjectIdentifier v) = Some v
identifier_value_of (D.ModuleIdentity d) = Some d.value
identifier_value_of (D.ObjectIdentity d) = Some d.value
identifier_value_of (D.ObjectType d) = Some d.value
identifier_value_of (D.NotificationType d) = Some d.value
identifier_value_of (D.ObjectGroup d) = Some d.value
identifier_value_of (D.NotificationGroup d) = Some d.value
identifier_value_of (D.ModuleCompliance d) = Some d.value
identifier_value_of (D.AgentCapabilities d) = Some d.value
identifier_value_of _ = None

-- the words that say what is defined; empty for the assignment of a type
abbrev pub kind_words : DefKind → List ℕ
kind_words (D.ObjectIdentifier v) = codes "OBJECT IDENTIFIER"
kind_words (D.ModuleIdentity d) = codes "MODULE-IDENTITY"
kind_words (D.ObjectIdentity d) = codes "OBJECT-IDENTITY"
kind_words (D.ObjectType d) = codes "OBJECT-TYPE"
kind_words (D.NotificationType d) = codes "NOTIFICATION-TYPE"
kind_words (D.ObjectGroup d) = codes "OBJECT-GROUP"
kind_words (D.NotificationGroup d) = codes "NOTIFICATION-GROUP"
kind_words (D.ModuleCompliance d) = codes "MODULE-COMPLIANCE"
kind_words (D.AgentCapabilities d) = codes "AGENT-CAPABILITIES"
kind_words (D.TextualConvention d) = codes "TEXTUAL-CONVENTION"
kind_words (D.TypeAssignment d) = []
kind_words (D.Sequence fields) = codes "SEQUENCE"
kind_words (D.Choice tokens) = codes "CHOICE"
kind_words (D.Macro tokens) = codes "MACRO"

-- the number of a part of an identifier value, if it has one from 0 to 4294967295
abbrev pub part_number : Part → Option ℕ
part_number (P.Number n) = arc_in n
part_number (P.Name x) = None
part_number (P.NamedNumber n) = arc_in n.number

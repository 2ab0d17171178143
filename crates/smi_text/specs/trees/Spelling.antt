-- The spelling of a list of module trees, as marks: each describes one token. There is one case
-- for each production of the grammar. In the comments a word or sign in quotes stands for itself,
-- UPPER, LOWER, NUM, HEX, BIN and STR for a token of that kind (UPPER for one that isn't a reserved
-- word), [ x ] for x or nothing, and { x } for x any number of times (RFC 2578, sections 3 to 8;
-- RFC 2579; RFC 2580).
use Rattle.std.specs.Prelude.{ℕ, Bool, true, false, ◌&&◌, not, List, [], ◌∷◌, ◌++◌, Option, Some}
use Rattle.std.specs.Prelude.{None, codes, map, if◌then◌else◌}
use Rattle.std.specs.List.{flat_map}
use Rattle.smi_text.specs.declared.lexer.token.TokenKind.TheVariants as K
use Rattle.smi_text.specs.trees.Mark.{Mark, sign, spelled, on_line, same_kind, same_text}
use Rattle.smi_text.specs.{trees.Reserved.is_reserved, trees.Braces.has_balanced_braces}
use Rattle.smi_text.specs.{declared.trees.names.Name.Name, declared.trees.tree.Module.Module}
use Rattle.smi_text.specs.{declared.trees.tree.Import.Import, declared.trees.tree.Def.Def}
use Rattle.smi_text.specs.{declared.trees.tree.DefKind.DefKind, declared.trees.tree.Part.Part}
use Rattle.smi_text.specs.{declared.trees.tree.Revision.Revision, declared.trees.tree.Status.Status}
use Rattle.smi_text.specs.{declared.trees.tree.Index.Index, declared.trees.tree.Group.Group}
use Rattle.smi_text.specs.{declared.trees.tree.Field.Field, declared.trees.tree.Syntax.Syntax}
use Rattle.smi_text.specs.{declared.trees.tree.Base.Base, declared.trees.tree.Range.Range}
use Rattle.smi_text.specs.trees.Number.{is_arc, is_number, is_bound, is_symbol, is_macro}
use Rattle.smi_text.specs.declared.trees.tree.TokenText.{TokenText}
use Rattle.smi_text.specs.declared.trees.tree.DefKind.TheVariants as D
use Rattle.smi_text.specs.declared.trees.tree.Part.TheVariants as P
use Rattle.smi_text.specs.declared.trees.tree.NamedNumber.{NamedNumber}
use Rattle.smi_text.specs.declared.trees.tree.ModuleIdentity.{ModuleIdentity}
use Rattle.smi_text.specs.declared.trees.tree.ObjectIdentity.{ObjectIdentity}
use Rattle.smi_text.specs.declared.trees.tree.ObjectType.{ObjectType}
use Rattle.smi_text.specs.declared.trees.tree.Index.TheVariants as I
use Rattle.smi_text.specs.declared.trees.tree.NotificationType.{NotificationType}
use Rattle.smi_text.specs.declared.trees.tree.RawDefinition.{RawDefinition}
use Rattle.smi_text.specs.declared.trees.tree.TextualConvention.{TextualConvention}
use Rattle.smi_text.specs.declared.trees.tree.TypeAssignment.{TypeAssignment}
use Rattle.smi_text.specs.declared.trees.tree.Syntax.TheVariants as T
use Rattle.smi_text.specs.declared.trees.tree.SimpleType.{SimpleType}
use Rattle.smi_text.specs.declared.trees.tree.Base.TheVariants as B
use Rattle.smi_text.specs.declared.trees.tree.Refinement.{Refinement}
use Rattle.smi_text.specs.declared.trees.tree.Refinement.TheVariants as R

-- ---- tokens

abbrev pub word : List ℕ → Mark
word w = spelled K.Upper w true

-- UPPER, which isn't a reserved word
abbrev pub upper : Name → Mark
upper x = spelled K.Upper x.octets (not (is_reserved x.octets))

abbrev pub lower : Name → Mark
lower x = spelled K.Lower x.octets true

-- a LOWER that is stored as a text, not as a name
abbrev pub lower_text : List ℕ → Mark
lower_text x = spelled K.Lower x true

abbrev pub string : List ℕ → Mark
string x = spelled K.Text x true

-- NUM in an identifier, from 0 to 4294967295
abbrev pub arc : List ℕ → Mark
arc x = spelled K.Number x (is_arc x)

-- NUM outside identifiers, from -9223372036854775808 to 18446744073709551615
abbrev pub number : List ℕ → Mark
number x = spelled K.Number x (is_number x)

-- NUM outside identifiers, or HEX or BIN with a value up to 18446744073709551615
abbrev pub bound : TokenText → Mark
bound x = spelled x.kind x.text (is_bound x.kind x.text)

-- a single mark, which no token matches; it spells values that can't be written, such as an empty
-- list of ranges
abbrev pub nothing : List Mark
nothing = spelled K.Upper [] false ∷ []

abbrev pub braces : List Mark → List Mark
braces ms = sign K.OpenBrace ∷ (ms ++ sign K.CloseBrace ∷ [])

abbrev pub parentheses : List Mark → List Mark
parentheses ms = sign K.OpenParen ∷ (ms ++ sign K.CloseParen ∷ [])

-- [ part ]
abbrev pub of_option : {A : Type 0} → (A → List Mark) → Option A → List Mark
of_option f None = []
of_option f (Some x) = f x

-- part { other part }
abbrev pub of_some : {A : Type 0} → (A → List Mark) → (A → List Mark) → List A → List Mark
of_some f g [] = nothing
of_some f g (x ∷ xs) = f x ++ flat_map g xs

-- part { sign part }
abbrev pub of_list : {A : Type 0} → Mark → (A → List Mark) → List A → List Mark
of_list m f = of_some f (λ y. m ∷ f y)

-- ---- identifiers

-- LOWER "(" NUM ")"
abbrev pub of_named_arc : NamedNumber → List Mark
of_named_arc n = lower n.name ∷ parentheses (arc n.number ∷ [])

abbrev pub of_part : Part → List Mark
of_part (P.Number n) = arc n ∷ []
of_part (P.Name x) = lower x ∷ []
of_part (P.NamedNumber n) = of_named_arc n

-- a part of an identifier value after the first; it can't be LOWER without a number
abbrev pub of_later_part : Part → List Mark
of_later_part (P.Number n) = arc n ∷ []
of_later_part (P.Name x) = nothing
of_later_part (P.NamedNumber n) = of_named_arc n

-- "::=" "{" part { part } "}"
abbrev pub of_value : List Part → List Mark
of_value ps = sign K.Assign ∷ braces (of_some of_part of_later_part ps)

-- ---- types

-- bound [ ".." bound ]
abbrev pub of_range : Range → List Mark
of_range r = bound r.low ∷ of_option (λ x. sign K.Range ∷ bound x ∷ []) r.high

abbrev pub of_ranges : List Range → List Mark
of_ranges rs = of_list (sign K.Bar) of_range rs

-- LOWER "(" NUM ")"
abbrev pub of_named_number : NamedNumber → List Mark
of_named_number n = lower n.name ∷ parentheses (number n.number ∷ [])

abbrev pub of_refinement : Refinement → List Mark
of_refinement (R.Numbers ns) = braces (of_list (sign K.Comma) of_named_number ns)
of_refinement (R.Values rs) = parentheses (of_ranges rs)
of_refinement (R.Size rs) = parentheses (word (codes "SIZE") ∷ parentheses (of_ranges rs))

abbrev pub of_base : Base → List Mark
of_base B.Integer = word (codes "INTEGER") ∷ []
of_base B.OctetString = word (codes "OCTET") ∷ word (codes "STRING") ∷ []
of_base B.ObjectIdentifier = word (codes "OBJECT") ∷ word (codes "IDENTIFIER") ∷ []
of_base B.Bits = word (codes "BITS") ∷ []
of_base (B.Named x) = upper x ∷ []

abbrev pub of_simple_type : SimpleType → List Mark
of_simple_type t = of_base t.base ++ of_option of_refinement t.refinement

-- "SEQUENCE" "OF" UPPER | base [ refinement ]
abbrev pub of_syntax : Syntax → List Mark
of_syntax (T.SequenceOf x) = word (codes "SEQUENCE") ∷ word (codes "OF") ∷ upper x ∷ []
of_syntax (T.Simple t) = of_simple_type t

abbrev pub of_field : Field → List Mark
of_field f = lower f.label ∷ of_syntax f.syntax

-- ---- clauses

abbrev pub of_clause : List ℕ → List ℕ → List Mark
of_clause w x = word w ∷ string x ∷ []

-- "{" LOWER { "," LOWER } "}"
abbrev pub of_names : List Name → List Mark
of_names xs = braces (of_list (sign K.Comma) (λ x. lower x ∷ []) xs)

-- "STATUS" LOWER "DESCRIPTION" STR [ "REFERENCE" STR ]
abbrev pub of_status : Status → List Mark
of_status s =
    word (codes "STATUS") ∷ lower_text s.status ∷ word
    (codes "DESCRIPTION") ∷ string s.description ∷ of_option (of_clause
    (codes "REFERENCE")) s.reference

-- { LOWER "," } [ "IMPLIED" ] LOWER
abbrev pub of_index_names : List Name → Bool → List Mark
of_index_names [] implied = nothing
of_index_names (x ∷ []) implied = (if implied then word
    (codes "IMPLIED") ∷ [] else []) ++ lower x ∷ []
of_index_names (x ∷ (y ∷ ys)) implied = lower x ∷ sign K.Comma ∷ of_index_names (y ∷ ys) implied

abbrev pub of_index : Index → List Mark
of_index (I.Own p) = word (codes "INDEX") ∷ braces (of_index_names p.names p.implied)
of_index (I.Augments x) = word (codes "AUGMENTS") ∷ braces (lower x ∷ [])

-- tokens stored as they are; `nothing` if the braces among them aren't balanced
abbrev pub of_balanced : List TokenText → List Mark
of_balanced xs = if has_balanced_braces xs then map
    (λ x. spelled x.kind x.text true) xs else nothing

-- tokens stored as they are, before "::="
abbrev pub of_raw_clauses : List TokenText → List Mark
of_raw_clauses xs = flat_map (λ x. spelled x.kind x.text (not (same_kind x.kind K.Assign)) ∷ []) xs

-- tokens stored as they are, before END
abbrev pub of_raw_body : List TokenText → List Mark
of_raw_body xs = flat_map (λ x. spelled x.kind x.text (not
    (same_kind x.kind K.Upper && same_text x.text (codes "END"))) ∷ []) xs

-- ---- definitions

abbrev pub of_revision : Revision → List Mark
of_revision r = word (codes "REVISION") ∷ string r.date ∷ word
    (codes "DESCRIPTION") ∷ string r.description ∷ []

abbrev pub of_module_identity : ModuleIdentity → List Mark
of_module_identity d =
    word (codes "MODULE-IDENTITY") ∷ word (codes "LAST-UPDATED") ∷ string d.last_updated ∷ word
    (codes "ORGANIZATION") ∷ string d.organization ∷
    word (codes "CONTACT-INFO") ∷ string d.contact_info ∷ word
    (codes "DESCRIPTION") ∷ string d.description ∷
    (flat_map of_revision d.revisions ++ of_value d.value)

abbrev pub of_object_identity : ObjectIdentity → List Mark
of_object_identity d = word (codes "OBJECT-IDENTITY") ∷ (of_status d.status ++ of_value d.value)

abbrev pub of_object_type : ObjectType → List Mark
of_object_type d =
    word (codes "OBJECT-TYPE") ∷ word (codes "SYNTAX") ∷ (of_syntax d.syntax ++ (of_option
    (of_clause (codes "UNITS")) d.units ++
    (word (codes "MAX-ACCESS") ∷ lower_text d.max_access ∷ (of_status d.status ++
    (of_option of_index d.index ++
    (of_option (λ xs. word (codes "DEFVAL") ∷ braces
    (of_balanced xs)) d.default ++ of_value d.value))))))

abbrev pub of_notification_type : NotificationType → List Mark
of_notification_type d =
    word (codes "NOTIFICATION-TYPE") ∷ (of_option (λ xs. word
    (codes "OBJECTS") ∷ of_names xs) d.objects ++ (of_status d.status ++ of_value d.value))

abbrev pub of_group : List ℕ → List ℕ → Group → List Mark
of_group w members d = word w ∷ word members ∷ (of_names d.members ++
    (of_status d.status ++ of_value d.value))

abbrev pub of_raw_definition : List ℕ → RawDefinition → List Mark
of_raw_definition w d = word w ∷ (of_raw_clauses d.clauses ++ of_value d.value)

abbrev pub of_textual_convention : TextualConvention → List Mark
of_textual_convention d =
    word (codes "TEXTUAL-CONVENTION") ∷ (of_option (of_clause
    (codes "DISPLAY-HINT")) d.display_hint ++ (of_status d.status ++
    (word (codes "SYNTAX") ∷ of_syntax d.syntax)))

-- [ "[" "APPLICATION" NUM "]" "IMPLICIT" ] type
abbrev pub of_type_assignment : TypeAssignment → List Mark
of_type_assignment d =
    of_option (λ n. sign K.OpenBracket ∷ word
    (codes "APPLICATION") ∷ number n ∷ sign K.CloseBracket ∷ word
    (codes "IMPLICIT") ∷ []) d.tag ++ of_syntax d.syntax

-- the label is UPPER for a type, UPPER or a macro's reserved word for a macro, and LOWER for any
-- other definition
abbrev pub label : Name → DefKind → Mark
label x (D.TextualConvention d) = upper x
label x (D.TypeAssignment d) = upper x
label x (D.Sequence fs) = upper x
label x (D.Choice xs) = upper x
label x (D.Macro xs) =
    spelled K.Upper x.octets (if is_macro x.octets then true else not (is_reserved x.octets))
label x _ = lower x

-- a definition without its name
abbrev pub of_kind : DefKind → List Mark
of_kind (D.ObjectIdentifier v) = word (codes "OBJECT") ∷ word (codes "IDENTIFIER") ∷ of_value v
of_kind (D.ModuleIdentity d) = of_module_identity d
of_kind (D.ObjectIdentity d) = of_object_identity d
of_kind (D.ObjectType d) = of_object_type d
of_kind (D.NotificationType d) = of_notification_type d
of_kind (D.ObjectGroup d) = of_group (codes "OBJECT-GROUP") (codes "OBJECTS") d
of_kind (D.NotificationGroup d) = of_group (codes "NOTIFICATION-GROUP") (codes "NOTIFICATIONS") d
of_kind (D.ModuleCompliance d) = of_raw_definition (codes "MODULE-COMPLIANCE") d
of_kind (D.AgentCapabilities d) = of_raw_definition (codes "AGENT-CAPABILITIES") d
of_kind (D.TextualConvention d) = sign K.Assign ∷ of_textual_convention d
of_kind (D.TypeAssignment d) = sign K.Assign ∷ of_type_assignment d
of_kind (D.Sequence fs) =
    sign K.Assign ∷ word (codes "SEQUENCE") ∷ braces (of_list (sign K.Comma) of_field fs)
of_kind (D.Choice xs) = sign K.Assign ∷ word (codes "CHOICE") ∷ braces (of_balanced xs)
of_kind (D.Macro xs) =
    word (codes "MACRO") ∷ sign K.Assign ∷ word (codes "BEGIN") ∷
    (of_raw_body xs ++ word (codes "END") ∷ [])

-- a name on its line, and what it is defined as
abbrev pub of_def : Def → List Mark
of_def d = on_line d.line (label d.label d.kind) ∷ of_kind d.kind

-- ---- modules

-- LOWER | UPPER | macro
abbrev pub imported_symbol : TokenText → Mark
imported_symbol x = spelled x.kind x.text (is_symbol x.kind x.text)

-- the marks, the first of them on line n; `nothing` if there are no marks
abbrev pub put_line : ℕ → List Mark → List Mark
put_line n [] = nothing
put_line n (m ∷ ms) = on_line n m ∷ ms

-- symbol { "," symbol } "FROM" UPPER, the first token on its line
abbrev pub of_import : Import → List Mark
of_import i =
    put_line i.line (of_list (sign K.Comma) (λ x. imported_symbol x ∷ []) i.symbols ++ (word
    (codes "FROM") ∷ upper i.source ∷ []))

-- UPPER [ "{" { part } "}" ] "DEFINITIONS" "::=" "BEGIN" [ "IMPORTS" .. ";" ]
abbrev pub of_head : Name → Option (List Part) → Option (List Import) → List Mark
of_head x heading imports =
    upper x ∷ (of_option (λ ps. braces (flat_map of_part ps)) heading ++ (word
    (codes "DEFINITIONS") ∷ sign K.Assign ∷ word (codes "BEGIN") ∷
    of_option (λ is. word (codes "IMPORTS") ∷
    (flat_map of_import is ++ sign K.Semicolon ∷ [])) imports))

abbrev pub of_module : Module → List Mark
of_module m = of_head m.name m.heading m.imports ++ (flat_map of_def m.defs ++ word
    (codes "END") ∷ [])

-- the spelling of a list of modules
abbrev pub spelling : List Module → List Mark
spelling ms = flat_map of_module ms

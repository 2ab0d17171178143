-- The productions of the grammar as formats: they read back the parts of a module tree that
-- `Spelling.antt` writes.
use Rattle.std.specs.Prelude.{ℕ, ◌+◌, ◌-◌, ◌==◌, Bool, true, false, ◌&&◌, not, List, [], ◌∷◌, ◌++◌}
use Rattle.std.specs.Prelude.{length, Option, Some, None, Ok, Err, codes, map, if◌then◌else◌}
use Rattle.std.specs.Prelude.{option_and_then, option_map}
use Rattle.std.proofs.Common.{◌⊎◌, inl, inr, zero, suc}
use Rattle.smi_text.specs.declared.lexer.token.TokenKind.{TokenKind}
use Rattle.smi_text.specs.declared.lexer.token.TokenKind.TheVariants as K
use Rattle.smi_text.specs.{lexer.Token.Lexeme, lexer.Token.Item, trees.Mark.same_kind}
use Rattle.smi_text.specs.{trees.Mark.same_text, trees.Reserved.macros}
use Rattle.smi_text.specs.{declared.trees.names.Name.Name, declared.trees.tree.Module.Module}
use Rattle.smi_text.specs.{declared.modules.Head.Head, declared.trees.tree.Import.Import}
use Rattle.smi_text.specs.{declared.trees.tree.TokenText.TokenText, declared.trees.tree.Def.Def}
use Rattle.smi_text.specs.{declared.trees.tree.DefKind.DefKind, declared.trees.tree.Part.Part}
use Rattle.smi_text.specs.{declared.trees.tree.Revision.Revision, declared.trees.tree.Status.Status}
use Rattle.smi_text.specs.{declared.trees.tree.Index.Index, declared.trees.tree.Group.Group}
use Rattle.smi_text.specs.{declared.trees.tree.Field.Field, declared.trees.tree.Syntax.Syntax}
use Rattle.smi_text.specs.{declared.trees.tree.Base.Base, declared.trees.tree.Range.Range}
use Rattle.smi_text.specs.trees.Number.{is_arc, is_number, is_bound, is_symbol, is_macro}
use Rattle.smi_text.specs.private.Format.{Format, Parsed, Ahead, a_word, a_name, a_kind, no_word}
use Rattle.smi_text.specs.private.Format.{no_kind, begins, one, word, token, text, text_where, name}
use Rattle.smi_text.specs.private.Format.{pair, preceded, before, maybe, either, many, shaped}
use Rattle.smi_text.specs.private.Format.{some_of, separated, lined, prepend, lower, name_where}
use Rattle.smi_text.specs.declared.trees.tree.DefKind.TheVariants as D
use Rattle.smi_text.specs.declared.trees.tree.Part.TheVariants as P
use Rattle.smi_text.specs.declared.trees.tree.NamedNumber.{NamedNumber}
use Rattle.smi_text.specs.declared.trees.tree.ModuleIdentity.{ModuleIdentity}
use Rattle.smi_text.specs.declared.trees.tree.ObjectIdentity.{ObjectIdentity}
use Rattle.smi_text.specs.declared.trees.tree.ObjectType.{ObjectType}
use Rattle.smi_text.specs.declared.trees.tree.Index.TheVariants as I
use Rattle.smi_text.specs.declared.trees.tree.IndexParts.{IndexParts}
use Rattle.smi_text.specs.declared.trees.tree.NotificationType.{NotificationType}
use Rattle.smi_text.specs.declared.trees.tree.RawDefinition.{RawDefinition}
use Rattle.smi_text.specs.declared.trees.tree.TextualConvention.{TextualConvention}
use Rattle.smi_text.specs.declared.trees.tree.Syntax.TheVariants as T
use Rattle.smi_text.specs.declared.trees.tree.SimpleType.{SimpleType}
use Rattle.smi_text.specs.declared.trees.tree.Base.TheVariants as B
use Rattle.smi_text.specs.declared.trees.tree.Refinement.{Refinement}
use Rattle.smi_text.specs.declared.trees.tree.Refinement.TheVariants as R

-- ---- formats that productions share

-- reads a clause, the word `w` and then a string, and returns the string
unfoldable pub clause : List ℕ → Format (List ℕ)
clause w = preceded (word w) (text K.Text)

-- reads with `f` between two braces
unfoldable pub braced : {A : Type 0} → Format A → Format A
braced f = preceded (token K.OpenBrace) (before f (token K.CloseBrace))

-- reads with `f` between two parentheses
unfoldable pub parenthesized : {A : Type 0} → Format A → Format A
parenthesized f = preceded (token K.OpenParen) (before f (token K.CloseParen))

-- the kind and the text of a token; `kept` reads these from a token that passes the test `ok`
abbrev pub kept_text : Lexeme → TokenText
kept_text t = record { kind = t.kind; text = t.text }

abbrev pub kept : List Ahead → (TokenKind → List ℕ → Bool) → Format TokenText
kept cs ok = one cs (λ t. if ok t.kind t.text then Some (kept_text t) else None)

-- ---- identifiers

unfoldable pub arc : Format (List ℕ)
arc = text_where K.Number is_arc

abbrev pub to_part : List ℕ ⊎ (Name × Option (List ℕ)) → Part
to_part (inl n) = P.Number n
to_part (inr (x, None)) = P.Name x
to_part (inr (x, Some n)) = P.NamedNumber (record { name = x; number = n })

-- the first part of an identifier value, or a part of a heading
unfoldable pub part : Format Part
part = shaped to_part (either arc (pair lower (maybe (parenthesized arc))))

abbrev pub to_later_part : List ℕ ⊎ (Name × List ℕ) → Part
to_later_part (inl n) = P.Number n
to_later_part (inr (x, n)) = P.NamedNumber (record { name = x; number = n })

-- a part of an identifier value after the first
unfoldable pub later_part : Format Part
later_part = shaped to_later_part (either arc (pair lower (parenthesized arc)))

unfoldable pub identifier : Format (List Part)
identifier = braced (some_of part later_part)

-- what most definitions end with: `::=` and an identifier value
unfoldable pub value : Format (List Part)
value = preceded (token K.Assign) identifier

-- ---- types

unfoldable pub bound : Format TokenText
bound = kept (a_kind K.Number ∷ a_kind K.Hex ∷ a_kind K.Binary ∷ []) is_bound

unfoldable pub range : Format Range
range =
    shaped (λ p. record { low = p.0; high = p.1 })
    (pair bound (maybe (preceded (token K.Range) bound)))

unfoldable pub ranges : Format (List Range)
ranges = separated K.Bar range

-- a name and then a number in parentheses; the number may be negative
unfoldable pub named_number : Format NamedNumber
named_number =
    shaped (λ p. record { name = p.0; number = p.1 })
    (pair lower (parenthesized (text_where K.Number is_number)))

abbrev pub to_refinement : List NamedNumber ⊎ (List Range ⊎ List Range) → Refinement
to_refinement (inl ns) = R.Numbers ns
to_refinement (inr (inl rs)) = R.Size rs
to_refinement (inr (inr rs)) = R.Values rs

unfoldable pub size : Format (List Range)
size = preceded (word (codes "SIZE")) (parenthesized ranges)

unfoldable pub refinement : Format Refinement
refinement =
    shaped to_refinement (either (braced (separated K.Comma named_number))
    (parenthesized (either size ranges)))

unfoldable pub object_identifier_words : Format (Unit {0})
object_identifier_words = preceded (word (codes "OBJECT")) (word (codes "IDENTIFIER"))

unfoldable pub octet_string_words : Format (Unit {0})
octet_string_words = preceded (word (codes "OCTET")) (word (codes "STRING"))

abbrev pub to_base : Unit {0} ⊎ (Unit {0} ⊎ (Unit {0} ⊎ (Unit {0} ⊎ Name))) → Base
to_base (inl x) = B.Integer
to_base (inr (inl x)) = B.OctetString
to_base (inr (inr (inl x))) = B.ObjectIdentifier
to_base (inr (inr (inr (inl x)))) = B.Bits
to_base (inr (inr (inr (inr x)))) = B.Named x

unfoldable pub base : Format Base
base =
    shaped to_base
    (either (word (codes "INTEGER")) (either octet_string_words (either object_identifier_words
    (either (word (codes "BITS")) name))))

unfoldable pub simple_type : Format SimpleType
simple_type = shaped (λ p. record { base = p.0; refinement = p.1 }) (pair base (maybe refinement))

abbrev pub to_syntax : Name ⊎ SimpleType → Syntax
to_syntax (inl x) = T.SequenceOf x
to_syntax (inr t) = T.Simple t

unfoldable pub of_row : Format Name
of_row = preceded (word (codes "OF")) name

unfoldable pub syntax_type : Format Syntax
syntax_type = shaped to_syntax (either (preceded (word
    (codes "SEQUENCE")) of_row) simple_type)

unfoldable pub field : Format Field
field = shaped (λ p. record { label = p.0; syntax = p.1 }) (pair lower syntax_type)

-- ---- clauses

unfoldable pub names : Format (List Name)
names = braced (separated K.Comma lower)

unfoldable pub status : Format Status
status =
    shaped (λ p. record { status = p.0; description = p.1.0; reference = p.1.1 })
    (pair (preceded (word (codes "STATUS")) (text K.Lower)) (pair (clause (codes "DESCRIPTION"))
    (maybe (clause (codes "REFERENCE")))))

abbrev pub implied_name : Format Name
implied_name = preceded (word (codes "IMPLIED")) lower

abbrev pub index_parts : List Name → Bool → IndexParts
index_parts xs implied = record { names = xs; implied = implied }

-- puts the names `xs` before the names that were read, if any were
unfoldable pub with_names : List Name → Parsed IndexParts → Parsed IndexParts
with_names xs r = option_map (λ p. (index_parts (xs ++ p.0.names) p.0.implied, p.1)) r

-- the names of an INDEX, the last one with or without IMPLIED; `n` bounds the recursion
unfoldable pub read_index : ℕ → List Item → Parsed IndexParts
read_index zero ts = None
read_index (suc n) ts =
    if begins (a_word (codes "IMPLIED") ∷ []) ts then option_map (λ p. (
      index_parts
          (p.0 ∷ []) true,
      p.1,
    )) (implied_name.read ts)
    else option_and_then (λ p.
    if begins (a_kind K.Comma ∷ []) p.1 then with_names (p.0 ∷ []) (option_and_then
    (λ q. read_index n q.1) ((token K.Comma).read p.1))
    else Some (index_parts (p.0 ∷ []) false, p.1)) (lower.read ts)

unfoldable pub index_names : Format IndexParts
index_names = record {
  read = λ ts. read_index (suc (length ts)) ts;
  first = a_word (codes "IMPLIED") ∷ a_kind K.Lower ∷ [];
  stop = a_kind K.Comma ∷ [];
  empty = false;
}

abbrev pub to_index : IndexParts ⊎ Name → Index
to_index (inl p) = I.Own p
to_index (inr x) = I.Augments x

unfoldable pub index : Format Index
index =
    shaped to_index
    (either (preceded (word (codes "INDEX")) (braced index_names)) (preceded (word
    (codes "AUGMENTS"))
    (braced lower)))

-- ---- tokens that are stored as they are

unfoldable pub before_assign : Format TokenText
before_assign = kept (no_kind K.Assign ∷ []) (λ k x. not (same_kind k K.Assign))

unfoldable pub before_end : Format TokenText
before_end = kept (no_word (codes "END") ∷ []) (λ k x. not (same_kind k K.Upper && same_text x
    (codes "END")))

-- how many braces are open after a token of this kind; `depth` are open before it
abbrev pub depth_after : TokenKind → ℕ → ℕ
depth_after k depth =
    if same_kind k K.OpenBrace then depth + 1 else
    (if same_kind k K.CloseBrace then depth - 1 else depth)

-- whether a token of this kind closes a brace that isn't open; `depth` are open before it
abbrev pub is_outside : TokenKind → ℕ → Bool
is_outside k depth = same_kind k K.CloseBrace && (depth == 0)

unfoldable pub read_balanced : ℕ → List Item → Parsed (List TokenText)
read_balanced depth [] = if depth == 0 then Some ([], []) else None
read_balanced depth (Err fault ∷ items) = if depth == 0 then Some ([], Err fault ∷ items) else None
read_balanced depth (Ok t ∷ items) =
    if is_outside t.kind depth then Some ([], Ok t ∷ items)
    else prepend (kept_text t ∷ []) (read_balanced (depth_after t.kind depth) items)

unfoldable pub balanced_tokens : Format (List TokenText)
balanced_tokens = record {
  read = read_balanced 0;
  first = no_kind K.CloseBrace ∷ [];
  stop = no_kind K.CloseBrace ∷ [];
  empty = true;
}

-- ---- definitions

unfoldable pub revision : Format Revision
revision =
    shaped (λ p. record { date = p.0; description = p.1 })
    (pair (clause (codes "REVISION")) (clause (codes "DESCRIPTION")))

unfoldable pub module_identity : Format ModuleIdentity
module_identity =
    shaped (λ p. record {
      last_updated = p.0;
      organization = p.1.0;
      contact_info = p.1.1.0;
      description = p.1.1.1.0;
      revisions = p.1.1.1.1.0;
      value = p.1.1.1.1.1;
    })
    (preceded (word (codes "MODULE-IDENTITY"))
    (pair (clause (codes "LAST-UPDATED")) (pair (clause (codes "ORGANIZATION")) (pair (clause
    (codes "CONTACT-INFO"))
    (pair (clause (codes "DESCRIPTION")) (pair (many revision) value))))))

unfoldable pub object_identity : Format ObjectIdentity
object_identity =
    shaped (λ p. record { status = p.0; value = p.1 })
    (preceded (word (codes "OBJECT-IDENTITY")) (pair status value))

unfoldable pub default_value : Format (List TokenText)
default_value = preceded (word (codes "DEFVAL")) (braced balanced_tokens)

unfoldable pub syntax_clause : Format Syntax
syntax_clause = preceded (word (codes "SYNTAX")) syntax_type

unfoldable pub object_type : Format ObjectType
object_type =
    shaped (λ p. record {
      syntax = p.0;
      units = p.1.0;
      max_access = p.1.1.0;
      status = p.1.1.1.0;
      index = p.1.1.1.1.0;
      default = p.1.1.1.1.1.0;
      value = p.1.1.1.1.1.1;
    })
    (preceded (word (codes "OBJECT-TYPE"))
    (pair syntax_clause (pair (maybe (clause (codes "UNITS")))
    (pair (preceded (word (codes "MAX-ACCESS")) (text K.Lower)) (pair status (pair (maybe index)
    (pair (maybe default_value) value)))))))

unfoldable pub objects : Format (List Name)
objects = preceded (word (codes "OBJECTS")) names

unfoldable pub notification_type : Format NotificationType
notification_type =
    shaped (λ p. record { objects = p.0; status = p.1.0; value = p.1.1 })
    (preceded (word (codes "NOTIFICATION-TYPE")) (pair (maybe objects) (pair status value)))

-- a group after the word `w`, with its members after the word `v`
unfoldable pub group : List ℕ → List ℕ → Format Group
group w v =
    shaped (λ p. record { members = p.0; status = p.1.0; value = p.1.1 })
    (preceded (word w) (pair (preceded (word v) names) (pair status value)))

unfoldable pub raw_definition : List ℕ → Format RawDefinition
raw_definition w =
    shaped (λ p. record { clauses = p.0; value = p.1 })
    (preceded (word w) (pair (many before_assign) value))

unfoldable pub object_identifier : Format (List Part)
object_identifier = preceded object_identifier_words value

unfoldable pub textual_convention : Format TextualConvention
textual_convention =
    shaped (λ p. record { display_hint = p.0; status = p.1.0; syntax = p.1.1 })
    (preceded (word (codes "TEXTUAL-CONVENTION"))
    (pair (maybe (clause (codes "DISPLAY-HINT"))) (pair status syntax_clause)))

-- a definition of a name that begins with a lower-case letter, by what follows the name
abbrev pub to_lower : ObjectType ⊎ (List Part ⊎ (ObjectIdentity ⊎ (ModuleIdentity
    ⊎ (NotificationType ⊎ (Group ⊎ (Group ⊎ (RawDefinition ⊎ RawDefinition))))))) → DefKind
to_lower (inl d) = D.ObjectType d
to_lower (inr (inl d)) = D.ObjectIdentifier d
to_lower (inr (inr (inl d))) = D.ObjectIdentity d
to_lower (inr (inr (inr (inl d)))) = D.ModuleIdentity d
to_lower (inr (inr (inr (inr (inl d))))) = D.NotificationType d
to_lower (inr (inr (inr (inr (inr (inl d)))))) = D.ObjectGroup d
to_lower (inr (inr (inr (inr (inr (inr (inl d))))))) = D.NotificationGroup d
to_lower (inr (inr (inr (inr (inr (inr (inr (inl d)))))))) = D.ModuleCompliance d
to_lower (inr (inr (inr (inr (inr (inr (inr (inr d)))))))) = D.AgentCapabilities d

unfoldable pub lower_definition : Format DefKind
lower_definition =
    shaped to_lower
    (either object_type (either object_identifier (either object_identity (either module_identity
    (either notification_type
    (either (group (codes "OBJECT-GROUP") (codes "OBJECTS")) (either (group
    (codes "NOTIFICATION-GROUP") (codes "NOTIFICATIONS"))
    (either (raw_definition (codes "MODULE-COMPLIANCE")) (raw_definition
    (codes "AGENT-CAPABILITIES"))))))))))

-- the number of `[APPLICATION n] IMPLICIT`
unfoldable pub tag : Format (List ℕ)
tag =
    preceded (token K.OpenBracket) (preceded (word (codes "APPLICATION"))
    (before (text_where K.Number is_number) (preceded (token K.CloseBracket) (word
    (codes "IMPLICIT")))))

-- what follows `::=` after a name that begins with an upper-case letter
abbrev pub Assigned : Type 0
Assigned = TextualConvention ⊎ (List TokenText ⊎ ((List ℕ
    × Syntax) ⊎ ((List Field ⊎ Name) ⊎ SimpleType)))

abbrev pub to_assigned : Assigned → DefKind
to_assigned (inl d) = D.TextualConvention d
to_assigned (inr (inl d)) = D.Choice d
to_assigned (inr (inr (inl (n, t)))) = D.TypeAssignment (record { tag = Some n; syntax = t })
to_assigned (inr (inr (inr (inl (inl d))))) = D.Sequence d
to_assigned (inr (inr (inr (inl (inr x))))) = D.TypeAssignment
    (record { tag = None; syntax = T.SequenceOf x })
to_assigned (inr (inr (inr (inr t)))) = D.TypeAssignment
    (record { tag = None; syntax = T.Simple t })

unfoldable pub choice : Format (List TokenText)
choice = preceded (word (codes "CHOICE")) (braced balanced_tokens)

unfoldable pub assigned : Format DefKind
assigned =
    shaped to_assigned
    (either textual_convention (either choice (either (pair tag syntax_type) (either
    (preceded (word (codes "SEQUENCE")) (either (braced (separated K.Comma field)) of_row))
    simple_type))))

unfoldable pub macro_definition : Format DefKind
macro_definition =
    shaped D.Macro
    (preceded (word (codes "MACRO")) (preceded (token K.Assign) (preceded (word (codes "BEGIN"))
    (before (many before_end) (word (codes "END"))))))

abbrev pub to_upper : DefKind ⊎ DefKind → DefKind
to_upper (inl k) = k
to_upper (inr k) = k

-- what follows a name that begins with an upper-case letter
unfoldable pub upper_definition : Format DefKind
upper_definition = shaped to_upper (either (preceded
    (token K.Assign) assigned) macro_definition)

-- the conditions on a token ahead that names a macro: it is one of these words
abbrev pub macro_words : List Ahead
macro_words = map a_word macros

unfoldable pub macro_name : Format Name
macro_name = name_where macro_words K.Upper is_macro

abbrev pub Labelled : Type 0
Labelled = (ℕ × Name) × DefKind

abbrev pub to_def : Labelled ⊎ (Labelled ⊎ Labelled) → Def
to_def (inl p) = record { label = p.0.1; line = p.0.0; kind = p.1 }
to_def (inr (inl p)) = record { label = p.0.1; line = p.0.0; kind = p.1 }
to_def (inr (inr p)) = record { label = p.0.1; line = p.0.0; kind = p.1 }

unfoldable pub definition : Format Def
definition =
    shaped to_def
    (either (pair (lined lower) lower_definition)
    (either (pair (lined name) upper_definition) (pair (lined macro_name) macro_definition)))

-- ---- modules

unfoldable pub imported_symbol : Format TokenText
imported_symbol = kept (a_kind K.Lower ∷ a_name ∷ macro_words) is_symbol

unfoldable pub import_clause : Format Import
import_clause =
    shaped (λ p. record { symbols = p.1.0; source = p.1.1; line = p.0 })
    (lined (pair (separated K.Comma imported_symbol) (preceded (word (codes "FROM")) name)))

unfoldable pub imports : Format (List Import)
imports = preceded (word (codes "IMPORTS")) (before (many import_clause) (token K.Semicolon))

unfoldable pub heading : Format (List Part)
heading = braced (many part)

-- the tokens `DEFINITIONS ::= BEGIN`
unfoldable pub opening : Format (Unit {0})
opening = preceded (word (codes "DEFINITIONS")) (preceded (token K.Assign) (word (codes "BEGIN")))

-- the start of a module, before its definitions: its name, its heading and its imports
unfoldable pub head : Format Head
head =
    shaped (λ p. record { name = p.0; heading = p.1.0; imports = p.1.1 })
    (pair name (pair (maybe heading) (preceded opening (maybe imports))))

unfoldable pub module_text : Format Module
module_text =
    shaped
    (λ p. record { name = p.0.name; heading = p.0.heading; imports = p.0.imports; defs = p.1 })
    (pair head (before (many definition) (word (codes "END"))))

unfoldable pub file : Format (List Module)
file = many module_text

-- The laws of productions: each says that a production reads what `Spelling.antt` writes for it, and nothing else. A law is proved from the laws of the
-- production's pieces, in order. A `refl` shows that the token ahead decides how to continue.
use Rattle.std.proofs.Common.{arith, ◌≡◌, ℕ, true, if◌then◌else◌, List, [], ◌∷◌, Option, Some, None, Ok, refl, inl, inr, ◌⊎◌}
use Rattle.std.proofs.{lemmas.Grind.common_steps, lemmas.Bool.and_parts, lemmas.Bool.or_right, lemmas.Bool.or_cases}
use Rattle.std.specs.{Prelude.drop, Prelude.◌==◌, List.list_any}
use Rattle.smi_text.specs.declared.lexer.token.TokenKind.TheVariants as K
use Rattle.smi_text.specs.{lexer.Token.Lexeme, lexer.Token.Item, declared.trees.names.Name.Name, declared.trees.tree.Syntax.Syntax}
use Rattle.smi_text.specs.{declared.modules.Head.Head, declared.trees.tree.DefKind.DefKind, declared.trees.tree.Def.Def}
use Rattle.smi_text.specs.trees.Mark.{Mark, sign, spelled, on_line, same_kind}
use Rattle.smi_text.specs.trees.Spelling as say
use Rattle.smi_text.specs.trees.Number.{is_bound, is_symbol, is_macro}
use Rattle.smi_text.specs.private.Format.{ItemsMatch, a_name, a_kind, meets, begins}
use Rattle.smi_text.specs.private.Grammar as g
use Rattle.smi_text.proofs.{Productions.all, Lawful.Lawful, Marks.same_kind-eq, RawLaws.index_names-law}
use Rattle.smi_text.proofs.Laws.{never-matched, of_either, ◌▸◌, ◌∣◌, last, word-law, token-law, text-law, text_where-law, name_where-law, lower-law}
use Rattle.smi_text.proofs.Laws.{name-law, pair-law, preceded-law, before-law, maybe-law, either-law, many-law, shaped-law, made-law, spelled-as}
use Rattle.smi_text.proofs.Laws.{lined-law, some_of-law, after-word, after-sign, clause-law, braced-law, parenthesized-law, separated-law, kept-law}
use Rattle.smi_text.proofs.RawLaws.{before_assign-law, before_end-law, balanced_tokens-law}
use Rattle.smi_text.specs.declared.trees.tree.Part.TheVariants as P
use Rattle.smi_text.specs.declared.trees.tree.Syntax.TheVariants as T
use Rattle.smi_text.specs.declared.trees.tree.Base.TheVariants as B
use Rattle.smi_text.specs.declared.trees.tree.Refinement.TheVariants as R
use Rattle.smi_text.specs.declared.trees.tree.Index.TheVariants as I
use Rattle.smi_text.specs.declared.trees.tree.DefKind.TheVariants as D

-- ---- identifiers

arc-law : Lawful (λ x. say.arc x ∷ []) g.arc
arc-law = unfold all in text_where-law

pub part-law : Lawful say.of_part g.part
part-law = unfold all in shaped-law
    (spelled-as (either-law {u = of_either _ _} arc-law (pair-law lower-law (maybe-law (parenthesized-law arc-law refl) refl) refl) refl)
    (elim [ inl n ↦ refl | inr (x, None) ↦ refl | inr (x, Some n) ↦ refl ]))
    (elim [ P.Number n ↦ inl (inl n, refl) | P.Name x ↦ inl (inr (x, None), refl) | P.NamedNumber n ↦ inl (inr (n.name, Some n.number), refl) ])

pub later_part-law : Lawful say.of_later_part g.later_part
later_part-law = unfold all in shaped-law (either-law arc-law (pair-law lower-law (parenthesized-law arc-law refl) refl) refl)
    (elim [ P.Number n ↦ inl (inl n, refl) | P.Name x ↦ inr refl | P.NamedNumber n ↦ inl (inr (n.name, n.number), refl) ])

value-law : Lawful say.of_value g.value
value-law = unfold all in after-sign (braced-law (some_of-law part-law later_part-law refl refl refl) refl)

-- ---- types

bound-law : Lawful (λ x. say.bound x ∷ []) g.bound
bound-law = unfold all is_bound in kept-law _ _ (λ t h. grind (arith, common_steps))

pub range-law : Lawful say.of_range g.range
range-law = unfold all in shaped-law (pair-law bound-law (maybe-law (after-sign bound-law) refl) refl) (λ r. inl (_, refl))

ranges-law : Lawful say.of_ranges g.ranges
ranges-law = unfold all in separated-law K.Bar range-law refl refl

pub named_number-law : Lawful say.of_named_number g.named_number
named_number-law = unfold all in shaped-law (pair-law lower-law (parenthesized-law text_where-law refl) refl) (λ n. inl (_, refl))

refinement-law : Lawful say.of_refinement g.refinement
refinement-law = unfold all in shaped-law
    (either-law (braced-law (separated-law K.Comma named_number-law refl refl) refl) (spelled-as
    (parenthesized-law (either-law {u = of_either _ _} (after-word (parenthesized-law ranges-law refl)) ranges-law refl) refl)
    (elim [ inl rs ↦ refl | inr rs ↦ refl ])) refl)
    (elim [ R.Numbers ns ↦ inl (inl ns, refl) | R.Values rs ↦ inl (inr (inr rs), refl) | R.Size rs ↦ inl (inr (inl rs), refl) ])

base-law : Lawful say.of_base g.base
base-law = unfold all in shaped-law
    ((word-law ∣ after-word word-law ∣ after-word word-law ∣ word-law ∣ last name-law) refl)
    (elim [
      | B.Integer ↦ inl (inl tt, refl)
      | B.OctetString ↦ inl (inr (inl tt), refl)
      | B.ObjectIdentifier ↦ inl (inr (inr (inl tt)), refl)
      | B.Bits ↦ inl (inr (inr (inr (inl tt))), refl)
      | B.Named x ↦ inl (inr (inr (inr (inr x))), refl)
    ])

simple_type-law : Lawful say.of_simple_type g.simple_type
simple_type-law = unfold all in shaped-law (pair-law base-law (maybe-law refinement-law refl) refl) (λ t. inl (_, refl))

syntax_type-law : Lawful say.of_syntax g.syntax_type
syntax_type-law = unfold all in shaped-law (either-law (after-word (after-word name-law)) simple_type-law refl)
    (elim [ T.SequenceOf x ↦ inl (inl x, refl) | T.Simple t ↦ inl (inr t, refl) ])

pub field-law : Lawful say.of_field g.field
field-law = unfold all in shaped-law (pair-law lower-law syntax_type-law refl) (λ f. inl (_, refl))

-- ---- clauses

names-law : Lawful say.of_names g.names
names-law = unfold all in braced-law (separated-law K.Comma lower-law refl refl) refl

status-law : Lawful say.of_status g.status
status-law = unfold all in shaped-law ((after-word text-law ▸ clause-law ▸ last (maybe-law clause-law refl)) refl) (λ s. inl (_, refl))

pub revision-law : Lawful say.of_revision g.revision
revision-law = unfold all in shaped-law (pair-law clause-law clause-law refl) (λ r. inl (_, refl))

index-law : Lawful say.of_index g.index
index-law = unfold all in shaped-law (either-law (after-word (braced-law index_names-law refl)) (after-word (braced-law lower-law refl)) refl)
    (elim [ I.Own p ↦ inl (inl p, refl) | I.Augments x ↦ inl (inr x, refl) ])

-- ---- definitions of a name that begins with a lower-case letter

module_identity-law : Lawful say.of_module_identity g.module_identity
module_identity-law = unfold all in shaped-law
    (after-word ((clause-law ▸ clause-law ▸ clause-law ▸ clause-law ▸ many-law revision-law refl refl ▸ last value-law) refl)) (λ m. inl (_, refl))

object_identity-law : Lawful say.of_object_identity g.object_identity
object_identity-law = unfold all in shaped-law (after-word (pair-law status-law value-law refl)) (λ d. inl (_, refl))

object_type-law : Lawful say.of_object_type g.object_type
object_type-law = unfold all in shaped-law (after-word ((after-word syntax_type-law ▸ maybe-law clause-law refl ▸ after-word text-law ▸ status-law
    ▸ maybe-law index-law refl ▸ maybe-law (after-word (braced-law balanced_tokens-law refl)) refl ▸ last value-law) refl)) (λ d. inl (_, refl))

notification_type-law : Lawful say.of_notification_type g.notification_type
notification_type-law = unfold all in shaped-law
    (after-word ((maybe-law (after-word names-law) refl ▸ status-law ▸ last value-law) refl)) (λ d. inl (_, refl))

group-law : (w v : List ℕ) → Lawful (say.of_group w v) (g.group w v)
group-law w v = unfold all in shaped-law (after-word ((after-word names-law ▸ status-law ▸ last value-law) refl)) (λ d. inl (_, refl))

raw_definition-law : (w : List ℕ) → Lawful (say.of_raw_definition w) (g.raw_definition w)
raw_definition-law w = unfold all in shaped-law (after-word (pair-law (many-law before_assign-law refl refl) value-law refl)) (λ d. inl (_, refl))

textual_convention-law : Lawful say.of_textual_convention g.textual_convention
textual_convention-law = unfold all in shaped-law
    (after-word ((maybe-law clause-law refl ▸ status-law ▸ last (after-word syntax_type-law)) refl)) (λ d. inl (_, refl))

-- how a definition of this kind is written: after a name that begins with a lower-case letter (0), after one that begins with an upper-case letter and `::=`
-- (1), or as a macro (2)
abbrev class : DefKind → ℕ
class (D.TextualConvention d) = 1
class (D.TypeAssignment d) = 1
class (D.Sequence fs) = 1
class (D.Choice xs) = 1
class (D.Macro xs) = 2
class _ = 0

-- the marks `s k` if the kind `k` is of class `n`; otherwise `nothing`, which no tokens match
abbrev only : ℕ → (DefKind → List Mark) → DefKind → List Mark
only n s k = if class k == n then s k else say.nothing

lower_definition-law : Lawful (only 0 say.of_kind) g.lower_definition
lower_definition-law = unfold all in shaped-law
    ((object_type-law ∣ preceded-law (after-word word-law) value-law refl ∣ object_identity-law ∣ module_identity-law ∣ notification_type-law
    ∣ group-law _ _ ∣ group-law _ _ ∣ raw_definition-law _ ∣ last (raw_definition-law _)) refl)
    (elim [
      | D.ObjectType d ↦ inl (inl d, refl)
      | D.ObjectIdentifier d ↦ inl (inr (inl d), refl)
      | D.ObjectIdentity d ↦ inl (inr (inr (inl d)), refl)
      | D.ModuleIdentity d ↦ inl (inr (inr (inr (inl d))), refl)
      | D.NotificationType d ↦ inl (inr (inr (inr (inr (inl d)))), refl)
      | D.ObjectGroup d ↦ inl (inr (inr (inr (inr (inr (inl d))))), refl)
      | D.NotificationGroup d ↦ inl (inr (inr (inr (inr (inr (inr (inl d)))))), refl)
      | D.ModuleCompliance d ↦ inl (inr (inr (inr (inr (inr (inr (inr (inl d))))))), refl)
      | D.AgentCapabilities d ↦ inl (inr (inr (inr (inr (inr (inr (inr (inr d))))))), refl)
      | _ ↦ inr refl
    ])

-- ---- definitions of a name that begins with an upper-case letter

abbrev of_assigned : DefKind → List Mark
of_assigned = only 1 (λ k. drop 1 (say.of_kind k))

type-made : (n : Option (List ℕ)) (t : Syntax) → (x : g.Assigned) × (g.to_assigned x ≡ D.TypeAssignment (record { tag = n; syntax = t }))
type-made (Some n) t = (inr (inr (inl (n, t))), refl)
type-made None (T.SequenceOf x) = (inr (inr (inr (inl (inr x)))), refl)
type-made None (T.Simple t) = (inr (inr (inr (inr t))), refl)

assigned-law : Lawful of_assigned g.assigned
assigned-law = unfold all in shaped-law
    ((textual_convention-law ∣ after-word (braced-law balanced_tokens-law refl)
    ∣ pair-law (after-sign (after-word (before-law text_where-law (after-sign word-law) refl))) syntax_type-law refl
    ∣ spelled-as (after-word (either-law {u = of_either _ _} (braced-law (separated-law K.Comma field-law refl refl) refl) (after-word name-law) refl))
    (elim [ inl fs ↦ refl | inr x ↦ refl ])
    ∣ last simple_type-law) refl)
    (elim [
      | D.TextualConvention d ↦ inl (inl d, refl)
      | D.Choice xs ↦ inl (inr (inl xs), refl)
      | D.TypeAssignment d ↦ inl (type-made d.tag d.syntax)
      | D.Sequence fs ↦ inl (inr (inr (inr (inl (inl fs)))), refl)
      | _ ↦ inr refl
    ])

macro_definition-law : Lawful (only 2 say.of_kind) g.macro_definition
macro_definition-law = unfold all in shaped-law
    (after-word (after-sign (after-word (before-law (many-law before_end-law refl refl) word-law refl))))
    (elim [ D.Macro xs ↦ inl (xs, refl) | _ ↦ inr refl ])

-- the spelling of a definition after its name, if that begins with an upper-case letter
abbrev of_upper : DefKind → List Mark
of_upper (D.Macro xs) = say.of_kind (D.Macro xs)
of_upper k = sign K.Assign ∷ of_assigned k

upper_definition-law : Lawful of_upper g.upper_definition
upper_definition-law = unfold all in made-law (either-law {u = of_either _ _} (after-sign assigned-law) macro_definition-law refl)
    (λ ts rest x h. grind (arith, common_steps, never-matched))
    (λ ts rest. elim [ D.Macro xs ↦ λ h. (inr _, refl, h) | k ↦ λ h. (inl _, refl, h) ])

-- ---- the names of macros

macro-ahead : (t : Lexeme) → same_kind t.kind K.Upper ≡ true → is_macro t.text ≡ true → list_any (meets t) g.macro_words ≡ true
unfolding is_macro
macro-ahead t k h = rw (same_kind-eq t.kind K.Upper k) h

macro_name-law : Lawful (λ (x : Name). spelled K.Upper x.octets (is_macro x.octets) ∷ []) g.macro_name
macro_name-law = unfold all in name_where-law g.macro_words K.Upper is_macro macro-ahead

pub begins_macro : (t : Lexeme) (ts : List Item) → t.kind ≡ K.Upper → begins g.macro_words (Ok t ∷ ts) ≡ is_macro t.text
unfolding begins is_macro
begins_macro t ts e = rw e refl

-- ---- definitions

-- the spelling of a definition, by its name: one that begins with a lower-case letter, one that begins with an upper-case letter, or a macro's reserved word
abbrev of_labelled : g.Labelled ⊎ (g.Labelled ⊎ g.Labelled) → List Mark
of_labelled (inl p) = on_line p.0.0 (say.lower p.0.1) ∷ only 0 say.of_kind p.1
of_labelled (inr (inl p)) = on_line p.0.0 (say.upper p.0.1) ∷ of_upper p.1
of_labelled (inr (inr p)) = on_line p.0.0 (spelled K.Upper p.0.1.octets (is_macro p.0.1.octets)) ∷ only 2 say.of_kind p.1

def-forth : (ts rest : List Item) (x : g.Labelled ⊎ (g.Labelled ⊎ g.Labelled)) → ItemsMatch (of_labelled x) ts rest
    → ItemsMatch (say.of_def (g.to_def x)) ts rest
def-forth ts rest x h = grind (arith, common_steps, never-matched)

def-back : (ts rest : List Item) (d : Def) → ItemsMatch (say.of_def d) ts rest → let p : g.Labelled = ((d.line, d.label), d.kind) in
    ItemsMatch (of_labelled (inl p)) ts rest ⊎ (ItemsMatch (of_labelled (inr (inl p))) ts rest ⊎ ItemsMatch (of_labelled (inr (inr p))) ts rest)
def-back ts rest d h = grind (arith, common_steps)

pub definition-law : Lawful say.of_def g.definition
definition-law = unfold all in made-law {s = of_labelled}
    ((pair-law (lined-law lower-law refl) lower_definition-law refl ∣ pair-law (lined-law name-law refl) upper_definition-law refl
    ∣ last (pair-law (lined-law macro_name-law refl) macro_definition-law refl)) refl)
    def-forth
    (λ ts rest d h. elim (def-back ts rest d h) [ inl s ↦ (inl _, refl, s) | inr (inl s) ↦ (inr (inl _), refl, s) | inr (inr s) ↦ (inr (inr _), refl, s) ])

-- ---- imports and modules

-- if a token can be imported, then it is as the grammar says: a word that begins with a lower-case letter, a name that begins with an upper-case letter, or
-- the name of a macro
symbol-ahead : (t : Lexeme) → is_symbol t.kind t.text ≡ true → list_any (meets t) (a_kind K.Lower ∷ a_name ∷ g.macro_words) ≡ true
unfolding is_symbol
symbol-ahead t h = grind (arith, common_steps, or_cases, and_parts, or_right, macro-ahead)

pub imported_symbol-law : Lawful (λ x. say.imported_symbol x ∷ []) g.imported_symbol
imported_symbol-law = unfold all in kept-law _ _ symbol-ahead

pub import_clause-law : Lawful say.of_import g.import_clause
import_clause-law = unfold all in shaped-law
    (lined-law (pair-law (separated-law K.Comma imported_symbol-law refl refl) (after-word name-law) refl) refl) (λ i. inl (_, refl))

abbrev of_head : Head → List Mark
of_head h = say.of_head h.name h.heading h.imports

pub head-law : Lawful of_head g.head
head-law = unfold all in shaped-law
    ((name-law ▸ maybe-law (braced-law (many-law part-law refl refl) refl) refl ▸ last (preceded-law (after-word (after-sign word-law))
    (maybe-law (after-word (before-law (many-law import_clause-law refl refl) (token-law K.Semicolon) refl)) refl) refl)) refl)
    (λ h. inl (_, refl))

pub module_text-law : Lawful say.of_module g.module_text
module_text-law = unfold all in shaped-law (pair-law head-law (before-law (many-law definition-law refl refl) word-law refl) refl) (λ m. inl (_, refl))

pub file-law : Lawful say.spelling g.file
file-law = unfold all in many-law module_text-law refl refl
